-- Ends of the program without a replay that break its promises. Sources and sinks are numbers here.
use Rattle.std.proofs.Common.{◌≡◌, ℕ, [], ◌∷◌, ⊎_elim, Ok, Some, None, false, refl, arith}
use Rattle.std.specs.Prelude.{codes, List}
use Rattle.hmc_outside.specs.Views.{SourceView, SinkView}
use Rattle.hmc_replay.specs.declared.form.Form.TheVariants.{Run}
use Rattle.hmc_main.specs.Ends.{EndsBy, EndsWith, IsWithoutSink}

not_one : ◌≡◌ {A = ℕ} 1 0 → ⊥
not_one is = omega arith

-- ---- the words can't be had

-- the status is another one
ends_with-other : EndsWith {S = ℕ} {O = ℕ} 2 0 0 0 0 1 → ⊥
ends_with-other is = let off : ◌≡◌ {A = ℕ} 1 2 = is.status_is in omega (arith, off)

-- something is read, or written
ends_with-read : EndsWith {S = ℕ} {O = ℕ} 1 0 1 0 0 1 → ⊥
ends_with-read is = not_one is.source_same

ends_with-written : EndsWith {S = ℕ} {O = ℕ} 1 0 0 0 1 1 → ⊥
ends_with-written is = not_one is.sink_same

-- ---- the words can be had

some_none : Some Run ≡ None → ⊥
some_none is = cc

abbrev source : SourceView
source = record { left = None; reads = 0; empty_reads = 0; faults = 0; stops = 0; stopped = false; failed = false }

abbrev sink : SinkView
sink = record { pieces = None; bytes = None; writes = 0; finishes = 0; faults = 0; failed = false; finished = false }

abbrev EndsAtOnce : (words : List (List ℕ)) → (status : ℕ) → Type 0
EndsAtOnce words status = EndsBy (λ (w : List (List ℕ)). w) (Ok words) (λ (s : SourceView). s) (λ (o : SinkView). o) source source sink sink status

-- words that are no form end with 2, and never with 1
ends-memory : EndsAtOnce [] 1 → ⊥
ends-memory is =
    ⊎_elim (λ r. let two : ◌≡◌ {A = ℕ} 1 2 = r.usage.1 refl in omega (arith, two)) (λ w. let two : ◌≡◌ {A = ℕ} 1 2 = w.usage refl in omega (arith, two)) is

-- and words that are a form never end with 2
ends-usage : EndsAtOnce (codes "run" ∷ []) 2 → ⊥
ends-usage is =
    ⊎_elim (λ r. some_none (r.usage.0 refl)) (λ w. let one : ◌≡◌ {A = ℕ} 2 1 = w.form refl in omega (arith, one)) is

-- ---- there is no memory for the sink

-- the status is 2
without_sink-usage : IsWithoutSink {S = ℕ} 0 0 2 → ⊥
without_sink-usage is = let off : ◌≡◌ {A = ℕ} 2 1 = is.memory in omega (arith, off)

-- something is read
without_sink-read : IsWithoutSink {S = ℕ} 0 1 1 → ⊥
without_sink-read is = not_one is.source_same

-- The two lines of `bound`, one after the other.
use Rattle.std.proofs.Common.{◌≡◌, ℕ, [], ◌∷◌, Result, subst}
use Rattle.hmc_outside.specs.Lines.{WritesLines, BreaksOff}
use Rattle.hmc_outside.specs.Views.{SinkView}
use Rattle.hmc_outside.specs.declared.counts.Failed.{Failed}
use Rattle.hmc_outside.proofs.LinesLemmas.{BreaksOff-more}
use Rattle.hmc_replay.specs.BoundLines.{underway_line, bound_line}
use Rattle.hmc_replay.specs.Output.{Writes}
use Rattle.hmc_replay.proofs.Writing.{Writes-after}

pub first-broken : (a b : SinkView) (told number rounds : ℕ) → told ≡ number →
    BreaksOff a b (underway_line told ∷ []) →
    BreaksOff a b (underway_line number ∷ bound_line rounds ∷ [])
first-broken a b told number rounds is broken =
    BreaksOff-more a b (underway_line number ∷ []) (bound_line rounds ∷ [])
    (subst (λ (n : ℕ). BreaksOff a b (underway_line n ∷ [])) is broken)

pub both-written : (a b c : SinkView) (told number shown rounds : ℕ)
    (result : Result (Unit {0}) Failed) → told ≡ number → shown ≡ rounds →
    WritesLines a b (underway_line told ∷ []) → Writes result b c (bound_line shown ∷ []) →
    Writes result a c (underway_line number ∷ bound_line rounds ∷ [])
both-written a b c told number shown rounds result is shown_is first rest =
    Writes-after a b c (underway_line number ∷ []) (bound_line rounds ∷ []) result
    (subst (λ (n : ℕ). WritesLines a b (underway_line n ∷ [])) is first)
    (subst (λ (n : ℕ). Writes result b c (bound_line n ∷ [])) shown_is rest)

-- Results of `replay_on` that break what it promises of the bench.
use Rattle.std.proofs.Common.{◌≡◌, ◌∙◌, ◌⊎◌, inl, inr, ℕ, suc, Bool, true, false, List, [], ◌∷◌, ◌++◌, length, Option, None, Some, Result, Ok, Err, refl, sym, ap, arith}
use Rattle.hmc_entries.specs.declared.entry.Entry.{Entry}
use Rattle.hmc_entries.specs.Text.{lines_of}
use Rattle.hmc_journal.specs.Lawful.{Lawful, journal_of}
use Rattle.hmc_journal.specs.Setup.{Setup}
use Rattle.hmc_journal.specs.StepView.{state_of}
use Rattle.hmc_outside.specs.Lines.{BreaksOff}
use Rattle.hmc_outside.specs.Views.{SinkView}
use Rattle.hmc_outside.specs.declared.counts.Failed.{Failed}
use Rattle.hmc_units.specs.Unit.{UnitFields}
use Rattle.hmc_replay.specs.Left.{AreLeft, AreLeftAt, IsLeft}
use Rattle.hmc_replay.specs.declared.extent.Extent.TheVariants.{Whole, Short}

longer : {X : Type 0} (x : X) (xs : List X) → x ∷ xs ≡ xs → ⊥
longer x xs is = let off : suc (length xs) ≡ length xs = ap length is in omega (arith, off)

-- a slot more than the journal leaves
left-more : (setup : Setup) (a b : SinkView) → IsLeft (Ok false) Whole setup (None ∷ (state_of setup (journal_of setup)).slots) a b → ⊥
left-more setup a b is = longer None (state_of setup (journal_of setup)).slots is

-- so it is where the short report failed
left-short : (setup : Setup) (failed : Failed) (a b : SinkView) → IsLeft (Err failed) Short setup (None ∷ (state_of setup (journal_of setup)).slots) a b → ⊥
left-short setup failed a b is = longer None (state_of setup (journal_of setup)).slots is

-- ---- the first line broke off

abbrev opened : SinkView
opened = record { pieces = Some []; bytes = Some []; writes = 0; finishes = 0; faults = 0; failed = false; finished = false }

abbrev broken : SinkView
broken = record opened { writes = 1; faults = 1; failed = true }

abbrev is_empty : Option (List (List ℕ)) → Bool
is_empty (Some (piece ∷ pieces)) = false
is_empty _ = true

no_pieces : (whole more : List (List ℕ)) → Some [] ≡ Some (whole ++ more) → whole ≡ []
no_pieces [] more is = refl
no_pieces (piece ∷ whole) more is = let off : true ≡ false = ap is_empty is in absurd (cc)

one_line : (whole rest lines : List (List ℕ)) (line : List ℕ) → whole ≡ [] → rest ≡ [] → lines ≡ whole ++ line ∷ rest → lines ≡ line ∷ []
one_line whole rest lines line none last parts = parts ∙ ap (λ l. l ++ line ∷ rest) none ∙ ap (λ l. line ∷ l) last

-- one step was taken and no other: the slots are those that a lawful journal of one line leaves
left-first : (setup : Setup) (slots : List (Option UnitFields)) → AreLeftAt setup slots opened broken → (past : List Entry) × (line : List ℕ) × Lawful setup past × (lines_of past ≡ line ∷ []) × AreLeft setup past slots
left-first setup slots is =
    (is.past, is.broken.line, is.lawful, one_line is.broken.whole is.broken.rest (lines_of is.past) is.broken.line (no_pieces is.broken.whole _ is.broken.pieces) is.last is.broken.parts, is.slots_are)

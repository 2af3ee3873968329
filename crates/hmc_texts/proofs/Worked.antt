-- Which bytes are a line, and which are none. That the numbers of the steps fit has to be asked.
use Rattle.std.proofs.Common.{◌≡◌, ◌<◌, true, false, [], ◌∷◌, ◌++◌, codes, refl, arith}
use Rattle.hmc_schedule.specs.declared.step.Step.TheVariants as steps
use Rattle.hmc_entries.specs.Parse.{FitsTypes}
use Rattle.hmc_entries.specs.declared.entry.Entry.TheVariants.{Unlocked}
use Rattle.hmc_journal.specs.Lawful.{Lawful}
use Rattle.hmc_journal.specs.Next.{next, choice}
use Rattle.hmc_journal.specs.Setup.{Setup}
use Rattle.hmc_texts.specs.Texts.{is_line}

words-line : is_line (codes "idle give 0 ended" ++ 10 ∷ []) ≡ true
unfolding is_line
words-line = refl

empty-line : is_line (10 ∷ []) ≡ true
unfolding is_line
empty-line = refl

-- no bytes, no line feed, two lines, and a line with a beginning of another
nothing-line : is_line [] ≡ false
unfolding is_line
nothing-line = refl

open-line : is_line (codes "idle give 0 ended") ≡ false
unfolding is_line
open-line = refl

two-lines : is_line (codes "state" ++ 10 ∷ codes "busy" ++ 10 ∷ []) ≡ false
unfolding is_line
two-lines = refl

more-line : is_line (codes "state busy" ++ 10 ∷ 32 ∷ []) ≡ false
unfolding is_line
more-line = refl

-- a step that no case has: its entry is lawful, and its number is no byte

far_unlock : Setup
far_unlock = record {
  topology = record { cubes = []; links = [] };
  slots = [];
  script = [];
  schedule = steps.Unlock 256 ∷ [];
}

far-lawful : Lawful far_unlock (Unlocked 256 ∷ [])
unfolding Lawful far_unlock next choice
far-lawful = (refl, refl, tt)

far-fits : FitsTypes (Unlocked 256) → ⊥
far-fits is = let off : 256 < 256 = is in omega (arith, off)

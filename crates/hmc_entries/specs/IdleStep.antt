-- Steps that did nothing: the steps themselves, and their words.
use Rattle.std.specs.Prelude.{ℕ, List, [], ◌∷◌, codes}
use Rattle.std.specs.Fmt.{decimal}
use Rattle.hmc_codes.specs.Flit.{zero_flit}
use Rattle.hmc_schedule.specs.declared.step.Step.{Step}
use Rattle.hmc_schedule.specs.declared.step.Step.TheVariants as steps
use Rattle.hmc_entries.specs.Lines.{lift_text}
use Rattle.hmc_entries.specs.declared.idle_step.IdleStep.{IdleStep}
use Rattle.hmc_entries.specs.declared.idle_step.IdleStep.TheVariants as idles

-- the step; a landing has the mask that changes nothing
abbrev pub idle_step : IdleStep → Step
idle_step (idles.Give host) = steps.Give host
idle_step (idles.Send direction) = steps.Send direction
idle_step (idles.Land direction) = steps.Land direction zero_flit
idle_step (idles.Shift cube port) = steps.Shift cube port
idle_step (idles.Spread cube vault) = steps.Spread cube vault
idle_step (idles.Bank cube vault bank) = steps.Bank cube vault bank
idle_step (idles.Registers cube) = steps.Registers cube
idle_step (idles.Lift cube from) = steps.Lift cube from
idle_step (idles.Take host) = steps.Take host
idle_step (idles.Through cube port) = steps.Through cube port
idle_step (idles.Unlock direction) = steps.Unlock direction
idle_step (idles.Retire slot) = steps.Retire slot

-- its words
abbrev pub idle_words : IdleStep → List (List ℕ)
idle_words (idles.Give host) = codes "give" ∷ decimal host ∷ []
idle_words (idles.Send direction) = codes "send" ∷ decimal direction ∷ []
idle_words (idles.Land direction) = codes "land" ∷ decimal direction ∷ []
idle_words (idles.Shift cube port) = codes "shift" ∷ decimal cube ∷ decimal port ∷ []
idle_words (idles.Spread cube vault) = codes "spread" ∷ decimal cube ∷ decimal vault ∷ []
idle_words (idles.Bank cube vault bank) =
    codes "bank" ∷ decimal cube ∷ decimal vault ∷ decimal bank ∷ []
idle_words (idles.Registers cube) = codes "registers" ∷ decimal cube ∷ []
idle_words (idles.Lift cube from) = codes "lift" ∷ decimal cube ∷ lift_text from ∷ []
idle_words (idles.Take host) = codes "take" ∷ decimal host ∷ []
idle_words (idles.Through cube port) = codes "through" ∷ decimal cube ∷ decimal port ∷ []
idle_words (idles.Unlock direction) = codes "unlock" ∷ decimal direction ∷ []
idle_words (idles.Retire slot) = codes "retire" ∷ decimal slot ∷ []

-- A step has the words of the step that did nothing.
use Rattle.std.proofs.Common.{◌≡◌, refl}
use Rattle.hmc_entries.specs.Lines.{step_words}
use Rattle.hmc_entries.specs.IdleStep.{idle_step, idle_words}
use Rattle.hmc_entries.specs.declared.idle_step.IdleStep.{IdleStep}
use Rattle.hmc_entries.specs.declared.idle_step.IdleStep.TheVariants as idles

pub words_of_step : (step : IdleStep) → step_words (idle_step step) ≡ idle_words step
words_of_step (idles.Give host) = refl
words_of_step (idles.Send direction) = refl
words_of_step (idles.Land direction) = refl
words_of_step (idles.Shift cube port) = refl
words_of_step (idles.Spread cube vault) = refl
words_of_step (idles.Bank cube vault bank) = refl
words_of_step (idles.Registers cube) = refl
words_of_step (idles.Lift cube from) = refl
words_of_step (idles.Take host) = refl
words_of_step (idles.Through cube port) = refl
words_of_step (idles.Unlock direction) = refl
words_of_step (idles.Retire slot) = refl

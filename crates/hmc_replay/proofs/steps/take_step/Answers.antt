-- The network's last entry is that of the step.
use Rattle.std.proofs.Common.{◌∙◌, ap, sym}
use Rattle.hmc_entries.specs.Event.{is_passed}
use Rattle.hmc_replay.specs.Steps.{step_passed}
use Rattle.hmc_replay.proofs.Stepping.{after_step, went_passed}
use Rattle.hmc_replay.proofs.steps.take_step.Goals as goal

pub returns : goal.returns
returns g c = λ setup past due.
    after_step _ setup past _ _ (c.step.ensures.stands setup past due) (c.step.ensures.last setup past due) (c.has_passed.ensures ∙ ap step_passed (c.step.ensures.went setup past due) ∙ went_passed _ ∙ ap is_passed (sym (c.step.ensures.last setup past due)))

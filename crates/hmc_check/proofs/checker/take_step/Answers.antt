-- The step is the next one, and the last entry is that of it.
use Rattle.std.proofs.Common.{◌∙◌, ap}
use Rattle.hmc_entries.specs.Event.{is_passed}
use Rattle.hmc_check.proofs.Following.{after_step}
use Rattle.hmc_check.proofs.checker.take_step.Goals as goal

pub step-requires : goal.step-requires
step-requires g c =
    let due = c.requires.2 in (c.requires.0, c.requires.1, due.next, due.counts)

pub returns : goal.returns
returns g c = λ setup lines due.
    after_step _ setup lines _ _ (c.step.ensures.keeps setup lines due.next due.counts) (c.step.ensures.last setup lines due.next) (c.has_passed.ensures ∙ ap is_passed c.last.ensures)

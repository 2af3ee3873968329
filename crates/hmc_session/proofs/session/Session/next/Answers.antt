-- A step that isn't at hand is found, and the list was not changed before.
use Rattle.std.proofs.Common.{◌∙◌, ap}
use Rattle.hmc_schedule.specs.Written.{WrittenFields}
use Rattle.hmc_session.proofs.session.Session.next.Goals as goal

pub returns-clause-steps : goal.returns-clause-steps
returns-clause-steps g c = λ step rest is.
    c.next_found.ensures.steps step rest (ap (λ (w : WrittenFields). w.steps) c.in_default.ensures.none ∙ c.laid.view_is ∙ is)

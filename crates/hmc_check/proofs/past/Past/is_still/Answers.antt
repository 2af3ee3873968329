-- Each test says so.
use Rattle.std.proofs.Common.{◌∙◌, ap}
use Rattle.hmc_check.specs.Finished.{is_still}
use Rattle.hmc_check.specs.Past.{PastParts, past_of}
use Rattle.hmc_check.proofs.Shown.{still_by}
use Rattle.hmc_check.proofs.past.Past.is_still.Goals as goal

pub returns : goal.returns
returns g c =
    still_by c.self.inside.ends c.self.inside.queues c.are_quiet-ends.result c.are_empty-queues.result c.both.result c.are_quiet-ends.ensures c.are_empty-queues.ensures c.both.ensures
    ∙ ap (λ (v : PastParts _). is_still (past_of g.B.Workbench.slots v)) c.self.view_is

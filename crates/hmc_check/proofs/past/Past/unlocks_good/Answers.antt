-- The end of the direction knows what its receiver waits for.
use Rattle.std.proofs.Common.{◌∙◌, ap}
use Rattle.hmc_check.specs.Past.{PastParts, past_of}
use Rattle.hmc_check.proofs.Counting.{good_seen}
use Rattle.hmc_check.proofs.past.Past.unlocks_good.Goals as goal

pub returns-in-Unlock : goal.returns-in-Unlock
returns-in-Unlock g c = λ setup past is.
    c.is_good.ensures ∙ good_seen setup past (past_of g.B.Workbench.slots c.args.self.now) c.args.step.now c.in-Unlock.direction c.self.inside.ends c.mode.result is (ap (λ (v : PastParts _). v.ends) c.self.view_is) c.in-Unlock.is c.mode.ensures

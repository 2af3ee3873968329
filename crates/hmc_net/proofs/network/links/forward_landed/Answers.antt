-- What landed, if a flit did.
use Rattle.std.proofs.Common.{sym, subst}
use Rattle.hmc_ends.specs.declared.link_outcome.LinkOutcome.{LinkOutcome}
use Rattle.hmc_links.specs.LinkList.{LinksStandFor}
use Rattle.hmc_kept.specs.LinkAnswers.{landing_goes_on}
use Rattle.hmc_kept.specs.Called.{taken_where}
use Rattle.hmc_net.proofs.network.links.forward_landed.Goals as goal

pub returns-in-Came-clause-stands : goal.returns-in-Came-clause-stands
returns-in-Came-clause-stands c = λ rows entries stand.
    subst (λ (l : LinkOutcome). LinksStandFor rows c.forward_came.new.links (taken_where (landing_goes_on c.args.piped.now c.args.direction l) rows c.args.direction entries)) (sym c.in-Came.is) (c.forward_came.ensures.stands rows entries stand)

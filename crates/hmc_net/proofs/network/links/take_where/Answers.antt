-- The packet is taken where it has gone on.
use Rattle.std.proofs.Common.{Bool, sym, subst}
use Rattle.hmc_links.specs.LinkList.{LinksStandFor}
use Rattle.hmc_kept.specs.Called.{taken_where}
use Rattle.hmc_net.proofs.network.links.take_where.Goals as goal

pub returns-then-goes-clause-stands : goal.returns-then-goes-clause-stands
returns-then-goes-clause-stands c = λ rows entries stand.
    subst (λ (t : Bool). LinksStandFor rows c.take.new.self (taken_where t rows c.args.direction entries)) (sym c.if-goes.true) (c.take.ensures rows entries stand)

pub returns-else-goes-clause-stands : goal.returns-else-goes-clause-stands
returns-else-goes-clause-stands c = λ rows entries stand.
    subst (λ (t : Bool). LinksStandFor rows c.args.links.now (taken_where t rows c.args.direction entries)) (sym c.if-goes.false) stand

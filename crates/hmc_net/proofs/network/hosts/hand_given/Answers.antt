-- A request may be sent, and is handed to the link.
use Rattle.std.proofs.Common.{sym, subst}
use Rattle.hmc_net.specs.Gives.{entries_given, IsRequested}
use Rattle.hmc_links.specs.LinkList.{LinksStandFor}
use Rattle.hmc_net.proofs.HostSteps.{may_hand}
use Rattle.hmc_net.proofs.network.hosts.hand_given.Goals as goal

pub hand-requires-clause-may : goal.hand-requires-clause-may
hand-requires-clause-may c = may_hand c.args.links.now c.args.direction c.args.given.now c.in-Gave.packet c.in-Gave.request c.in-Gave.tag c.in-Gave.poisoned c.invariant.ensures c.requires.fit c.in-Gave.is

pub returns-in-Gave-clause-stands : goal.returns-in-Gave-clause-stands
returns-in-Gave-clause-stands c = λ rows entries stand.
    subst (λ g. LinksStandFor rows c.hand.new.self (entries_given rows c.args.direction g entries)) (sym c.in-Gave.is) (c.hand.ensures rows entries stand)

pub returns-in-Gave-clause-asks : goal.returns-in-Gave-clause-asks
returns-in-Gave-clause-asks c = subst IsRequested (sym c.in-Gave.is) c.invariant.ensures

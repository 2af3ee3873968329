-- The framing that is lost is the entry of the definition.
use Rattle.std.proofs.Common.{◌<◌, length, ap, sym, subst, arith}
use Rattle.hmc_net.specs.NetState.{net_of, NetState}
use Rattle.hmc_links.specs.LinkList.{AreGoing, IsDirection}
use Rattle.hmc_kept.specs.Pipes.{AreGathering}
use Rattle.hmc_net.proofs.LinkDoes.{unlock_for}
use Rattle.hmc_kept.proofs.Forwarded.{are_gathering}
use Rattle.hmc_net.proofs.Seeing.{shows_pipes}
use Rattle.hmc_net.proofs.network.Network.unlock.Goals as goal

pub unlock-requires-clause-there : goal.unlock-requires-clause-there
unlock-requires-clause-there g c =
    subst (λ (n : NetState). IsDirection n.links c.args.direction) (sym (ap (net_of g.B.Workbench.slots) c.self.view_is)) (omega (arith, c.requires.there, c.requires.ready.sees.shows.links.count))

pub unlock-requires-clause-going : goal.unlock-requires-clause-going
unlock-requires-clause-going g c = subst (λ (n : NetState). AreGoing n.links) (sym (ap (net_of g.B.Workbench.slots) c.self.view_is)) c.requires.ready.sees.shows.links.going

pub lose-requires-clause-there : goal.lose-requires-clause-there
lose-requires-clause-there g c =
    let view = ap (net_of g.B.Workbench.slots) c.self.view_is in
    subst (λ (n : NetState). c.args.direction < length n.piped.forwarded) (sym view) (omega (arith, c.requires.there, c.requires.ready.sized.piped.forwarded))

pub lose-requires-clause-gathering : goal.lose-requires-clause-gathering
lose-requires-clause-gathering g c =
    let net = net_of g.B.Workbench.slots c.args.self.now in
    let view = ap (net_of g.B.Workbench.slots) c.self.view_is in
    let ready = c.requires.ready in
    subst (λ (n : NetState). AreGathering n.piped c.args.direction) (sym view) (are_gathering net.topology ready.view net.piped c.args.direction ready.sees.laws (shows_pipes net ready.view ready.sized ready.sees) c.requires.there)

pub returns-clause-does : goal.returns-clause-does
returns-clause-does g c = unlock_for _ (net_of g.B.Workbench.slots c.args.self.now) c.unlock.new.self c.lose.new.self c.unlocked.new.self c.args.direction (ap (net_of g.B.Workbench.slots) c.self.view_is) c.requires.ready c.unlocked.ensures c.unlock.ensures c.lose.ensures

-- What lands is the entry of the definition.
use Rattle.std.proofs.Common.{◌<◌, length, ap, sym, subst, arith}
use Rattle.hmc_links.specs.LinkList.{AreGoing, IsDirection, LinksStandFor}
use Rattle.hmc_net.specs.Links.{MayForward}
use Rattle.hmc_net.specs.NetState.{net_of, NetState}
use Rattle.hmc_net.proofs.LinkDoes.{land_for}
use Rattle.hmc_net.proofs.Forwarding.{may_forward_landed}
use Rattle.hmc_net.proofs.network.Network.land.Goals as goal

pub land-landed-requires-clause-there : goal.land-landed-requires-clause-there
land-landed-requires-clause-there g c =
    subst (λ (n : NetState). IsDirection n.links c.args.direction) (sym (ap (net_of g.B.Workbench.slots) c.self.view_is)) (omega (arith, c.requires.there.some_direction, c.requires.ready.sees.shows.links.count))

pub land-landed-requires-clause-going : goal.land-landed-requires-clause-going
land-landed-requires-clause-going g c = subst (λ (n : NetState). AreGoing n.links) (sym (ap (net_of g.B.Workbench.slots) c.self.view_is)) c.requires.ready.sees.shows.links.going

pub forward_landed-requires-clause-count : goal.forward_landed-requires-clause-count
forward_landed-requires-clause-count g c =
    let view = ap (net_of g.B.Workbench.slots) c.self.view_is in
    subst (λ (n : NetState). c.args.direction < length n.piped.forwarded) (sym view) (omega (arith, c.requires.there.some_direction, c.requires.ready.sized.piped.forwarded))

pub forward_landed-requires-clause-may : goal.forward_landed-requires-clause-may
forward_landed-requires-clause-may g c =
    let net = net_of g.B.Workbench.slots c.args.self.now in
    let view = ap (net_of g.B.Workbench.slots) c.self.view_is in
    subst (λ (n : NetState). MayForward c.land-landed.new.self n.piped c.args.direction c.land-landed.result) (sym view)
    (may_forward_landed net c.args.direction c.args.mask.now c.land-landed.result c.land-landed.new.self c.requires.ready c.requires.there.some_direction
    (λ rows entries stand. c.land-landed.ensures.answer rows entries (subst (λ (n : NetState). LinksStandFor rows n.links entries) (sym view) stand))
    (λ rows entries stand. c.land-landed.ensures.stand rows entries (subst (λ (n : NetState). LinksStandFor rows n.links entries) (sym view) stand)))

pub returns-clause-does : goal.returns-clause-does
returns-clause-does g c =
    land_for _ (net_of g.B.Workbench.slots c.args.self.now) c.land-landed.new.self c.forward_landed.new.links c.forward_landed.new.piped c.note_landed.new.last c.args.direction c.args.mask.now c.land-landed.result (ap (net_of g.B.Workbench.slots) c.self.view_is) c.requires.ready c.requires.there c.note_landed.ensures.entry c.note_landed.ensures.size
    c.land-landed.ensures.answer c.land-landed.ensures.stand c.land-landed.ensures.idle c.forward_landed.ensures.stands c.forward_landed.ensures.idle c.forward_landed.ensures.piped

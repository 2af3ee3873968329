-- A packet can go on if it isn't forwarded yet, no packet waits there, and the other direction is ready.
use Rattle.std.proofs.Common.{◌<◌, ◌∙◌, Option, length, ℕ, ap, sym, subst, arith}
use Rattle.std.specs.Prelude.{is_some}
use Rattle.hmc_links.specs.LinkList.{AreGoing, IsDirection, IsArrival, IsTaking}
use Rattle.hmc_net.specs.NetState.{net_of, NetState}
use Rattle.hmc_kept.specs.Pipes.{forwarded_at}
use Rattle.hmc_kept.proofs.Throughs.{free_found}
use Rattle.hmc_net.proofs.network.Network.may_forward.Goals as goal

pub onto-forwarded-requires : goal.onto-forwarded-requires
onto-forwarded-requires g c =
    let view = ap (net_of g.B.Workbench.slots) c.self.view_is in
    subst (λ (n : NetState). c.args.from < length n.piped.forwarded) (sym view) (omega (arith, c.requires.from, c.requires.ready.sized.piped.forwarded))

pub has_arrived-arrived-requires : goal.has_arrived-arrived-requires
has_arrived-arrived-requires g c =
    let view = ap (net_of g.B.Workbench.slots) c.self.view_is in
    subst (λ (n : NetState). IsDirection n.links c.args.from) (sym view) (omega (arith, c.requires.from, c.requires.ready.sees.shows.links.count))

pub through_ready-ready-requires-clause-there : goal.through_ready-ready-requires-clause-there
through_ready-ready-requires-clause-there g c =
    let view = ap (net_of g.B.Workbench.slots) c.self.view_is in
    subst (λ (n : NetState). IsDirection n.links c.args.onto) (sym view) (omega (arith, c.requires.onto, c.requires.ready.sees.shows.links.count))

pub through_ready-ready-requires-clause-going : goal.through_ready-ready-requires-clause-going
through_ready-ready-requires-clause-going g c = subst (λ (n : NetState). AreGoing n.links) (sym (ap (net_of g.B.Workbench.slots) c.self.view_is)) c.requires.ready.sees.shows.links.going

pub returns : goal.returns
returns g c = λ seen sees.
    let net = net_of g.B.Workbench.slots c.args.self.now in
    let view = ap (net_of g.B.Workbench.slots) c.self.view_is in
    c.may_go.ensures
    ∙ free_found net.topology seen net.piped c.args.from c.args.onto c.args.flits c.is_some.result c.has_arrived-arrived.result c.through_ready-ready.result sees.laws c.requires.from (sees.shows.forwarded c.args.from c.requires.from)
    (c.is_some.ensures ∙ ap (λ (o : Option ℕ). is_some o) (c.onto-forwarded.ensures ∙ ap (λ (n : NetState). forwarded_at n.piped c.args.from) view))
    (subst (λ (n : NetState). IsArrival n.links c.args.from c.has_arrived-arrived.result) view c.has_arrived-arrived.ensures net.topology.links seen.entries sees.shows.links)
    (subst (λ (n : NetState). IsTaking n.links c.args.onto c.args.flits c.through_ready-ready.result) view c.through_ready-ready.ensures net.topology.links seen.entries sees.shows.links)

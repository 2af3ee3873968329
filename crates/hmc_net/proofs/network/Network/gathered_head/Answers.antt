-- The head is that of the first flit that is gathered.
use Rattle.std.proofs.Common.{◌∙◌, ℕ, List, Option, Some, None, ap, sym, subst, arith}
use Rattle.std.specs.Prelude.{option_and_then}
use Rattle.hmc_packet.specs.Head.{head_in}
use Rattle.hmc_links.specs.LinkList.{IsDirection, IsGathered}
use Rattle.hmc_net.specs.NetState.{net_of, NetState}
use Rattle.hmc_kept.proofs.Throughs.{head_found}
use Rattle.hmc_net.proofs.network.Network.gathered_head.Goals as goal

pub through_view-requires : goal.through_view-requires
through_view-requires g c =
    let view = ap (net_of g.B.Workbench.slots) c.self.view_is in
    subst (λ (n : NetState). IsDirection n.links c.args.from) (sym view) (omega (arith, c.requires.there, c.requires.ready.sees.shows.links.count))

pub returns-in_err-flits : goal.returns-in_err-flits
returns-in_err-flits g c = λ seen sees.
    let net = net_of g.B.Workbench.slots c.args.self.now in
    let view = ap (net_of g.B.Workbench.slots) c.self.view_is in
    c.from_residual.ensures
    ∙ head_found net.topology seen c.args.from None sees.laws c.requires.there
    (subst (λ (n : NetState). IsGathered n.links c.args.from None) view (λ rows entries stand. c.in_err-flits.ensures rows entries stand) net.topology.links seen.entries sees.shows.links)

pub returns-in_err-first : goal.returns-in_err-first
returns-in_err-first g c = λ seen sees.
    let net = net_of g.B.Workbench.slots c.args.self.now in
    let view = ap (net_of g.B.Workbench.slots) c.self.view_is in
    c.from_residual-in_err-first.ensures
    ∙ ap (λ (f : Option (List ℕ)). option_and_then head_in f) c.in_err-first.ensures.value
    ∙ head_found net.topology seen c.args.from (Some c.in_ok-flits.flits.now) sees.laws c.requires.there
    (subst (λ (n : NetState). IsGathered n.links c.args.from (Some c.in_ok-flits.flits.now)) view (λ rows entries stand. c.in_ok-flits.ensures rows entries stand) net.topology.links seen.entries sees.shows.links)

pub returns : goal.returns
returns g c = λ seen sees.
    let net = net_of g.B.Workbench.slots c.args.self.now in
    let view = ap (net_of g.B.Workbench.slots) c.self.view_is in
    c.head_of.ensures
    ∙ ap (λ (f : Option (List ℕ)). option_and_then head_in f) c.in_ok-first.ensures.value
    ∙ head_found net.topology seen c.args.from (Some c.in_ok-flits.flits.now) sees.laws c.requires.there
    (subst (λ (n : NetState). IsGathered n.links c.args.from (Some c.in_ok-flits.flits.now)) view (λ rows entries stand. c.in_ok-flits.ensures rows entries stand) net.topology.links seen.entries sees.shows.links)

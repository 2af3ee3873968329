-- The packet goes on.
use Rattle.std.proofs.Common.{◌<◌, ◌*◌, ◌∙◌, ℕ, Some, None, [], length, refl, ap, sym, subst, arith}
use Rattle.std.specs.Prelude.{slice_index_or}
use Rattle.hmc_codes.specs.declared.place.Place.TheVariants as places
use Rattle.hmc_packet.specs.Head.{head_in}
use Rattle.hmc_send.specs.LinkCalls.{names_flits}
use Rattle.hmc_links.specs.LinkList.{IsDirection, IsGathered, MayBegin}
use Rattle.hmc_net.specs.NetState.{net_of, NetState}
use Rattle.hmc_journal.proofs.DirectionEnds.{ends_at}
use Rattle.hmc_net.proofs.ThroughFacts.{going_on, some_going_on, may_begin}
use Rattle.hmc_net.proofs.ThroughDoes.{begin_for, onto_there}
use Rattle.hmc_net.proofs.network.Network.begin.Goals as goal

pub profile-profile-requires : goal.profile-profile-requires
profile-profile-requires g c =
    let net = net_of g.B.Workbench.slots c.args.self.now in
    let view = ap (net_of g.B.Workbench.slots) c.self.view_is in
    subst (λ (n : NetState). c.args.from < 2 * length n.topology.links) (sym view) (ends_at net.topology (places.Port c.args.cube c.args.port) c.args.from c.requires.coming.ends).there

pub through_view-requires : goal.through_view-requires
through_view-requires g c =
    let net = net_of g.B.Workbench.slots c.args.self.now in
    let view = ap (net_of g.B.Workbench.slots) c.self.view_is in
    let at = ends_at net.topology (places.Port c.args.cube c.args.port) c.args.from c.requires.coming.ends in
    subst (λ (n : NetState). IsDirection n.links c.args.from) (sym view) (omega (arith, at.there, c.requires.ready.sees.shows.links.count))

pub unreachable-requires : goal.unreachable-requires
unreachable-requires g c =
    let net = net_of g.B.Workbench.slots c.args.self.now in
    let view = ap (net_of g.B.Workbench.slots) c.self.view_is in
    let at = ends_at net.topology (places.Port c.args.cube c.args.port) c.args.from c.requires.coming.ends in
    some_going_on net c.args.cube c.args.port c.args.from c.args.onto c.requires.ready c.requires.coming at.there
    (subst (λ (n : NetState). IsGathered n.links c.args.from None) view (λ rows entries stand. c.in_default.ensures rows entries stand))

pub pipe_of-pipe-requires-clause-some : goal.pipe_of-pipe-requires-clause-some
pipe_of-pipe-requires-clause-some g c =
    let net = net_of g.B.Workbench.slots c.args.self.now in
    let view = ap (net_of g.B.Workbench.slots) c.self.view_is in
    let at = ends_at net.topology (places.Port c.args.cube c.args.port) c.args.from c.requires.coming.ends in
    let found = subst (λ (n : NetState). IsGathered n.links c.args.from (Some c.in-Some.flits.now)) view (λ rows entries stand. c.in-Some.ensures rows entries stand) in
    let goes = going_on net c.args.cube c.args.port c.args.from c.args.onto c.in-Some.flits.now c.requires.ready c.requires.coming at.there found in
    goes.some

pub pipe_of-pipe-requires-clause-more : goal.pipe_of-pipe-requires-clause-more
pipe_of-pipe-requires-clause-more g c =
    let net = net_of g.B.Workbench.slots c.args.self.now in
    let view = ap (net_of g.B.Workbench.slots) c.self.view_is in
    let at = ends_at net.topology (places.Port c.args.cube c.args.port) c.args.from c.requires.coming.ends in
    let found = subst (λ (n : NetState). IsGathered n.links c.args.from (Some c.in-Some.flits.now)) view (λ rows entries stand. c.in-Some.ensures rows entries stand) in
    let goes = going_on net c.args.cube c.args.port c.args.from c.args.onto c.in-Some.flits.now c.requires.ready c.requires.coming at.there found in
    goes.more

pub pipe_of-pipe-requires-clause-few : goal.pipe_of-pipe-requires-clause-few
pipe_of-pipe-requires-clause-few g c =
    let net = net_of g.B.Workbench.slots c.args.self.now in
    let view = ap (net_of g.B.Workbench.slots) c.self.view_is in
    let at = ends_at net.topology (places.Port c.args.cube c.args.port) c.args.from c.requires.coming.ends in
    let found = subst (λ (n : NetState). IsGathered n.links c.args.from (Some c.in-Some.flits.now)) view (λ rows entries stand. c.in-Some.ensures rows entries stand) in
    let goes = going_on net c.args.cube c.args.port c.args.from c.args.onto c.in-Some.flits.now c.requires.ready c.requires.coming at.there found in
    goes.few

pub bounds-flits-0 : goal.bounds-flits-0
bounds-flits-0 g c =
    let net = net_of g.B.Workbench.slots c.args.self.now in
    let view = ap (net_of g.B.Workbench.slots) c.self.view_is in
    let at = ends_at net.topology (places.Port c.args.cube c.args.port) c.args.from c.requires.coming.ends in
    let found = subst (λ (n : NetState). IsGathered n.links c.args.from (Some c.in-Some.flits.now)) view (λ rows entries stand. c.in-Some.ensures rows entries stand) in
    let goes = going_on net c.args.cube c.args.port c.args.from c.args.onto c.in-Some.flits.now c.requires.ready c.requires.coming at.there found in
    let some = goes.some in omega (arith, some)

pub begin_through-requires-clause-there : goal.begin_through-requires-clause-there
begin_through-requires-clause-there g c =
    let net = net_of g.B.Workbench.slots c.args.self.now in
    let view = ap (net_of g.B.Workbench.slots) c.self.view_is in
    let there = onto_there net c.args.cube c.args.port c.args.onto c.requires.coming.head c.requires.coming.goes in
    subst (λ (n : NetState). IsDirection n.links c.args.onto) (sym view) (omega (arith, there, c.requires.ready.sees.shows.links.count))

pub begin_through-requires-clause-may : goal.begin_through-requires-clause-may
begin_through-requires-clause-may g c =
    let net = net_of g.B.Workbench.slots c.args.self.now in
    let view = ap (net_of g.B.Workbench.slots) c.self.view_is in
    let at = ends_at net.topology (places.Port c.args.cube c.args.port) c.args.from c.requires.coming.ends in
    let found = subst (λ (n : NetState). IsGathered n.links c.args.from (Some c.in-Some.flits.now)) view (λ rows entries stand. c.in-Some.ensures rows entries stand) in
    let goes = going_on net c.args.cube c.args.port c.args.from c.args.onto c.in-Some.flits.now c.requires.ready c.requires.coming at.there found in
    subst (λ (n : NetState). MayBegin n.links c.args.onto c.lng_of.result) (sym view) (may_begin net c.args.from c.args.onto c.lng_of.result c.in-Some.flits.now c.requires.ready goes c.lng_of.ensures)

pub begin_through-requires-clause-named : goal.begin_through-requires-clause-named
begin_through-requires-clause-named g c =
    let net = net_of g.B.Workbench.slots c.args.self.now in
    let view = ap (net_of g.B.Workbench.slots) c.self.view_is in
    let at = ends_at net.topology (places.Port c.args.cube c.args.port) c.args.from c.requires.coming.ends in
    let found = subst (λ (n : NetState). IsGathered n.links c.args.from (Some c.in-Some.flits.now)) view (λ rows entries stand. c.in-Some.ensures rows entries stand) in
    let goes = going_on net c.args.cube c.args.port c.args.from c.args.onto c.in-Some.flits.now c.requires.ready c.requires.coming at.there found in
    ap (λ (n : ℕ). names_flits n (head_in (slice_index_or c.in-Some.flits.now 0 []))) c.lng_of.ensures ∙ goes.named

pub begin-requires-clause-from : goal.begin-requires-clause-from
begin-requires-clause-from g c =
    let net = net_of g.B.Workbench.slots c.args.self.now in
    let view = ap (net_of g.B.Workbench.slots) c.self.view_is in
    let at = ends_at net.topology (places.Port c.args.cube c.args.port) c.args.from c.requires.coming.ends in
    subst (λ (n : NetState). c.args.from < length n.piped.forwarded) (sym view) (omega (arith, at.there, c.requires.ready.sized.piped.forwarded))

pub begin-requires-clause-onto : goal.begin-requires-clause-onto
begin-requires-clause-onto g c =
    let net = net_of g.B.Workbench.slots c.args.self.now in
    let view = ap (net_of g.B.Workbench.slots) c.self.view_is in
    let there = onto_there net c.args.cube c.args.port c.args.onto c.requires.coming.head c.requires.coming.goes in
    subst (λ (n : NetState). c.args.onto < length n.piped.pipes) (sym view) (omega (arith, there, c.requires.ready.sized.piped.pipes))

pub returns-clause-does : goal.returns-clause-does
returns-clause-does g c =
    begin_for _ (net_of g.B.Workbench.slots c.args.self.now) c.begin_through.new.self c.begin.new.self c.through.new.self c.args.cube c.args.port c.args.from c.args.onto c.lng_of.result (slice_index_or c.in-Some.flits.now 0 []) c.in-Some.flits.now c.profile-profile.result c.pipe_of-pipe.result
    (ap (net_of g.B.Workbench.slots) c.self.view_is) c.requires.ready c.requires.coming (λ rows entries stand. c.in-Some.ensures rows entries stand) c.profile-profile.ensures c.pipe_of-pipe.ensures refl c.lng_of.ensures
    c.begin_through.ensures c.begin.ensures c.through.ensures

-- For all entries after which the flit lands.
use Rattle.std.proofs.Common.{◌∙◌, sym, ap, subst}
use Rattle.std.proofs.lemmas.Bool.{true≢false}
use Rattle.hmc_packet.specs.Packet.{PacketFields}
use Rattle.hmc_packet.specs.Receptions.{landed_with}
use Rattle.hmc_send.specs.LinkEntries.{other, receiver_entries}
use Rattle.hmc_send.specs.LinkSenders.{sender_entries}
use Rattle.hmc_ends.specs.End.{EndFields}
use Rattle.hmc_ends.specs.Landings.{Lands, landing_in}
use Rattle.hmc_ends.proofs.Landing.{passes-is, is-passed, not-passed, can-take, landed-is, land-stands}
use Rattle.hmc_link_end.proofs.end.End.land_in_place.Goals as goal

pub returns-then-passes-clause-answer : goal.returns-then-passes-clause-answer
returns-then-passes-clause-answer g c link d past mask l =
    let lands = subst (λ (e : EndFields). Lands link d past mask c.args.flit.now c.args.changed e) (sym c.self.view_is) l in
    let rec_is = c.receive-reception.ensures.gives link.profile (receiver_entries (other d) past) lands.stands.receiver in
    is-passed _ (landing_in link (other d) past c.args.flit.now)
    (passes-is link d past mask c.args.flit.now c.args.changed _ c.receive-reception.result c.either-changed.result c.passes.result lands rec_is c.either-changed.ensures c.passes.ensures ∙ c.if-passes.true)

pub returns-then-passes-clause-stands : goal.returns-then-passes-clause-stands
returns-then-passes-clause-stands g c link d past mask l caught =
    let lands = subst (λ (e : EndFields). Lands link d past mask c.args.flit.now c.args.changed e) (sym c.self.view_is) l in
    let rec_is = c.receive-reception.ensures.gives link.profile (receiver_entries (other d) past) lands.stands.receiver in
    absurd (true≢false (sym (passes-is link d past mask c.args.flit.now c.args.changed _ c.receive-reception.result c.either-changed.result c.passes.result lands rec_is c.either-changed.ensures c.passes.ensures ∙ c.if-passes.true) ∙ caught))

pub take_landing-requires : goal.take_landing-requires
take_landing-requires g c =
    let can = c.requires in
    let lands = subst (λ (e : EndFields). Lands can.link can.d can.past can.mask c.args.flit.now c.args.changed e) (sym c.self.view_is) can.lands in
    let received = receiver_entries (other can.d) can.past in
    let rec_is = c.receive-reception.ensures.gives can.link.profile received lands.stands.receiver in
    can-take can.link can.d can.past can.mask c.args.flit.now c.args.changed _ c.receive-reception.new.self c.receive-reception.result lands
    (passes-is can.link can.d can.past can.mask c.args.flit.now c.args.changed _ c.receive-reception.result c.either-changed.result c.passes.result lands rec_is c.either-changed.ensures c.passes.ensures ∙ c.if-passes.false)
    rec_is (c.receive-reception.ensures.stands can.link.profile received lands.stands.receiver)

pub returns-clause-answer : goal.returns-clause-answer
returns-clause-answer g c link d past mask l =
    let lands = subst (λ (e : EndFields). Lands link d past mask c.args.flit.now c.args.changed e) (sym c.self.view_is) l in
    let received = receiver_entries (other d) past in
    let flit = c.args.flit.now in
    let rec_is = c.receive-reception.ensures.gives link.profile received lands.stands.receiver in
    let outcome = c.receive-reception.result.outcome in
    let receiver = c.receive-reception.ensures.stands link.profile received lands.stands.receiver in
    let packet = ap (λ (e : EndFields). e.receiver.packet) c.take_landing.ensures.rest ∙ receiver.packet in
    not-passed _ (landing_in link (other d) past flit) (landed_with outcome c.take_landing.new.self.receiver.packet)
    (passes-is link d past mask flit c.args.changed _ c.receive-reception.result c.either-changed.result c.passes.result lands rec_is c.either-changed.ensures c.passes.ensures ∙ c.if-passes.false)
    (landed-is link d past flit c.receive-reception.result _ rec_is (ap (λ (p : PacketFields). landed_with outcome p) packet))

pub returns-clause-stands : goal.returns-clause-stands
returns-clause-stands g c link d past mask l caught =
    let lands = subst (λ (e : EndFields). Lands link d past mask c.args.flit.now c.args.changed e) (sym c.self.view_is) l in
    let received = receiver_entries (other d) past in
    let flit = c.args.flit.now in
    let rec_is = c.receive-reception.ensures.gives link.profile received lands.stands.receiver in
    let receiver = c.receive-reception.ensures.stands link.profile received lands.stands.receiver in
    let landed = landed_with c.receive-reception.result.outcome c.receive-reception.new.self.packet in
    land-stands link d past mask flit c.args.changed c.either-changed.result _ c.take_landing.new.self c.receive-reception.new.self c.receive-reception.result landed lands caught rec_is receiver c.either-changed.ensures
    (landed-is link d past flit c.receive-reception.result landed rec_is (ap (λ (p : PacketFields). landed_with c.receive-reception.result.outcome p) receiver.packet))
    (c.take_landing.ensures.left (sender_entries link d past) lands.stands.sender) c.take_landing.ensures.sizes c.take_landing.ensures.rest

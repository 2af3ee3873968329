-- For all entries for which the two ends stand.
use Rattle.std.proofs.Common.{◌≤◌, ◌-◌, ◌∙◌, ℕ, sym, ap, subst}
use Rattle.hmc_packet.specs.Receptions.{landed_with}
use Rattle.hmc_send.specs.LinkEntries.{other}
use Rattle.hmc_ends.specs.End.{EndFields}
use Rattle.hmc_ends.proofs.CrossLemmas.{empty-answer, empty-stands, lands-of, transit-few, passed-answer, came-answer, came-stands}
use Rattle.hmc_link.proofs.Idle.{line-kept}
use Rattle.hmc_link.proofs.crossing.cross.Goals as goal

pub returns-in_default-clause-answer : goal.returns-in_default-clause-answer
returns-in_default-clause-answer g c link d past both = empty-answer link d past c.args.mask.now c.args.from.now both.sending c.in_default.ensures.front

pub returns-in_default-clause-stands : goal.returns-in_default-clause-stands
returns-in_default-clause-stands g c link d past both not_passed = empty-stands link d past c.args.mask.now c.args.from.now c.args.to.now c.take_flit.new.self both c.in_default.ensures.front c.in_default.ensures.left

pub land_in_place-requires : goal.land_in_place-requires
land_in_place-requires g c =
    let ends = c.requires in
    record {
      link = ends.link;
      d = other ends.d;
      past = ends.past;
      mask = c.args.mask.now;
      lands = lands-of ends.link ends.d ends.past c.args.mask.now c.in-Some.sent c.under_mask-flit.result c.changes.result c.args.from.now c.args.to.now ends.stand c.in-Some.ensures.front c.under_mask-flit.ensures c.changes.ensures;
    }

pub leave_transit-requires : goal.leave_transit-requires
leave_transit-requires g c =
    let ends = c.requires in
    let landed = landed_with c.in-Some-land_in_place.outcome c.land_in_place.new.self.receiver.packet in
    subst (λ (e : EndFields). c.arrived_flits.result ≤ e.transit) (sym c.in-Some.ensures.left)
    (subst (λ (n : ℕ). n ≤ c.args.from.now.transit) (sym c.arrived_flits.ensures)
    (transit-few ends.link ends.d ends.past c.args.mask.now c.in-Some.sent c.under_mask-flit.result c.changes.result c.args.from.now c.args.to.now landed ends.stand c.in-Some.ensures.front c.under_mask-flit.ensures c.changes.ensures c.in-Some-land_in_place.ensures.answer))

pub returns-in-None-clause-answer : goal.returns-in-None-clause-answer
returns-in-None-clause-answer g c link d past both =
    passed-answer link d past c.args.mask.now c.in-Some.sent c.under_mask-flit.result c.changes.result c.args.from.now c.args.to.now both c.in-Some.ensures.front c.under_mask-flit.ensures c.changes.ensures c.in-None.ensures.answer

pub returns-in-Some-land_in_place-clause-answer : goal.returns-in-Some-land_in_place-clause-answer
returns-in-Some-land_in_place-clause-answer g c link d past both =
    came-answer link d past c.args.mask.now c.in-Some.sent c.under_mask-flit.result c.changes.result c.args.from.now c.args.to.now (landed_with c.in-Some-land_in_place.outcome c.land_in_place.new.self.receiver.packet) both c.in-Some.ensures.front c.under_mask-flit.ensures c.changes.ensures c.in-Some-land_in_place.ensures.answer

pub returns-in-Some-land_in_place-clause-stands : goal.returns-in-Some-land_in_place-clause-stands
returns-in-Some-land_in_place-clause-stands g c link d past both not_passed =
    let left = c.leave_transit.ensures ∙ ap (λ (n : ℕ). record c.take_flit.new.self { transit = c.take_flit.new.self.transit - n }) c.arrived_flits.ensures in
    came-stands link d past c.args.mask.now c.in-Some.sent c.under_mask-flit.result c.changes.result c.args.from.now c.args.to.now c.take_flit.new.self c.leave_transit.new.self c.land_in_place.new.self (landed_with c.in-Some-land_in_place.outcome c.land_in_place.new.self.receiver.packet) both c.in-Some.ensures.front c.under_mask-flit.ensures c.changes.ensures c.in-Some-land_in_place.ensures.answer c.in-Some-land_in_place.ensures.stands c.in-Some.ensures.left left

pub returns-in_default-clause-from_idle : goal.returns-in_default-clause-from_idle
returns-in_default-clause-from_idle g c none = line-kept c.args.from.now c.take_flit.new.self c.in_default.ensures.front c.in_default.ensures.left

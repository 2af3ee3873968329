-- The front of the line of the end that sends lands at the other end.
use Rattle.std.proofs.Common.{◌≤◌, ◌/◌, ◌-◌, ◌∙◌, ℕ, sym, ap, subst}
use Rattle.std.specs.Prelude.{slice_index_or, slice_get}
use Rattle.hmc_packet.specs.Receptions.{landed_with}
use Rattle.hmc_routes.specs.Directions.{other}
use Rattle.hmc_send.specs.LinkCalls.{LinkCall}
use Rattle.hmc_send.specs.LinkEntries as ways
use Rattle.hmc_ends.specs.End.{EndFields}
use Rattle.hmc_ends.specs.declared.link_outcome.LinkOutcome.TheVariants as outcomes
use Rattle.hmc_ends.proofs.CrossLemmas.{empty-answer, empty-stands, lands-of, transit-few, passed-answer, came-answer, came-stands}
use Rattle.hmc_ends.proofs.Outcomes.{given-without}
use Rattle.hmc_send.specs.LinkLines.{line}
use Rattle.hmc_journal.specs.Links.{toward}
use Rattle.hmc_kept.specs.Called.{sizes_by}
use Rattle.hmc_directions.proofs.Calls.{hold_after, changed_here, other_there}
use Rattle.hmc_directions.proofs.Standing.{read_at, any_at, both_at, put_is, far_after, near_after, changed_both, put_three}
use Rattle.hmc_directions.proofs.ends.Ends.land.Goals as goal

pub returns-in_default-clause-answer : goal.returns-in_default-clause-answer
returns-in_default-clause-answer c = λ rows entries hold.
    let own = c.args.self.now in
    let d = c.args.direction in
    let s = c.index_mut.result.now in
    let near = read_at c.self.inside.ends.items own c.from.result d s c.self.view_is c.from.ensures c.requires.there c.index_mut.ensures.value in
    let l = slice_index_or own (other d) s in
    let far = any_at own (other d) s (other_there rows own entries d hold c.requires.there) in
    let both = both_at rows own entries d s l hold c.requires.there near far in
    given-without (sizes_by rows d) (toward d) (entries (d / 2)) c.args.mask.now (slice_get (line (sizes_by rows d).profile (toward d) (entries (d / 2))) 0) outcomes.Empty s.receiver.packet
    (empty-answer (sizes_by rows d) (toward d) (entries (d / 2)) c.args.mask.now s both.sending c.in_default.ensures.front)

pub returns-in_default-clause-stand : goal.returns-in_default-clause-stand
returns-in_default-clause-stand c = λ rows entries hold none.
    let own = c.args.self.now in
    let d = c.args.direction in
    let s = c.index_mut.result.now in
    let near = read_at c.self.inside.ends.items own c.from.result d s c.self.view_is c.from.ensures c.requires.there c.index_mut.ensures.value in
    let l = slice_index_or own (other d) s in
    let far = any_at own (other d) s (other_there rows own entries d hold c.requires.there) in
    let both = both_at rows own entries d s l hold c.requires.there near far in
    let stands = empty-stands (sizes_by rows d) (toward d) (entries (d / 2)) c.args.mask.now s l c.take_flit.new.self both c.in_default.ensures.front c.in_default.ensures.left in
    put_is rows c.self.inside.ends.items own c.from.result d c.take_flit.new.self _ c.self.view_is c.from.ensures
    (hold_after rows own _ entries d (λ w. LinkCall.land w c.args.mask.now) c.take_flit.new.self l hold (changed_here rows own entries d c.take_flit.new.self l hold c.requires.there far) stands)

pub land_in_place-landed-requires : goal.land_in_place-landed-requires
land_in_place-landed-requires c =
    let rows = c.requires.some.rows in
    let entries = c.requires.some.entries in
    let hold = c.requires.some.hold in
    let own = c.args.self.now in
    let d = c.args.direction in
    let s = c.index_mut.result.now in
    let l = c.index_mut-to.result.now in
    let near = read_at c.self.inside.ends.items own c.from.result d s c.self.view_is c.from.ensures c.requires.there c.index_mut.ensures.value in
    let there = other_there rows own entries d hold c.requires.there in
    let far = far_after c.self.inside.ends.items own c.from.result c.from-2.result d c.take_flit.new.self l c.self.view_is c.from.ensures (c.from-2.ensures ∙ c.other.ensures) there c.index_mut-to.ensures.value in
    let both = both_at rows own entries d s l hold c.requires.there near far in
    record {
      link = sizes_by rows d;
      d = ways.other (toward d);
      past = entries (d / 2);
      mask = c.args.mask.now;
      lands = lands-of (sizes_by rows d) (toward d) (entries (d / 2)) c.args.mask.now c.in-Some.sent c.under_mask-flit.result c.changes.result s l both c.in-Some.ensures.front c.under_mask-flit.ensures c.changes.ensures;
    }

pub leave_transit-requires : goal.leave_transit-requires
leave_transit-requires c =
    let rows = c.requires.some.rows in
    let entries = c.requires.some.entries in
    let hold = c.requires.some.hold in
    let own = c.args.self.now in
    let d = c.args.direction in
    let s = c.index_mut.result.now in
    let l = c.index_mut-to.result.now in
    let near = read_at c.self.inside.ends.items own c.from.result d s c.self.view_is c.from.ensures c.requires.there c.index_mut.ensures.value in
    let there = other_there rows own entries d hold c.requires.there in
    let far = far_after c.self.inside.ends.items own c.from.result c.from-2.result d c.take_flit.new.self l c.self.view_is c.from.ensures (c.from-2.ensures ∙ c.other.ensures) there c.index_mut-to.ensures.value in
    let both = both_at rows own entries d s l hold c.requires.there near far in
    let back = near_after c.self.inside.ends.items own c.from.result c.from-2.result c.from-in-Some-landed.result d c.take_flit.new.self c.land_in_place-landed.new.self c.index_mut-in-Some-landed.result.now c.self.view_is c.from.ensures (c.from-2.ensures ∙ c.other.ensures) c.from-in-Some-landed.ensures c.requires.there c.index_mut-in-Some-landed.ensures.value in
    let few = transit-few (sizes_by rows d) (toward d) (entries (d / 2)) c.args.mask.now c.in-Some.sent c.under_mask-flit.result c.changes.result s l (landed_with c.in-Some-landed.outcome c.land_in_place-landed.new.self.receiver.packet) both c.in-Some.ensures.front c.under_mask-flit.ensures c.changes.ensures c.in-Some-landed.ensures.answer in
    subst (λ (e : EndFields). c.arrived_flits-flits.result ≤ e.transit) (sym (back ∙ c.in-Some.ensures.left)) (subst (λ (n : ℕ). n ≤ s.transit) (sym c.arrived_flits-flits.ensures) few)

pub returns-in-None-clause-answer : goal.returns-in-None-clause-answer
returns-in-None-clause-answer c = λ rows entries hold.
    let own = c.args.self.now in
    let d = c.args.direction in
    let s = c.index_mut.result.now in
    let l = c.index_mut-to.result.now in
    let near = read_at c.self.inside.ends.items own c.from.result d s c.self.view_is c.from.ensures c.requires.there c.index_mut.ensures.value in
    let there = other_there rows own entries d hold c.requires.there in
    let far = far_after c.self.inside.ends.items own c.from.result c.from-2.result d c.take_flit.new.self l c.self.view_is c.from.ensures (c.from-2.ensures ∙ c.other.ensures) there c.index_mut-to.ensures.value in
    let both = both_at rows own entries d s l hold c.requires.there near far in
    given-without (sizes_by rows d) (toward d) (entries (d / 2)) c.args.mask.now (slice_get (line (sizes_by rows d).profile (toward d) (entries (d / 2))) 0) (outcomes.Passed c.under_mask-flit.result) l.receiver.packet
    (passed-answer (sizes_by rows d) (toward d) (entries (d / 2)) c.args.mask.now c.in-Some.sent c.under_mask-flit.result c.changes.result s l both c.in-Some.ensures.front c.under_mask-flit.ensures c.changes.ensures c.in-None.ensures.answer)

pub returns-in-Some-landed-clause-answer : goal.returns-in-Some-landed-clause-answer
returns-in-Some-landed-clause-answer c = λ rows entries hold.
    let own = c.args.self.now in
    let d = c.args.direction in
    let s = c.index_mut.result.now in
    let l = c.index_mut-to.result.now in
    let near = read_at c.self.inside.ends.items own c.from.result d s c.self.view_is c.from.ensures c.requires.there c.index_mut.ensures.value in
    let there = other_there rows own entries d hold c.requires.there in
    let far = far_after c.self.inside.ends.items own c.from.result c.from-2.result d c.take_flit.new.self l c.self.view_is c.from.ensures (c.from-2.ensures ∙ c.other.ensures) there c.index_mut-to.ensures.value in
    let both = both_at rows own entries d s l hold c.requires.there near far in
    given-without (sizes_by rows d) (toward d) (entries (d / 2)) c.args.mask.now (slice_get (line (sizes_by rows d).profile (toward d) (entries (d / 2))) 0) (outcomes.Came c.under_mask-flit.result c.in-Some-landed.outcome) c.land_in_place-landed.new.self.receiver.packet
    (came-answer (sizes_by rows d) (toward d) (entries (d / 2)) c.args.mask.now c.in-Some.sent c.under_mask-flit.result c.changes.result s l (landed_with c.in-Some-landed.outcome c.land_in_place-landed.new.self.receiver.packet) both c.in-Some.ensures.front c.under_mask-flit.ensures c.changes.ensures c.in-Some-landed.ensures.answer)

pub returns-in-Some-landed-clause-stand : goal.returns-in-Some-landed-clause-stand
returns-in-Some-landed-clause-stand c = λ rows entries hold none.
    let own = c.args.self.now in
    let d = c.args.direction in
    let s = c.index_mut.result.now in
    let l = c.index_mut-to.result.now in
    let near = read_at c.self.inside.ends.items own c.from.result d s c.self.view_is c.from.ensures c.requires.there c.index_mut.ensures.value in
    let there = other_there rows own entries d hold c.requires.there in
    let far = far_after c.self.inside.ends.items own c.from.result c.from-2.result d c.take_flit.new.self l c.self.view_is c.from.ensures (c.from-2.ensures ∙ c.other.ensures) there c.index_mut-to.ensures.value in
    let both = both_at rows own entries d s l hold c.requires.there near far in
    let back = near_after c.self.inside.ends.items own c.from.result c.from-2.result c.from-in-Some-landed.result d c.take_flit.new.self c.land_in_place-landed.new.self c.index_mut-in-Some-landed.result.now c.self.view_is c.from.ensures (c.from-2.ensures ∙ c.other.ensures) c.from-in-Some-landed.ensures c.requires.there c.index_mut-in-Some-landed.ensures.value in
    let left = c.leave_transit.ensures ∙ ap (λ (n : ℕ). record c.index_mut-in-Some-landed.result.now { transit = c.index_mut-in-Some-landed.result.now.transit - n }) c.arrived_flits-flits.ensures in
    let stands = came-stands (sizes_by rows d) (toward d) (entries (d / 2)) c.args.mask.now c.in-Some.sent c.under_mask-flit.result c.changes.result s l c.index_mut-in-Some-landed.result.now c.leave_transit.new.self c.land_in_place-landed.new.self (landed_with c.in-Some-landed.outcome c.land_in_place-landed.new.self.receiver.packet) both
    c.in-Some.ensures.front c.under_mask-flit.ensures c.changes.ensures c.in-Some-landed.ensures.answer c.in-Some-landed.ensures.stands (back ∙ c.in-Some.ensures.left) left in
    put_three rows c.self.inside.ends.items own c.from.result c.from-2.result c.from-in-Some-landed.result d c.take_flit.new.self c.leave_transit.new.self c.land_in_place-landed.new.self _ c.self.view_is c.from.ensures (c.from-2.ensures ∙ c.other.ensures) c.from-in-Some-landed.ensures
    (hold_after rows own _ entries d (λ w. LinkCall.land w c.args.mask.now) c.leave_transit.new.self c.land_in_place-landed.new.self hold (changed_both rows own entries d c.take_flit.new.self c.leave_transit.new.self c.land_in_place-landed.new.self hold c.requires.there) stands)

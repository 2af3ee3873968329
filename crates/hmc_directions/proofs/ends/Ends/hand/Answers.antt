-- The end that sends in a direction has one more packet.
use Rattle.std.proofs.Common.{◌/◌, sym, subst}
use Rattle.std.specs.Prelude.{slice_index_or}
use Rattle.hmc_routes.specs.Directions.{other}
use Rattle.hmc_send.specs.LinkCalls.{LinkCall}
use Rattle.hmc_ends.specs.Answers.{after_call}
use Rattle.hmc_ends.specs.End.{EndFields}
use Rattle.hmc_ends.specs.StandsFor.{EndsStandFor}
use Rattle.hmc_ends.proofs.Calls.{hand-steps}
use Rattle.hmc_journal.specs.Links.{toward}
use Rattle.hmc_kept.specs.Called.{sizes_by}
use Rattle.hmc_directions.proofs.Calls.{hold_after, changed_here, other_there}
use Rattle.hmc_directions.proofs.Standing.{read_at, any_at, both_at, room_of, fit_of, put_is}
use Rattle.hmc_directions.proofs.ends.Ends.hand.Goals as goal

pub returns : goal.returns
returns c = λ rows entries hold.
    let own = c.args.self.now in
    let d = c.args.direction in
    let s = c.index_mut.result.now in
    let near = read_at c.self.inside.ends.items own c.from.result d s c.self.view_is c.from.ensures c.requires.there c.index_mut.ensures.value in
    let l = slice_index_or own (other d) s in
    let far = any_at own (other d) s (other_there rows own entries d hold c.requires.there) in
    let both = both_at rows own entries d s l hold c.requires.there near far in
    let may = c.requires.may in
    let then = both_at may.rows own may.entries d s l may.stand c.requires.there near far in
    let room = room_of (sizes_by may.rows d) (toward d) (may.entries (d / 2)) s then.sending may.room in
    let fit = fit_of (sizes_by may.rows d) s c.args.packet then.sending.setup may.fit in
    let after = (hand-steps (toward d) s l c.args.packet room fit c.invariant.ensures).after (sizes_by rows d) (entries (d / 2)) both in
    let stands = subst (λ (e : EndFields). EndsStandFor (sizes_by rows d) (toward d) e l (after_call (sizes_by rows d) (entries (d / 2)) (LinkCall.hand (toward d) c.args.packet))) (sym c.hand.ensures) after in
    put_is rows c.self.inside.ends.items own c.from.result d c.hand.new.self _ c.self.view_is c.from.ensures
    (hold_after rows own _ entries d (λ w. LinkCall.hand w c.args.packet) c.hand.new.self l hold (changed_here rows own entries d c.hand.new.self l hold c.requires.there far) stands)

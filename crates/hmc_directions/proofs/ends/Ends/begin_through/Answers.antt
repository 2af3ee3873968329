-- The end that sends in a direction has begun to forward a packet.
use Rattle.std.proofs.Common.{◌/◌, ◌∙◌, sym}
use Rattle.std.specs.Prelude.{slice_index_or}
use Rattle.hmc_routes.specs.Directions.{other}
use Rattle.hmc_send.specs.LinkCalls.{LinkCall}
use Rattle.hmc_ends.proofs.Begins.{begin-both}
use Rattle.hmc_journal.specs.Links.{toward}
use Rattle.hmc_kept.specs.Called.{sizes_by}
use Rattle.hmc_directions.proofs.Calls.{hold_after, changed_here, other_there}
use Rattle.hmc_directions.proofs.Standing.{read_at, any_at, both_at, ready_of, can_pass, put_is}
use Rattle.hmc_directions.proofs.ends.Ends.begin_through.Goals as goal

pub begin_through-requires : goal.begin_through-requires
begin_through-requires c =
    let may = c.requires.may in
    let rows = may.rows in
    let entries = may.entries in
    let hold = may.stand in
    let own = c.args.self.now in
    let d = c.args.direction in
    let s = c.index_mut.result.now in
    let near = read_at c.self.inside.ends.items own c.from.result d s c.self.view_is c.from.ensures c.requires.there c.index_mut.ensures.value in
    let l = slice_index_or own (other d) s in
    let far = any_at own (other d) s (other_there rows own entries d hold c.requires.there) in
    let both = both_at rows own entries d s l hold c.requires.there near far in
    can_pass (sizes_by rows d) (toward d) (entries (d / 2)) s l c.args.head c.args.flits both may.ready c.requires.named

pub returns : goal.returns
returns c = λ rows entries hold.
    let own = c.args.self.now in
    let d = c.args.direction in
    let s = c.index_mut.result.now in
    let near = read_at c.self.inside.ends.items own c.from.result d s c.self.view_is c.from.ensures c.requires.there c.index_mut.ensures.value in
    let l = slice_index_or own (other d) s in
    let far = any_at own (other d) s (other_there rows own entries d hold c.requires.there) in
    let both = both_at rows own entries d s l hold c.requires.there near far in
    let may = c.requires.may in
    let then = both_at may.rows own may.entries d s l may.stand c.requires.there near far in
    let ready = sym (ready_of (sizes_by rows d) (toward d) (entries (d / 2)) s c.args.flits both.sending) ∙ ready_of (sizes_by may.rows d) (toward d) (may.entries (d / 2)) s c.args.flits then.sending ∙ may.ready in
    let stands = begin-both (sizes_by rows d) (toward d) (entries (d / 2)) s l c.begin_through.new.self c.args.head c.args.flits c.flit_is_bytes.ensures c.requires.named c.begin_through.ensures both ready in
    put_is rows c.self.inside.ends.items own c.from.result d c.begin_through.new.self _ c.self.view_is c.from.ensures
    (hold_after rows own _ entries d (λ w. LinkCall.begin w c.args.head c.args.flits) c.begin_through.new.self l hold (changed_here rows own entries d c.begin_through.new.self l hold c.requires.there far) stands)

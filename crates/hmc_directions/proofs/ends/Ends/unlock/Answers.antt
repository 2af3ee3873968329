-- The end where a direction lands is unlocked.
use Rattle.std.proofs.Common.{◌/◌, ◌∙◌}
use Rattle.std.specs.Prelude.{slice_index_or}
use Rattle.hmc_routes.specs.Directions.{other}
use Rattle.hmc_send.specs.LinkCalls.{LinkCall}
use Rattle.hmc_ends.proofs.Calls.{unlock-steps}
use Rattle.hmc_journal.specs.Links.{toward}
use Rattle.hmc_kept.specs.Called.{sizes_by}
use Rattle.hmc_directions.proofs.Calls.{hold_after, changed_there, other_there}
use Rattle.hmc_directions.proofs.Standing.{read_at, any_at, both_at, put_is}
use Rattle.hmc_directions.proofs.ends.Ends.unlock.Goals as goal

pub returns : goal.returns
returns c = λ rows entries hold.
    let own = c.args.self.now in
    let d = c.args.direction in
    let l = c.index_mut.result.now in
    let there = other_there rows own entries d hold c.requires.there in
    let far = read_at c.self.inside.ends.items own c.from.result (other d) l c.self.view_is (c.from.ensures ∙ c.other.ensures) there c.index_mut.ensures.value in
    let s = slice_index_or own d l in
    let near = any_at own d l c.requires.there in
    let both = both_at rows own entries d s l hold c.requires.there near far in
    let stands = (unlock-steps (toward d) s l c.unlock.new.self c.unlock.ensures).after (sizes_by rows d) (entries (d / 2)) both in
    put_is rows c.self.inside.ends.items own c.from.result (other d) c.unlock.new.self _ c.self.view_is (c.from.ensures ∙ c.other.ensures)
    (hold_after rows own _ entries d LinkCall.unlock s c.unlock.new.self hold (changed_there rows own entries d s c.unlock.new.self hold c.requires.there near) stands)

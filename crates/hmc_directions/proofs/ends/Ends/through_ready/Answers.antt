-- By what the end that sends holds.
use Rattle.std.proofs.Common.{◌/◌, ◌∙◌}
use Rattle.std.specs.Prelude.{slice_index_or}
use Rattle.hmc_routes.specs.Directions.{other}
use Rattle.hmc_ends.proofs.Begins.{may-in}
use Rattle.hmc_journal.specs.Links.{toward}
use Rattle.hmc_kept.specs.Called.{sizes_by}
use Rattle.hmc_directions.proofs.Calls.{other_there}
use Rattle.hmc_directions.proofs.Standing.{read_at, any_at, both_at}
use Rattle.hmc_directions.proofs.ends.Ends.through_ready.Goals as goal

pub returns : goal.returns
returns c = λ rows entries hold.
    let own = c.args.self.now in
    let d = c.args.direction in
    let s = c.index.result.now in
    let near = read_at c.self.inside.ends.items own c.from.result d s c.self.view_is c.from.ensures c.requires c.index.ensures in
    let l = slice_index_or own (other d) s in
    let far = any_at own (other d) s (other_there rows own entries d hold c.requires) in
    let both = both_at rows own entries d s l hold c.requires near far in
    c.through_ready.ensures (sizes_by rows d) _ both.sending ∙ may-in (sizes_by rows d) (toward d) (entries (d / 2)) c.args.flits

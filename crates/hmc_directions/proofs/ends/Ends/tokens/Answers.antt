-- By what the two ends hold.
use Rattle.std.proofs.Common.{◌/◌, ◌∙◌}
use Rattle.hmc_routes.specs.Directions.{other}
use Rattle.hmc_ends.proofs.TokenRows.{row-is}
use Rattle.hmc_journal.specs.Links.{toward}
use Rattle.hmc_kept.specs.Called.{sizes_by}
use Rattle.hmc_directions.proofs.Calls.{other_there}
use Rattle.hmc_directions.proofs.Standing.{read_at, both_at}
use Rattle.hmc_directions.proofs.ends.Ends.tokens.Goals as goal

pub returns : goal.returns
returns c = λ rows entries hold.
    let own = c.args.self.now in
    let d = c.args.direction in
    let s = c.index-from.result.now in
    let l = c.index-to.result.now in
    let near = read_at c.self.inside.ends.items own c.from.result d s c.self.view_is c.from.ensures c.requires.there c.index-from.ensures in
    let there = other_there rows own entries d hold c.requires.there in
    let far = read_at c.self.inside.ends.items own c.from-2.result (other d) l c.self.view_is (c.from-2.ensures ∙ c.other.ensures) there c.index-to.ensures in
    let both = both_at rows own entries d s l hold c.requires.there near far in
    c.token_row.ensures ∙ row-is (sizes_by rows d) (toward d) (entries (d / 2)) s l both

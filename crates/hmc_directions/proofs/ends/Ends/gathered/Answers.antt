-- The receiver where a direction lands.
use Rattle.std.proofs.Common.{◌/◌, ◌∙◌, List, ap}
use Rattle.std.specs.Prelude.{slice_index_or}
use Rattle.hmc_routes.specs.Directions.{other}
use Rattle.hmc_packet.specs.Landings.{ReceiverEntry, mode, pending}
use Rattle.hmc_ends.specs.End.{flits_seen}
use Rattle.hmc_journal.specs.Links.{toward}
use Rattle.hmc_kept.specs.Called.{sizes_by}
use Rattle.hmc_directions.proofs.Calls.{other_there}
use Rattle.hmc_directions.proofs.Standing.{read_at, any_at, both_at, received_by}
use Rattle.hmc_directions.proofs.ends.Ends.gathered.Goals as goal

pub returns : goal.returns
returns c = λ rows entries hold.
    let own = c.args.self.now in
    let d = c.args.direction in
    let l = c.index.result.now in
    let there = other_there rows own entries d hold c.requires.there in
    let far = read_at c.self.inside.ends.items own c.from.result (other d) l c.self.view_is (c.from.ensures ∙ c.other.ensures) there c.index.ensures in
    let s = slice_index_or own d l in
    let near = any_at own d l c.requires.there in
    let both = both_at rows own entries d s l hold c.requires.there near far in
    c.through_view.ensures (sizes_by rows d) _ both.landing ∙ ap (λ (r : List ReceiverEntry). flits_seen (mode r) (pending r)) (received_by (sizes_by rows d) (toward d) (entries (d / 2)))

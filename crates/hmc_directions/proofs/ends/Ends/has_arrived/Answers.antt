-- The front of the buffer where a direction lands.
use Rattle.std.proofs.Common.{◌/◌, ◌∙◌, Option, ap}
use Rattle.std.specs.Prelude.{slice_index_or, is_some}
use Rattle.hmc_routes.specs.Directions.{other}
use Rattle.hmc_packet.specs.Packet.{PacketFields}
use Rattle.hmc_journal.specs.Links.{toward}
use Rattle.hmc_kept.specs.Called.{sizes_by}
use Rattle.hmc_directions.proofs.Calls.{other_there}
use Rattle.hmc_directions.proofs.Standing.{read_at, any_at, both_at, front_by}
use Rattle.hmc_directions.proofs.ends.Ends.has_arrived.Goals as goal

pub returns : goal.returns
returns c = λ rows entries hold.
    let own = c.args.self.now in
    let d = c.args.direction in
    let l = c.index.result.now in
    let there = other_there rows own entries d hold c.requires.there in
    let far = read_at c.self.inside.ends.items own c.from.result (other d) l c.self.view_is (c.from.ensures ∙ c.other.ensures) there c.index.ensures in
    let s = slice_index_or own d l in
    let near = any_at own d l c.requires.there in
    let both = both_at rows own entries d s l hold c.requires.there near far in
    c.has_arrived.ensures ∙ ap (λ (p : Option PacketFields). is_some p) (front_by (sizes_by rows d) (toward d) (entries (d / 2)) l both.landing)

-- The routes of a network's graph are a map, so the laws of moves hold of its journals. By that of
-- tags the answers that wait at a host are awaited.
use Rattle.std.proofs.Common.{ℕ, List}
use Rattle.hmc_hops.specs.Map.{Map}
use Rattle.hmc_hops.specs.GraphMap.{map_of}
use Rattle.hmc_hops.proofs.GraphMaps.{is_map}
use Rattle.hmc_hops.proofs.PhaseSteps.{is_answered}
use Rattle.hmc_entries.specs.declared.entry.Entry.{Entry}
use Rattle.hmc_journal.specs.Lawful.{Lawful}
use Rattle.hmc_journal.specs.Network.{IsNetwork}
use Rattle.hmc_journal.specs.QueueInvariant.{AnswersAwaited}
use Rattle.hmc_journal.specs.Setup.{Setup, graph_of}
use Rattle.hmc_delivery.proofs.Agreeing.{IsMapOf}
use Rattle.hmc_delivery.proofs.Awaiting.{answers_awaited}
use Rattle.hmc_delivery.proofs.Mapped.{is_map_of}
use Rattle.hmc_delivery.proofs.Tagging.{TagsAnswered, tags_answered}

-- the map of a case
abbrev pub routes_of : Setup → Map
routes_of setup = map_of (graph_of setup.topology)

pub maps_routes : (setup : Setup) → IsNetwork setup → IsMapOf setup.topology (routes_of setup)
maps_routes setup network = is_map_of setup network (is_map (graph_of setup.topology) network.graph network.one_part)

-- the answers that wait at a host are those that it awaits
pub awaits_answers : (setup : Setup) (past : List Entry) → IsNetwork setup → Lawful setup past → AnswersAwaited setup past
awaits_answers setup past network lawful =
    answers_awaited setup (routes_of setup) past network (maps_routes setup network) (λ moved h t map may tags. is_answered (routes_of setup) map moved may tags h t) lawful

-- what is promised of each tag of a host
pub answers_tags : (setup : Setup) (past : List Entry) (host tag : ℕ) → IsNetwork setup → Lawful setup past → TagsAnswered host tag past
answers_tags setup past host tag network lawful =
    tags_answered setup (routes_of setup) past host tag network (maps_routes setup network) (λ moved h t map may tags. is_answered (routes_of setup) map moved may tags h t) lawful

-- What a step sees of the directions at a place.
use Rattle.std.proofs.Common.{◌≡◌, ◌/◌, ◌==◌, ◌∙◌, ℕ, Bool, not, nat_lt, Option, Some, List, length, slice_get, sym, ap}
use Rattle.std.specs.Prelude.{option_map}
use Rattle.hmc_codes.specs.declared.place.Place.{Place}
use Rattle.hmc_packet.specs.Packet.{PacketFields}
use Rattle.hmc_send.specs.LinkCalls.{LinkCall, has_room}
use Rattle.hmc_send.specs.LinkEntries.{LinkEntry}
use Rattle.hmc_journal.specs.Links.{toward, put_on, direction_to}
use Rattle.hmc_journal.specs.Next.{lacks_room}
use Rattle.hmc_journal.specs.Queues.{buffer_at, output_from}
use Rattle.hmc_journal.specs.Queues.QueueId.{Output}
use Rattle.hmc_journal.specs.Setup.{direction_from, Topology}
use Rattle.hmc_journal.specs.StepView.{StepView}
use Rattle.hmc_kept.specs.Called.{sizes_by, called}
use Rattle.hmc_journal.proofs.DirectionEnds.{starts_there, ends_at}
use Rattle.hmc_kept.proofs.Called.{called_puts, room_put}
use Rattle.hmc_kept.proofs.Linking.{taken_call}
use Rattle.hmc_kept.specs.Shown.{KeepsLaws}
use Rattle.hmc_ends.specs.Answers.{front_in}
use Rattle.hmc_codes.proofs.General.{below_is_room}

-- whether the direction that starts at a place has room, by the entries of its link
pub place_has_room : (topology : Topology) (view : StepView) (place : Place) (direction : ℕ) → KeepsLaws topology view → direction_from topology place ≡ Some direction
    → has_room (sizes_by topology.links direction) (toward direction) (view.entries (direction / 2)) ≡ not (lacks_room topology view (output_from topology place))
place_has_room topology view place direction laws from =
    ap (λ (l : List PacketFields). nat_lt (length l) (sizes_by topology.links direction).output) (sym (laws.directions direction (starts_there topology place direction from)).output)
    ∙ below_is_room (length (view.inside (Output direction))) (sizes_by topology.links direction).output
    ∙ sym (ap (λ (d : Option ℕ). not (lacks_room topology view (option_map Output d))) from)

-- the same where the entries say whether there is room
pub place_room : (topology : Topology) (view : StepView) (place : Place) (direction : ℕ) (room : Bool) → KeepsLaws topology view → direction_from topology place ≡ Some direction
    → room ≡ has_room (sizes_by topology.links direction) (toward direction) (view.entries (direction / 2)) → room ≡ not (lacks_room topology view (output_from topology place))
place_room topology view place direction room laws from is = is ∙ place_has_room topology view place direction laws from

-- the front of the buffer at a place
pub front_seen : (topology : Topology) (view : StepView) (place : Place) (direction : ℕ) (found : Option PacketFields) → KeepsLaws topology view → direction_to topology place ≡ Some direction
    → found ≡ front_in (sizes_by topology.links direction) (toward direction) (view.entries (direction / 2)) → slice_get (view.inside (buffer_at place)) 0 ≡ found
front_seen topology view place direction found laws to is =
    let at = ends_at topology place direction to in
    ap (λ (p : Place). slice_get (view.inside (buffer_at p)) 0) (sym at.ends)
    ∙ ap (λ (l : List PacketFields). slice_get l 0) (laws.directions direction at.there).buffer
    ∙ sym is

-- the entries of the links after a take at a place
pub taken_entries : (topology : Topology) (view : StepView) (place : Place) (direction link : ℕ) (front : PacketFields) → direction_to topology place ≡ Some direction
    → Some front ≡ front_in (sizes_by topology.links direction) (toward direction) (view.entries (direction / 2))
    → called topology.links direction LinkCall.take view.entries link ≡ put_on link (direction_to topology place) LinkEntry.taken (view.entries link)
taken_entries topology view place direction link front to is =
    called_puts topology.links direction link LinkCall.take (λ _. LinkEntry.taken) view.entries
    (taken_call (sizes_by topology.links direction) (view.entries (direction / 2)) (toward direction) front (sym is))
    ∙ ap (λ (d : Option ℕ). put_on link d LinkEntry.taken (view.entries link)) (sym to)

-- a take leaves the room of all directions
pub room_after : (topology : Topology) (view : StepView) (direction onward : ℕ) (front : PacketFields) → Some front ≡ front_in (sizes_by topology.links direction) (toward direction) (view.entries (direction / 2))
    → has_room (sizes_by topology.links onward) (toward onward) (called topology.links direction LinkCall.take view.entries (onward / 2)) ≡ has_room (sizes_by topology.links onward) (toward onward) (view.entries (onward / 2))
room_after topology view direction onward front is =
    ap (has_room (sizes_by topology.links onward) (toward onward))
    (called_puts topology.links direction (onward / 2) LinkCall.take (λ _. LinkEntry.taken) view.entries
    (taken_call (sizes_by topology.links direction) (view.entries (direction / 2)) (toward direction) front (sym is)))
    ∙ room_put topology.links direction onward (view.entries (onward / 2)) (direction / 2 == onward / 2)

-- What a shift and a lift know of the packet that they move.
use Rattle.std.specs.Prelude.{◌≡◌, ◌<◌, ℕ, length, is_none, Option, Some, slice_get}
use Rattle.hmc_codes.specs.declared.lift.Lift.{Lift}
use Rattle.hmc_codes.specs.declared.place.Place.TheVariants as places
use Rattle.hmc_packet.specs.Packet.{PacketFields}
use Rattle.hmc_crossbar.specs.To.{where_to}
use Rattle.hmc_crossbar.specs.declared.to.To.{To}
use Rattle.hmc_cube.specs.Cube.{CubeFields}
use Rattle.hmc_cube.specs.Places.{answers_at, entrance}
use Rattle.hmc_entries.specs.declared.outcome.Goal.{Goal}
use Rattle.hmc_journal.specs.Links.{direction_to}
use Rattle.hmc_journal.specs.Next.{goal_at, lacks_room}
use Rattle.hmc_journal.specs.Queues.{output_from}
use Rattle.hmc_journal.specs.Routes.{port_towards}
use Rattle.hmc_journal.specs.Setup.{graph_of, shape_of, direction_from}
use Rattle.hmc_journal.specs.StepView.{StepView}
use Rattle.hmc_links.specs.LinkList.{IsFrontAt}
use Rattle.hmc_net.specs.NetState.{NetState, cube_in}
use Rattle.hmc_net.specs.Sees.{Sees}

-- the front of the buffer of a port, at which this direction ends, goes to this goal
pub record IsShifting (net : NetState) (cube port direction : ℕ) (front : PacketFields)
    (goal : Goal) : Type 0 where
  pub ends : direction_to net.topology (places.Port cube port) ≡ Some direction
  pub is_front : IsFrontAt net.links direction (Some front)
  pub goes : goal_at (where_to (graph_of net.topology) (shape_of net.topology cube) cube front)
      ≡ Some goal

-- the buffer of a port has a front, which goes to this goal
pub record IsLeaving (net : NetState) (cube port direction : ℕ) (goal : Goal) : Type 0 where
  pub front : PacketFields
  pub shifting : IsShifting net cube port direction front goal

-- a vault's queue, or the queue of the registers, has room for a packet
abbrev pub HasEntrance : CubeFields → To → Type 0
HasEntrance cube to = length (entrance cube to) < cube.size

-- this is the direction that starts at a port, where its output queue has room
pub record IsWayOut (net : NetState) (cube port : ℕ) (found : Option ℕ) : Type 0 where
  pub room : (view : StepView) → Sees net view →
      lacks_room net.topology view (output_from net.topology (places.Port cube port))
      ≡ is_none found
  pub from : (direction : ℕ) → found ≡ Some direction →
      direction_from net.topology (places.Port cube port) ≡ Some direction

-- the front of the answers of a vault or of the registers leaves through this port towards its
-- host, from which this direction starts and has room
pub record IsLifting (net : NetState) (cube : ℕ) (from : Lift) (port onward : ℕ) : Type 0 where
  pub front : PacketFields
  pub is_front : slice_get (answers_at (cube_in net.cubes cube) from) 0 ≡ Some front
  pub towards : port_towards net.topology cube front.slid ≡ Some port
  pub way : IsWayOut net cube port (Some onward)

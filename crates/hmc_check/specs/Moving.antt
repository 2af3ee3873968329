-- What the steps of hosts, ports and links know of the packets that they move.
use Rattle.std.specs.Prelude.{◌≡◌, ℕ, Bool, true, false, is_none, List, Option, Some}
use Rattle.hmc_codes.specs.declared.place.Place.TheVariants as places
use Rattle.hmc_crossbar.specs.To.{where_to}
use Rattle.hmc_packet.specs.declared.head.Head.{Head}
use Rattle.hmc_packet.specs.Packet.{PacketFields}
use Rattle.hmc_entries.specs.declared.entry.Entry.{Entry}
use Rattle.hmc_entries.specs.declared.outcome.Goal.{Goal}
use Rattle.hmc_journal.specs.Lawful.{has_passed}
use Rattle.hmc_journal.specs.Links.{direction_to}
use Rattle.hmc_journal.specs.Next.{goal_at, lacks_room}
use Rattle.hmc_journal.specs.Queues.{output_from}
use Rattle.hmc_journal.specs.Setup.{Setup, graph_of, shape_of, direction_from}
use Rattle.hmc_journal.specs.StepView.{StepView, view_of}
use Rattle.hmc_journal.specs.ThroughSteps.{gathered_head}
use Rattle.hmc_directions.specs.Ends.{EndsHold}
use Rattle.hmc_kept.specs.ByDirection.{IsFrontAt}
use Rattle.hmc_queues.specs.declared.queue_name.QueueName.{QueueName}
use Rattle.hmc_queues.specs.declared.queue_name.QueueName.TheVariants as names
use Rattle.hmc_entries.specs.declared.outcome.Goal.TheVariants as goals
use Rattle.hmc_kept.specs.Throughs.{IsOnto, is_free}
use Rattle.hmc_check.specs.Past.{PastFields, Holds}

-- so it is by each view of a journal for which these parts are kept
abbrev pub Seen : PastFields → (StepView → Type 0) → Type 0
Seen p says = (setup : Setup) (past : List Entry) → Holds setup past p →
    has_passed past ≡ false → says (view_of setup past)

-- this is the direction that starts at a port, where its output queue has room
pub record IsWayOut (p : PastFields) (cube port : ℕ) (found : Option ℕ) : Type 0 where
  pub room : Seen p (λ view.
      lacks_room p.topology view (output_from p.topology (places.Port cube port)) ≡ is_none found)
  pub from : (direction : ℕ) → found ≡ Some direction →
      direction_from p.topology (places.Port cube port) ≡ Some direction

-- the front of the buffer of a port, at which this direction ends, goes to this goal
pub record IsShifting (p : PastFields) (cube port direction : ℕ) (front : PacketFields)
    (goal : Goal) : Type 0 where
  pub ends : direction_to p.topology (places.Port cube port) ≡ Some direction
  pub is_front : IsFrontAt EndsHold p.ends direction (Some front)
  pub goes : goal_at (where_to (graph_of p.topology) (shape_of p.topology cube) cube front)
      ≡ Some goal

-- the queue of a goal in the cube
abbrev pub IsGoalQueue : Goal → QueueName → Type 0
IsGoalQueue (goals.Vault vault) name = name ≡ names.Vault vault
IsGoalQueue goals.Registers name = name ≡ names.Registers
IsGoalQueue (goals.Port port) name = ⊥

-- this is the head of the packet that is gathered at the end of a direction
abbrev pub IsHeadAt : PastFields → (from : ℕ) → Option Head → Type 0
IsHeadAt p from head = Seen p (λ view. head ≡ gathered_head view (Some from))

-- this is whether a packet of so many flits can go on now
abbrev pub IsFree : PastFields → (from onto flits : ℕ) → Bool → Type 0
IsFree p from onto flits free = Seen p (λ view. free ≡ is_free p.topology view from onto flits)

-- the packet that is gathered at a port, where this direction ends, goes on now
pub record IsComing (p : PastFields) (cube port from onto : ℕ) : Type 0 where
  pub ends : direction_to p.topology (places.Port cube port) ≡ Some from
  pub head : Head
  pub gathers : IsHeadAt p from (Some head)
  pub goes : IsOnto p.topology cube port head (Some onto)
  pub free : IsFree p from onto head.flits true

-- The queues that packets wait in, and where a packet goes from each. This file alone has the table
-- of moves.
use Rattle.std.specs.Prelude.{ℕ, Bool, true, false, ◌==◌, ◌&&◌, Option, Some, None}
use Rattle.hmc_codes.specs.Places.{same_lift}
use Rattle.hmc_codes.specs.declared.lift.Lift.{Lift}
use Rattle.hmc_codes.specs.declared.lift.Lift.TheVariants as lifts
use Rattle.hmc_hops.specs.Packets.{Packet, Spot, same_spot, is_token}
use Rattle.hmc_hops.specs.Packets.Spot.{Bank, Registers}
use Rattle.hmc_hops.specs.Map.{Map, End, goal_of}
use Rattle.hmc_hops.specs.Map.End.{Host, Cube}
use Rattle.hmc_routes.specs.Route.Goal.{ToHost}

-- Of a direction the output queue where it starts, its line, and the input buffer where it ends;
-- in a cube the queues of vaults, of units (banks and registers) and of answers. A link is a queue
-- like the others: its line holds what was begun on the direction and isn't accepted yet.
pub data QueueId : Type 0 where
  Output : (direction : ℕ) → QueueId
  Line : (direction : ℕ) → QueueId
  Buffer : (direction : ℕ) → QueueId
  Vault : (cube vault : ℕ) → QueueId
  UnitQueue : (cube : ℕ) → Spot → QueueId
  Answers : (cube : ℕ) → Lift → QueueId

-- the same queue
abbrev pub same_queue : QueueId → QueueId → Bool
same_queue (Output d) (Output e) = d == e
same_queue (Line d) (Line e) = d == e
same_queue (Buffer d) (Buffer e) = d == e
same_queue (Vault c v) (Vault d w) = (c == d) && (v == w)
same_queue (UnitQueue c s) (UnitQueue d t) = (c == d) && same_spot s t
same_queue (Answers c from) (Answers d to) = (c == d) && same_lift from to
same_queue _ _ = false

-- a queue, if there is one, is this one
abbrev pub is_at : Option QueueId → QueueId → Bool
is_at None here = false
is_at (Some queue) here = same_queue queue here

-- the queue that the answers of a unit enter: that of its vault, or that of the registers
abbrev pub lift_of : Spot → Lift
lift_of Registers = lifts.Registers
lift_of (Bank v b) = lifts.Vault v

-- the first queue that a request enters in its cube
abbrev pub first_queue : (cube : ℕ) → Spot → QueueId
first_queue c Registers = UnitQueue c Registers
first_queue c (Bank v b) = Vault c v

-- after a line: a packet that only returns tokens enters no buffer
abbrev pub after_line : (token : Bool) → (direction : ℕ) → Option QueueId
after_line true d = Some (Buffer d)
after_line false d = None

-- at a cube: on to another direction, or into the cube
abbrev pub at_cube : Option ℕ → (inside : QueueId) → Option QueueId
at_cube (Some d) inside = Some (Output d)
at_cube None inside = Some inside

-- after a buffer: a host takes the packet, and a cube sends it on or lets it in
abbrev pub after_buffer : Map → End → Packet → Option QueueId
after_buffer m (Host h) x = None
after_buffer m (Cube c) x = at_cube (m.next (goal_of x) c) (first_queue c x.spot)

-- a poisoned packet goes nowhere
abbrev pub unless_poisoned : Bool → Option QueueId → Option QueueId
unless_poisoned true queue = None
unless_poisoned false queue = queue

-- after a queue of answers: onto the direction to the host
abbrev pub after_answers : Option ℕ → Option QueueId
after_answers (Some d) = Some (Output d)
after_answers None = None

-- Where a packet goes from a queue. With None it ends there: a host takes it, a poisoned packet is
-- dropped, and a packet that only returns tokens is done. A request in the queue of a unit doesn't
-- go on, since it is executed.
abbrev pub next_queue : Map → QueueId → Packet → Option QueueId
next_queue m (Output d) x = Some (Line d)
next_queue m (Line d) x = after_line (is_token x.kind) d
next_queue m (Buffer d) x = unless_poisoned x.poisoned (after_buffer m (m.end_of d) x)
next_queue m (Vault c v) x = Some (UnitQueue c x.spot)
next_queue m (UnitQueue c s) x = None
next_queue m (Answers c from) x = after_answers (m.next (ToHost x.host) c)

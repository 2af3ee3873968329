-- What the step through does: a packet is forwarded that is still being gathered at a port.
use Rattle.std.specs.Prelude.{ℕ, Bool, false, not, ◌==◌, ◌||◌, nat_lt, if◌then◌else◌, ◌/◌, Option, Some, None, is_some, is_none, slice_get, option_and_then}
use Rattle.hmc_codes.specs.Commands.{family_of}
use Rattle.hmc_codes.specs.declared.family.Family.{Family}
use Rattle.hmc_codes.specs.declared.family.Family.TheVariants as families
use Rattle.hmc_codes.specs.declared.place.Place.TheVariants as places
use Rattle.hmc_packet.specs.declared.feed.Feed.TheVariants.{Waiting}
use Rattle.hmc_packet.specs.declared.head.Head.{Head}
use Rattle.hmc_packet.specs.Head.{head_in}
use Rattle.hmc_packet.specs.Landings.{pending}
use Rattle.hmc_schedule.specs.declared.step.Step.TheVariants as steps
use Rattle.hmc_routes.specs.Ports.{port_to_cube, port_to_host}
use Rattle.hmc_send.specs.LinkCalls.{view_in, may_pass_on}
use Rattle.hmc_send.specs.LinkEntries.{receiver_entries}
use Rattle.hmc_entries.specs.declared.outcome.Cause.TheVariants as causes
use Rattle.hmc_entries.specs.declared.entry.Entry.{Entry}
use Rattle.hmc_entries.specs.declared.entry.Entry.TheVariants.{Through, Idle}
use Rattle.hmc_journal.specs.Links.{toward, direction_to, sizes_on}
use Rattle.hmc_journal.specs.Queues.QueueId.{Port}
use Rattle.hmc_journal.specs.Setup.{Topology, cubes_in, hosts_in, graph_of, direction_from}
use Rattle.hmc_journal.specs.StepView.{StepView}

-- the number, if it is below another
abbrev pub if_below : (most number : ℕ) → Option ℕ
if_below most number = if nat_lt number most then Some number else None

-- the port of a cube towards the goal of a packet with this head: a request's cube, if it is
-- another one, or an answer's host; None where the goal isn't there
abbrev pub port_by : Topology → (cube : ℕ) → Head → Family → Option ℕ
port_by topology cube head families.Ask =
    option_and_then (λ goal. port_to_cube (graph_of topology) goal cube)
    (if_below (cubes_in topology) head.cube)
port_by topology cube head families.Reply =
    option_and_then (λ goal. port_to_host (graph_of topology) goal cube)
    (if_below (hosts_in topology) head.slid)
port_by topology cube head families.Flow = None

-- another port than this one
abbrev pub other_than : (port : ℕ) → Option ℕ → Option ℕ
other_than port None = None
other_than port (Some onward) = if onward == port then None else Some onward

-- the port by which a packet with this head leaves that arrives at a port, if it may be forwarded
abbrev pub onward_port : Topology → (cube port : ℕ) → Head → Option ℕ
onward_port topology cube port head =
    other_than port (port_by topology cube head (family_of head.command))

-- the head of the packet that is gathered at the end of a direction, if one is, and if its first
-- flit is the header of a request or an answer
abbrev pub gathered_head : StepView → (direction : Option ℕ) → Option Head
gathered_head view None = None
gathered_head view (Some direction) =
    option_and_then head_in
    (slice_get (pending (receiver_entries (toward direction) (view.entries (direction / 2)))) 0)

-- the packet at the end of a direction is forwarded already
abbrev pub is_forwarded : StepView → (direction : Option ℕ) → Bool
is_forwarded view None = false
is_forwarded view (Some direction) = is_some (view.forwarded direction)

-- a direction can take a packet of so many flits now
abbrev pub takes_on : Topology → StepView → (direction flits : ℕ) → Bool
takes_on topology view direction flits =
    may_pass_on
    (view_in (sizes_on topology direction) (toward direction) (view.entries (direction / 2))
    Waiting) flits

-- the packet is forwarded onto a direction, unless it already is, the buffer of its port holds a
-- packet, or the direction can't take it now
abbrev pub forwarded_entry : Topology → StepView → (cube port : ℕ) → Head → (onto : Option ℕ) →
    Entry
forwarded_entry topology view cube port head None = Idle (steps.Through cube port) causes.NoPacket
forwarded_entry topology view cube port head (Some direction) =
    if is_forwarded view (direction_to topology (places.Port cube port))
    || not (is_none (slice_get (view.inside (Port cube port)) 0))
    || not (takes_on topology view direction head.flits)
    then Idle (steps.Through cube port) causes.Busy
    else Through cube port direction

-- through: the packet that is gathered at a port is forwarded, if there is one that may be
abbrev pub through_head : Topology → StepView → (cube port : ℕ) → Option Head → Entry
through_head topology view cube port None = Idle (steps.Through cube port) causes.NoPacket
through_head topology view cube port (Some head) =
    forwarded_entry topology view cube port head
    (option_and_then (λ onward. direction_from topology (places.Port cube onward))
    (onward_port topology cube port head))

abbrev pub through_entry : Topology → StepView → (cube port : ℕ) → Entry
through_entry topology view cube port =
    through_head topology view cube port
    (gathered_head view (direction_to topology (places.Port cube port)))

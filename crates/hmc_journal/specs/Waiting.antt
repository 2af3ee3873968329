-- Where a step waits: its queue is empty, or its goal is full.
use Rattle.std.specs.Prelude.{ℕ, Bool, true, false, nat_le, List, [], ◌∷◌, length, Option, Some, None}
use Rattle.hmc_codes.specs.declared.unit.Unit.{Unit as RequestUnit}
use Rattle.hmc_packet.specs.Packet.{PacketFields}
use Rattle.hmc_schedule.specs.declared.step.Step.{Step}
use Rattle.hmc_entries.specs.declared.outcome.Cause.TheVariants as causes
use Rattle.hmc_entries.specs.declared.entry.Entry.{Entry}
use Rattle.hmc_entries.specs.declared.entry.Entry.TheVariants.{Idle}
use Rattle.hmc_journal.specs.Setup.{Topology, cube_setup, unit_cube, link_of}
use Rattle.hmc_journal.specs.Queues.{QueueId}
use Rattle.hmc_journal.specs.Queues.QueueId.{Output, Port, Host, Vault, Bank, Registers, Answers}
use Rattle.hmc_journal.specs.StepView.{StepView}

-- So many packets fit a queue: an output queue by its link, one of a cube by the cube. The buffers
-- of ports and hosts have no such size: they hold flits, and their senders see to it by tokens that
-- what lands has room.
abbrev pub size_of : Topology → QueueId → Option ℕ
size_of topology (Output direction) = Some (link_of topology direction).setup.output
size_of topology (Port cube port) = None
size_of topology (Host host) = None
size_of topology (Vault cube vault) = Some (cube_setup topology cube).queue
size_of topology (Bank cube vault bank) = Some (cube_setup topology cube).queue
size_of topology (Registers cube) = Some (cube_setup topology cube).queue
size_of topology (Answers cube from) = Some (cube_setup topology cube).queue

-- so many packets fit a unit's queue, and its queue of answers
abbrev pub queue_size : Topology → RequestUnit → ℕ
queue_size topology unit = (cube_setup topology (unit_cube unit)).queue

-- this many packets fill a queue of a size; without a size it is never full
abbrev pub is_filled : Option ℕ → (packets : ℕ) → Bool
is_filled None packets = false
is_filled (Some size) packets = nat_le size packets

-- a queue holds its number of packets
abbrev pub is_full : Topology → StepView → QueueId → Bool
is_full topology view queue = is_filled (size_of topology queue) (length (view.inside queue))

-- a packet has no room: the queue that it is for is full, or isn't there
abbrev pub lacks_room : Topology → StepView → Option QueueId → Bool
lacks_room topology view None = true
lacks_room topology view (Some queue) = is_full topology view queue

-- what a step does with a front, if there is one
abbrev pub with_front : Step → List PacketFields → (PacketFields → Entry) → Entry
with_front step [] does = Idle step causes.Empty
with_front step (front ∷ rest) does = does front

-- what a step does, unless there is no room
abbrev pub unless_full : Step → Bool → Entry → Entry
unless_full step true entry = Idle step causes.Full
unless_full step false entry = entry

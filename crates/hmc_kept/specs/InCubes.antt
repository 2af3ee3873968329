-- The queues inside cubes, and a queue that a packet may have left.
use Rattle.std.specs.Prelude.{Bool, true, false, List, drop}
use Rattle.hmc_packet.specs.Packet.{PacketFields}
use Rattle.hmc_journal.specs.Queues.{QueueId}
use Rattle.hmc_journal.specs.Queues.QueueId.{Output, Port, Host}

-- a queue of a cube: no output queue, and no buffer at the end of a direction
abbrev pub IsCubeQueue : QueueId → Type 0
IsCubeQueue (Output direction) = ⊥
IsCubeQueue (Port cube port) = ⊥
IsCubeQueue (Host host) = ⊥
IsCubeQueue _ = Unit {0}

-- the packets of a queue, changed or not
abbrev pub change_if : (changes : Bool) → (List PacketFields → List PacketFields) →
    List PacketFields → List PacketFields
change_if true change packets = change packets
change_if false change packets = packets

-- the front leaves, or none does
abbrev pub without_front : (leaves : Bool) → List PacketFields → List PacketFields
without_front leaves packets = change_if leaves (drop 1) packets

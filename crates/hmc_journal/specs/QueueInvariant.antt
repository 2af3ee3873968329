-- What the queues hold after a lawful journal.
use Rattle.std.specs.Prelude.{◌≡◌, ◌<◌, ℕ, false, List, All, filter, drop}
use Rattle.hmc_codes.specs.Commands.{family_of}
use Rattle.hmc_codes.specs.declared.family.Family.TheVariants as families
use Rattle.hmc_codes.specs.declared.lift.Lift.{Lift}
use Rattle.hmc_packet.specs.Packet.{PacketFields}
use Rattle.hmc_crossbar.specs.To.{HasGoal}
use Rattle.hmc_host.specs.Host.{HostFields}
use Rattle.hmc_host.specs.Settle.{IsAwaited}
use Rattle.hmc_entries.specs.declared.entry.Entry.{Entry}
use Rattle.hmc_send.specs.LinkEntries.{receiver_entries, takes}
use Rattle.hmc_send.specs.LinkSenders.{queue_in}
use Rattle.hmc_send.specs.Places.{is_token}
use Rattle.hmc_wire.specs.LinkLaws.{IsKept}
use Rattle.hmc_journal.specs.Setup.{Topology, Setup, hosts_in, directions_in, graph_of}
use Rattle.hmc_journal.specs.Directions.{receiver_of, accepted}
use Rattle.hmc_journal.specs.Links.{toward, entries_on, sizes_on}
use Rattle.hmc_journal.specs.Queues.{landing_buffer, contents}
use Rattle.hmc_journal.specs.Queues.QueueId.{Output, Port, Host, Vault, Bank, Registers, Answers}
use Rattle.hmc_journal.specs.Hosts.{host_of}

-- a request that is in its cube
pub record IsCubeRequest (here : ℕ) (packet : PacketFields) : Type 0 where
  pub asks : family_of packet.command ≡ families.Ask
  pub cube : packet.cube ≡ here

-- a packet on its way to a cube or a host that is there; unless it is poisoned, either profile has
-- room for its ERRSTAT
pub record IsOnItsWay (topology : Topology) (packet : PacketFields) : Type 0 where
  pub goal : HasGoal (graph_of topology) packet (family_of packet.command)
  pub errstat : packet.poisoned ≡ false → packet.errstat < 8

-- an answer to a host that is there, with such an ERRSTAT
pub record IsHostAnswer (topology : Topology) (packet : PacketFields) : Type 0 where
  pub replies : family_of packet.command ≡ families.Reply
  pub host : packet.slid < hosts_in topology
  pub errstat : packet.errstat < 8

-- an answer that a host awaits, unless it is poisoned
abbrev pub IsAnswerFor : HostFields → PacketFields → Type 0
IsAnswerFor host packet = packet.poisoned ≡ false → IsAwaited host packet

-- What the steps of a link rest on. Its entries are such as a link may have; the packets in the
-- output queue of each direction are those that its sender hasn't begun, and those in the buffer at
-- its end were accepted and not taken.
pub record LinkInvariant (topology : Topology) (past : List Entry) (direction : ℕ) : Type 0 where
  pub kept : IsKept (sizes_on topology direction) (entries_on topology direction past)
  pub output : contents topology past (Output direction)
      ≡ queue_in (sizes_on topology direction) (toward direction)
      (entries_on topology direction past)
  pub receiver : receiver_of direction past
      ≡ receiver_entries (toward direction) (entries_on topology direction past)
  pub buffer : contents topology past (landing_buffer topology direction)
      ≡ drop (takes (toward direction) (entries_on topology direction past))
      (filter is_token (accepted topology direction past))

-- Packets wait at ports on their way to a cube or a host that is there, requests in their cube, and
-- answers to a host that is there.
pub record QueueInvariant (setup : Setup) (past : List Entry) : Type 0 where
  pub ports : (cube port : ℕ) →
      All (IsOnItsWay setup.topology) (contents setup.topology past (Port cube port))
  pub vaults : (cube vault : ℕ) →
      All (IsCubeRequest cube) (contents setup.topology past (Vault cube vault))
  pub banks : (cube vault bank : ℕ) →
      All (IsCubeRequest cube) (contents setup.topology past (Bank cube vault bank))
  pub registers : (cube : ℕ) →
      All (IsCubeRequest cube) (contents setup.topology past (Registers cube))
  pub answers : (cube : ℕ) (from : Lift) →
      All (IsHostAnswer setup.topology) (contents setup.topology past (Answers cube from))
  pub links : (direction : ℕ) → direction < directions_in setup.topology →
      LinkInvariant setup.topology past direction

-- The unpoisoned answers that wait at a host are those that it awaits: their tags are out.
pub record AnswersAwaited (setup : Setup) (past : List Entry) : Type 0 where
  pub hosts : (host : ℕ) →
      All (IsAnswerFor (host_of setup past host)) (contents setup.topology past (Host host))

-- What a step sees of a journal.
use Rattle.std.specs.Prelude.{ℕ, List, Option}
use Rattle.hmc_packet.specs.Packet.{PacketFields}
use Rattle.hmc_host.specs.Host.{HostFields}
use Rattle.hmc_send.specs.LinkEntries.{LinkEntry}
use Rattle.hmc_serial.specs.Machine.{State, opening_state}
use Rattle.hmc_entries.specs.declared.entry.Entry.{Entry}
use Rattle.hmc_journal.specs.Setup.{Setup, shapes_of}
use Rattle.hmc_journal.specs.Queues.{QueueId, contents}
use Rattle.hmc_journal.specs.Links.{link_entries}
use Rattle.hmc_journal.specs.Hosts.{host_of}
use Rattle.hmc_journal.specs.Piped.{PipeFrom, forwarded_onto, pipe_onto}
use Rattle.hmc_journal.specs.Serial.{state_after}

-- the packets in each queue; memory, registers and logic units; each host; what each link did; of
-- each direction, where the packet goes that is gathered at its end, if it is forwarded; and the
-- pipe of the latest packet that was forwarded onto it
pub record StepView : Type 0 where
  pub inside : QueueId → List PacketFields
  pub state : State
  pub host : (number : ℕ) → HostFields
  pub entries : (link : ℕ) → List LinkEntry
  pub forwarded : (direction : ℕ) → Option ℕ
  pub pipe : (direction : ℕ) → Option PipeFrom

-- a plain machine of the case's cubes and of the logic units that were handed in
abbrev pub opening_of : Setup → State
opening_of setup = opening_state (shapes_of setup.topology) setup.slots

-- the memory, the registers and the logic units that a journal leaves
unfoldable pub state_of : Setup → List Entry → State
state_of setup past = state_after (opening_of setup) past

-- what a step sees after a journal
unfoldable pub view_of : Setup → List Entry → StepView
view_of setup past = record {
  inside = contents setup.topology past;
  state = state_of setup past;
  host = host_of setup past;
  entries = λ link. link_entries setup.topology link past;
  forwarded = λ direction. forwarded_onto setup.topology direction past;
  pipe = λ direction. pipe_onto setup.topology direction past;
}

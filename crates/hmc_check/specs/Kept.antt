-- What a check keeps of the lines so far, inside the cubes: the packets in their queues, and a
-- plain machine of memories, registers and logic units.
use Rattle.std.specs.Prelude.{◌≡◌, ◌≤◌, List, ◌++◌, length, Option}
use Rattle.hmc_packet.specs.Packet.{PacketFields}
use Rattle.hmc_serial.specs.Machine.{State, apply, retire}
use Rattle.hmc_entries.specs.declared.entry.Entry.{Entry}
use Rattle.hmc_entries.specs.declared.entry.Entry.TheVariants.{Executed, Retired}
use Rattle.hmc_journal.specs.Queues.{QueueId, is_at, Arrival, arrived, left, entered, contents}
use Rattle.hmc_journal.specs.Setup.{Setup}
use Rattle.hmc_journal.specs.StepView.{state_of}
use Rattle.hmc_kept.specs.InCubes.{IsCubeQueue, without_front}

-- what is kept
pub record InnerKept : Type 0 where
  pub inside : QueueId → List PacketFields
  pub state : State

-- it is what the journal of the lines so far says
pub record KeepsInner (setup : Setup) (past : List Entry) (kept : InnerKept) : Type 0 where
  pub queues : (queue : QueueId) → IsCubeQueue queue →
      kept.inside queue ≡ contents setup.topology past queue
  pub moves : (queue : QueueId) → IsCubeQueue queue →
      left past queue ≤ length (entered setup.topology past queue)
  pub state : kept.state ≡ state_of setup past

-- the queues after one front left and one packet came
abbrev pub moved : Option QueueId → Option Arrival → (QueueId → List PacketFields) → QueueId →
    List PacketFields
moved leaving coming inside queue =
    without_front (is_at leaving queue) (inside queue) ++ arrived queue coming

-- the machine after an entry
abbrev pub worked : Entry → State → State
worked (Executed unit host tag request answer) state = apply state request
worked (Retired slot) state = retire state slot
worked _ state = state

-- what is kept after an entry
abbrev pub inner_after : Option QueueId → Option Arrival → Entry → InnerKept → InnerKept
inner_after leaving coming entry kept = record {
  inside = moved leaving coming kept.inside;
  state = worked entry kept.state;
}

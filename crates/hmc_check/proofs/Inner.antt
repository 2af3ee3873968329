-- What is kept inside the cubes is what the journal says, with one more entry.
use Rattle.std.proofs.Common.{◌≡◌, ◌+◌, ◌∙◌, List, ◌∷◌, ◌++◌, sym, ap}
use Rattle.hmc_packet.specs.Packet.{PacketFields}
use Rattle.hmc_serial.specs.Machine.{State, apply, retire}
use Rattle.hmc_entries.specs.declared.entry.Entry.{Entry}
use Rattle.hmc_entries.specs.declared.entry.Entry.TheVariants.{Gave, Sent, Landed, Shifted, Dropped, Spread, Executed, Lifted, Took, Discarded, Through, Unlocked, Retired, Passed, Idle}
use Rattle.hmc_journal.specs.Queues.{is_at, leaves, arrived}
use Rattle.hmc_journal.specs.Serial.{state_after}
use Rattle.hmc_journal.specs.Setup.{Setup}
use Rattle.hmc_journal.specs.StepView.{state_of}
use Rattle.hmc_journal.proofs.EntryRule.{EntryRule}
use Rattle.hmc_journal.proofs.Moves.{arrives}
use Rattle.hmc_kept.specs.InCubes.{without_front}
use Rattle.hmc_kept.proofs.InCubes.{left_by_rule, contents_step, within_step}
use Rattle.hmc_check.specs.Kept.{InnerKept, KeepsInner, worked, inner_after}

worked_is : (setup : Setup) (past : List Entry) (entry : Entry) (state : State) → state ≡ state_of setup past → worked entry state ≡ state_of setup (entry ∷ past)
unfolding state_of state_after
worked_is setup past (Executed unit host tag request answer) state same = ap (λ (s : State). apply s request) same
worked_is setup past (Retired slot) state same = ap (λ (s : State). retire s slot) same
worked_is setup past (Gave host tag poisoned request) state same = same
worked_is setup past (Sent direction what flit) state same = same
worked_is setup past (Landed direction flit outcome) state same = same
worked_is setup past (Shifted cube port goal) state same = same
worked_is setup past (Dropped cube port) state same = same
worked_is setup past (Spread cube vault bank) state same = same
worked_is setup past (Lifted cube from port) state same = same
worked_is setup past (Took host tag answer) state same = same
worked_is setup past (Discarded host) state same = same
worked_is setup past (Through cube port direction) state same = same
worked_is setup past (Unlocked direction) state same = same
worked_is setup past (Passed direction flit) state same = same
worked_is setup past (Idle step cause) state same = same

pub inner_then : (setup : Setup) (past : List Entry) (entry : Entry) (kept : InnerKept) → EntryRule setup past entry → KeepsInner setup past kept
    → KeepsInner setup (entry ∷ past) (inner_after (leaves past entry) (arrives setup.topology past entry) entry kept)
inner_then setup past entry kept rule keeps =
    let left_is = left_by_rule setup past entry rule in record {
      queues = λ q inner.
          ap (λ (l : List PacketFields). without_front (is_at (leaves past entry) q) l ++ arrived q (arrives setup.topology past entry)) (keeps.queues q inner)
          ∙ sym (contents_step setup.topology past entry q inner left_is (keeps.moves q inner));
      moves = λ q inner. within_step setup.topology past entry q inner left_is (keeps.moves q inner);
      state = worked_is setup past entry kept.state keeps.state;
    }

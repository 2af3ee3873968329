-- A journal of one cube and one link by numbers.
use Rattle.std.specs.Prelude.{Bool, true, false, ◌||◌, not, List, [], ◌∷◌}
use Rattle.hmc_send.specs.LinkEntries.{LinkEntry}
use Rattle.hmc_link_state.specs.State.{State}
use Rattle.hmc_link_state.specs.Steps.{Doing}
use Rattle.hmc_entries.specs.declared.entry.Entry.{Entry}
use Rattle.hmc_entries.specs.declared.entry.Entry.TheVariants.{Idle}
use Rattle.hmc_schedule.specs.declared.step.Step.{Step}
use Rattle.hmc_journal.specs.Next.{next}
use Rattle.hmc_journal.specs.Setup.{Setup, Topology}
use Rattle.hmc_rounds.specs.LinkPart.{link_of}
use Rattle.hmc_rounds.specs.CubeQueues.{queues_of_vaults, queues_of_units, queues_of_answers}
use Rattle.hmc_journal.specs.UnderWay.{count_in}

-- the link's numbers, what the cube holds, and whether something moved
abbrev pub counted : Topology → (List LinkEntry → List Doing) → List Entry → Bool → State
counted topology doings past moved = record {
  forth = (link_of topology doings past).forth;
  back = (link_of topology doings past).back;
  vaults = count_in topology past (queues_of_vaults topology);
  banks = count_in topology past (queues_of_units topology);
  answers = count_in topology past (queues_of_answers topology);
  can_move = moved;
}

abbrev pub is_idle : Entry → Bool
is_idle (Idle step cause) = true
is_idle _ = false

-- whether one of these steps makes a move
unfoldable pub moved_over : Setup → List Entry → List Step → Bool
moved_over setup past [] = false
moved_over setup past (step ∷ steps) =
    not (is_idle (next setup past step)) || moved_over setup (next setup past step ∷ past) steps

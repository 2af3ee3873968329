-- What the steps of cubes and of logic units do: shift, spread, bank, registers, lift and retire.
use Rattle.std.specs.Prelude.{ℕ, if◌then◌else◌, Option, Some, None, List}
use Rattle.hmc_journal.specs.Answers.{ran_entry}
use Rattle.hmc_codes.specs.Request.{RequestFields}
use Rattle.hmc_codes.specs.declared.lift.Lift.{Lift}
use Rattle.hmc_codes.specs.declared.place.Place.TheVariants as places
use Rattle.hmc_codes.specs.declared.unit.Unit.{Unit as RequestUnit}
use Rattle.hmc_packet.specs.Packet.{PacketFields}
use Rattle.hmc_packet.specs.Transactions.{request_in}
use Rattle.hmc_schedule.specs.declared.step.Step.{Step}
use Rattle.hmc_schedule.specs.declared.step.Step.TheVariants as steps
use Rattle.hmc_units.specs.Bench.{is_live}
use Rattle.hmc_serial.specs.Machine.{State, cube_state_at}
use Rattle.hmc_crossbar.specs.declared.to.To.{To}
use Rattle.hmc_crossbar.specs.declared.to.To.TheVariants as tos
use Rattle.hmc_crossbar.specs.To.{where_to}
use Rattle.hmc_vault.specs.Execute.{runs}
use Rattle.hmc_entries.specs.declared.outcome.Cause.TheVariants as causes
use Rattle.hmc_entries.specs.declared.outcome.Goal.{Goal}
use Rattle.hmc_entries.specs.declared.outcome.Goal.TheVariants as goals
use Rattle.hmc_entries.specs.declared.entry.Entry.{Entry}
use Rattle.hmc_entries.specs.declared.entry.Entry.TheVariants.{Shifted, Dropped, Spread, Lifted, Retired, Idle}
use Rattle.hmc_journal.specs.Setup.{Topology, shape_of, graph_of}
use Rattle.hmc_journal.specs.Queues.{output_from, queue_of, answers_of, goal_queue}
use Rattle.hmc_journal.specs.Queues.QueueId.{Bank}
use Rattle.hmc_journal.specs.StepView.{StepView}
use Rattle.hmc_journal.specs.Waiting.{is_full, lacks_room, with_front, unless_full, queue_size}

-- where a packet goes from a port, as the goal of an entry; None where it goes nowhere
abbrev pub goal_at : To → Option Goal
goal_at (tos.Vault vault) = Some (goals.Vault vault)
goal_at tos.Registers = Some goals.Registers
goal_at (tos.Port port) = Some (goals.Port port)
goal_at tos.Nowhere = None

-- shift: a packet goes where it is for, if there is room; one that goes nowhere is dropped
abbrev pub shifted_entry : Topology → StepView → (cube port : ℕ) → Option Goal → Entry
shifted_entry topology view cube port None = Dropped cube port
shifted_entry topology view cube port (Some goal) =
    unless_full (steps.Shift cube port) (lacks_room topology view (goal_queue topology cube goal))
    (Shifted cube port goal)

abbrev pub shift_entry : Topology → StepView → (cube port : ℕ) → PacketFields → Entry
shift_entry topology view cube port front =
    shifted_entry topology view cube port
    (goal_at (where_to (graph_of topology) (shape_of topology cube) cube front))

-- spread: the front of a vault's queue goes, where there is room, to the bank of its address
abbrev pub spread_to_bank : Topology → StepView → (cube vault bank : ℕ) → Entry
spread_to_bank topology view cube vault bank =
    unless_full (steps.Spread cube vault) (is_full topology view (Bank cube vault bank))
    (Spread cube vault bank)

-- bank and registers: the request that a front carries is executed, unless it must wait for room
-- for its answer (a front without a request doesn't come)
abbrev pub execution_entry : RequestUnit → Step → PacketFields → (answers : List PacketFields) →
    (size : ℕ) →
    State → Option RequestFields → Entry
execution_entry unit step front answers size state None = Idle step causes.Empty
execution_entry unit step front answers size state (Some request) =
    ran_entry unit step
    (runs front request answers size (cube_state_at state request.cube) state.slots)

-- the front of the queue of a unit is executed, if there is one
abbrev pub executed_entry : Topology → StepView → RequestUnit → Step → Entry
executed_entry topology view unit step = with_front step (view.inside (queue_of unit)) (λ front.
    execution_entry unit step front (view.inside (answers_of unit))
    (queue_size topology unit) view.state
    (request_in front))

-- lift: an answer goes, where there is room, to the output queue of the port towards its host; it
-- waits where there is no such port
abbrev pub lifted_entry : Topology → StepView → (cube : ℕ) → Lift → (port : Option ℕ) → Entry
lifted_entry topology view cube from None = Idle (steps.Lift cube from) causes.Full
lifted_entry topology view cube from (Some port) =
    unless_full (steps.Lift cube from)
    (lacks_room topology view (output_from topology (places.Port cube port)))
    (Lifted cube from port)

-- retire: the unit of a slot is gone for good, if there is one
abbrev pub retired_entry : StepView → (slot : ℕ) → Entry
retired_entry view slot =
    (if is_live view.state.slots slot then Retired slot else Idle (steps.Retire slot) causes.Empty)

-- What a step returns and which calls make which entries, computed.
use Rattle.std.proofs.Common.{◌≡◌, ℕ, Option, Some, None, List, [], ◌∷◌, refl, arith, lit<}
use Rattle.std.specs.Prelude.{map, replicate}
use Rattle.std.specs.Option.{option_map}
use Rattle.hmc_codes.specs.Request.{RequestFields}
use Rattle.hmc_codes.specs.declared.answer.Answer.TheVariants as answers
use Rattle.hmc_codes.specs.declared.command.Command.{Command}
use Rattle.hmc_codes.specs.declared.command.Command.TheVariants.{Unit0, Unit1}
use Rattle.hmc_codes.specs.declared.unit.Unit.TheVariants as units
use Rattle.hmc_codes.specs.Flit.{zero_flit}
use Rattle.hmc_codes.specs.declared.lift.Lift.TheVariants as lifts
use Rattle.hmc_crossbar.specs.declared.to.To.TheVariants as goes
use Rattle.hmc_cube.specs.Cube.{CubeFields, no_vault}
use Rattle.hmc_host.specs.declared.given.Hindrance.TheVariants as hindrances
use Rattle.hmc_packet.specs.Packet.{null_packet}
use Rattle.hmc_units.specs.Unit.{UnitFields}
use Rattle.hmc_units.specs.Shipped.{reverse_unit, stamp_unit}
use Rattle.hmc_serial.specs.Actions.{action_of}
use Rattle.hmc_serial.specs.Cube.{opening}
use Rattle.hmc_serial.specs.Errors.{memory_error}
use Rattle.hmc_serial.specs.Machine.{opening_state}
use Rattle.hmc_serial.specs.Perform.{perform_on}
use Rattle.hmc_packet.specs.declared.what.What.TheVariants.{Null}
use Rattle.hmc_schedule.specs.declared.step.Step.TheVariants as steps
use Rattle.hmc_send.specs.LinkCalls.{LinkCall, next_entry}
use Rattle.hmc_send.specs.LinkEntries.{LinkEntry}
use Rattle.hmc_send.specs.declared.toward.Toward.TheVariants.{Back}
use Rattle.hmc_entries.specs.declared.outcome.Cause.TheVariants as causes
use Rattle.hmc_entries.specs.declared.entry.Entry.TheVariants.{Sent, Executed, Discarded, Unlocked, Retired, Passed, Idle}
use Rattle.hmc_journal.specs.Queues.QueueId.{Output, Host, Registers, Answers}
use Rattle.hmc_journal.specs.StepView.{StepView}
use Rattle.hmc_net.specs.declared.went.Went.TheVariants as wents
use Rattle.hmc_kept.specs.After.{slots_after}
use Rattle.hmc_kept.specs.Hosts.{cause_by, no_host}
use Rattle.hmc_kept.specs.Called.{called}
use Rattle.hmc_net.specs.NetState.{no_cube, inside}
use Rattle.hmc_net.specs.Ports.{HasEntrance}
use Rattle.hmc_net.specs.Went.{went_of}

-- idle with its cause; a NULL that is sent is something, and so are a packet that is dropped, an
-- unlock and a retirement; a landing that passed is neither
went_of-each : map went_of (Idle (steps.Give 0) causes.Full ∷ Sent 0 Null zero_flit ∷ Discarded 0 ∷ Unlocked 1 ∷ Retired 3 ∷ Passed 0 zero_flit ∷ [])
    ≡ wents.Idle causes.Full ∷ wents.Done ∷ wents.Done ∷ wents.Done ∷ wents.Done ∷ wents.Passed ∷ []
went_of-each = refl

cause_by-each : map cause_by (hindrances.Ended ∷ hindrances.Fence ∷ hindrances.Tags ∷ hindrances.Full ∷ []) ≡ causes.Ended ∷ causes.Fence ∷ causes.Tags ∷ causes.Full ∷ []
cause_by-each = refl

-- an unlock in direction 3 is an entry of link 1, which goes Back, and of no other
unlock_of_three : map (called [] 3 LinkCall.unlock (λ link. [])) (0 ∷ 1 ∷ 2 ∷ []) ≡ [] ∷ (LinkEntry.unlocked Back ∷ []) ∷ [] ∷ []
unfolding next_entry
unlock_of_three = refl

-- the second of two cubes has a request for its registers; no queue of a link is one of a cube
inside-each : map (inside (no_cube ∷ record no_cube { register_queue = null_packet ∷ [] } ∷ [])) (Registers 0 ∷ Registers 1 ∷ Registers 2 ∷ Answers 1 lifts.Registers ∷ Output 1 ∷ Host 1 ∷ [])
    ≡ [] ∷ (null_packet ∷ []) ∷ [] ∷ [] ∷ [] ∷ [] ∷ []
inside-each = refl

-- One cube of 256 bytes. Slot 0 has a unit that reverses, slot 1 one that has stamped four blocks.
abbrev bench : List (Option UnitFields)
bench = Some (reverse_unit 0 0) ∷ Some (stamp_unit 0 1 4) ∷ []

abbrev seen : StepView
seen = record {
  inside = λ queue. [];
  state = opening_state (record { vault_bits = 0; bank_bits = 0; rows = 1; block = 256 } ∷ []) bench;
  host = λ host. no_host;
  entries = λ link. [];
  forwarded = λ direction. None;
  pipe = λ direction. None;
}

abbrev work : Command → RequestFields
work command = record { command = command; cube = 0; address = 16; payload = replicate 16 0 }

abbrev worked : Command → List (Option UnitFields) → List (Option UnitFields)
worked command slots = slots_after seen (Executed (units.Bank 0 0 0) 0 (Some 0) (work command) answers.Silent) slots

-- what the units keep
abbrev kept : List (Option UnitFields) → List (Option (List ℕ))
kept slots = map (option_map (λ (unit : UnitFields). unit.state)) slots

-- a unit command changes the state of its unit
units_work : map (λ (command : Command). kept (worked command bench)) (Unit0 ∷ Unit1 ∷ [])
    ≡ (Some [] ∷ Some (4 ∷ []) ∷ []) ∷ (Some [] ∷ Some (5 ∷ []) ∷ []) ∷ []
unfolding perform_on action_of memory_error opening opening_state reverse_unit stamp_unit
units_work = refl

-- a retired unit is gone, and its command changes nothing; the other unit stays
unit_retires : kept (worked Unit1 (slots_after seen (Retired 1) bench)) ≡ Some [] ∷ None ∷ []
unfolding perform_on action_of memory_error opening opening_state reverse_unit stamp_unit
unit_retires = refl

-- a retirement of a slot without a unit changes nothing, and no other entry changes a unit
others_leave_units : map (λ entry. kept (slots_after seen entry bench)) (Retired 2 ∷ Idle (steps.Retire 2) causes.Empty ∷ Unlocked 1 ∷ []) ≡ replicate 3 (Some [] ∷ Some (4 ∷ []) ∷ [])
unfolding reverse_unit stamp_unit
others_leave_units = refl

-- a cube of two vaults, whose queues hold one packet each: one vault's queue is free, and the other
-- and that of the registers are full
abbrev nearly_full : CubeFields
nearly_full = record no_cube {
  vaults = no_vault ∷ record no_vault { vault_queue = null_packet ∷ [] } ∷ [];
  register_queue = null_packet ∷ [];
  size = 1;
}

HasEntrance-free : HasEntrance nearly_full (goes.Vault 0)
HasEntrance-free = lit< tt

HasEntrance-vault : HasEntrance nearly_full (goes.Vault 1) → ⊥
HasEntrance-vault is = absurd (omega (arith, is))

HasEntrance-registers : HasEntrance nearly_full goes.Registers → ⊥
HasEntrance-registers is = absurd (omega (arith, is))

-- with room for two it is free again
HasEntrance-larger : HasEntrance (record nearly_full { size = 2 }) goes.Registers
HasEntrance-larger = lit< tt

-- Entries as C sees them, computed: each kind with its numbers, and what it has besides.
use Rattle.std.proofs.Common.{◌≡◌, true, false, ℕ, List, [], ◌∷◌, ◌++◌, Some, None, replicate, refl}
use Rattle.std.specs.Prelude.{map}
use Rattle.hmc_codes.specs.Bytes.{padded_bytes}
use Rattle.hmc_codes.specs.Codes.{all_commands}
use Rattle.hmc_codes.specs.Flit.{zero_flit}
use Rattle.hmc_codes.specs.Request.{RequestFields}
use Rattle.hmc_codes.specs.Table.{table_line}
use Rattle.hmc_codes.specs.declared.answer.Answer.TheVariants as answers
use Rattle.hmc_codes.specs.declared.command.Command.TheVariants.{Rd16}
use Rattle.hmc_codes.specs.declared.lift.Lift.TheVariants as lifts
use Rattle.hmc_codes.specs.declared.unit.Unit.TheVariants as parts
use Rattle.hmc_packet.specs.declared.bad.Bad.TheVariants as bads
use Rattle.hmc_packet.specs.declared.kind.Kind.TheVariants as kinds
use Rattle.hmc_packet.specs.declared.outcome.Outcome.TheVariants as outcomes
use Rattle.hmc_packet.specs.declared.what.What.TheVariants as whats
use Rattle.hmc_schedule.specs.declared.step.Step.TheVariants as steps
use Rattle.hmc_entries.specs.declared.entry.Entry.{Entry}
use Rattle.hmc_entries.specs.declared.entry.Entry.TheVariants as entries
use Rattle.hmc_entries.specs.declared.outcome.Cause.TheVariants as causes
use Rattle.hmc_entries.specs.declared.outcome.Goal.TheVariants as goals
use Rattle.hmc_c.specs.Entries.{blank, cause_number, outcome_number, shown_entry, what_number}

request : RequestFields
request = record { command = Rd16; cube = 5; address = 64; payload = [] }

-- the kind of an entry and its three numbers
numbers : Entry → List ℕ
numbers entry = let out = shown_entry entry in out.kind ∷ out.a ∷ out.b ∷ out.c ∷ []

kinds-outside : map numbers (entries.Gave 1 (Some 2) false request ∷ entries.Sent 3 whats.New (replicate 16 9) ∷ entries.Landed 4 (replicate 16 9) outcomes.Quiet ∷ entries.Took 6 2 (answers.Done true) ∷ entries.Discarded 7 ∷ [])
    ≡ (1 ∷ 1 ∷ 0 ∷ 0 ∷ []) ∷ (2 ∷ 3 ∷ 0 ∷ 0 ∷ []) ∷ (3 ∷ 4 ∷ 0 ∷ 0 ∷ []) ∷ (9 ∷ 6 ∷ 0 ∷ 0 ∷ []) ∷ (10 ∷ 7 ∷ 0 ∷ 0 ∷ []) ∷ []
unfolding numbers request shown_entry blank padded_bytes zero_flit all_commands table_line
kinds-outside = refl

-- a vault, the registers, and a port
kinds-shifted : map numbers (entries.Shifted 5 2 (goals.Vault 7) ∷ entries.Shifted 5 2 goals.Registers ∷ entries.Shifted 5 2 (goals.Port 3) ∷ entries.Dropped 5 2 ∷ [])
    ≡ (4 ∷ 5 ∷ 2 ∷ 7 ∷ []) ∷ (4 ∷ 5 ∷ 2 ∷ 255 ∷ []) ∷ (4 ∷ 5 ∷ 2 ∷ 3 ∷ []) ∷ (5 ∷ 5 ∷ 2 ∷ 0 ∷ []) ∷ []
unfolding numbers shown_entry blank
kinds-shifted = refl

-- the port alone has the flag
shifted-flag : map (λ (entry : Entry). (shown_entry entry).flag) (entries.Shifted 5 2 (goals.Vault 7) ∷ entries.Shifted 5 2 goals.Registers ∷ entries.Shifted 5 2 (goals.Port 3) ∷ []) ≡ false ∷ false ∷ true ∷ []
unfolding shown_entry blank
shifted-flag = refl

kinds-inside : map numbers (entries.Spread 5 6 7 ∷ entries.Executed (parts.Bank 5 6 7) 1 (Some 2) request (answers.Done false) ∷ entries.Executed (parts.Registers 5) 1 (Some 2) request (answers.Done false) ∷ entries.Lifted 5 (lifts.Vault 6) 3 ∷ entries.Lifted 5 lifts.Registers 3 ∷ [])
    ≡ (6 ∷ 5 ∷ 6 ∷ 7 ∷ []) ∷ (7 ∷ 5 ∷ 6 ∷ 7 ∷ []) ∷ (7 ∷ 5 ∷ 255 ∷ 0 ∷ []) ∷ (8 ∷ 5 ∷ 6 ∷ 3 ∷ []) ∷ (8 ∷ 5 ∷ 255 ∷ 3 ∷ []) ∷ []
unfolding numbers request shown_entry blank padded_bytes zero_flit all_commands table_line
kinds-inside = refl

kinds-others : map numbers (entries.Through 5 2 9 ∷ entries.Unlocked 9 ∷ entries.Retired 4 ∷ entries.Passed 9 (replicate 16 1) ∷ entries.Idle (steps.Bank 5 6 7) causes.Full ∷ [])
    ≡ (11 ∷ 5 ∷ 2 ∷ 9 ∷ []) ∷ (12 ∷ 9 ∷ 0 ∷ 0 ∷ []) ∷ (13 ∷ 4 ∷ 0 ∷ 0 ∷ []) ∷ (14 ∷ 9 ∷ 0 ∷ 0 ∷ []) ∷ (15 ∷ 5 ∷ 6 ∷ 7 ∷ []) ∷ []
unfolding numbers shown_entry blank
kinds-others = refl

-- a request: its command's code, its cube and address, and its tag, or none
gave-tag : (shown_entry (entries.Gave 1 (Some 2) false request)).tag ≡ 2
unfolding request shown_entry blank padded_bytes zero_flit all_commands table_line
gave-tag = refl

gave-no_tag : (shown_entry (entries.Gave 1 None true request)).tag ≡ 65535
unfolding request shown_entry blank padded_bytes zero_flit all_commands table_line
gave-no_tag = refl

gave-poisoned : (shown_entry (entries.Gave 1 None true request)).poisoned ≡ true
unfolding request shown_entry blank padded_bytes zero_flit all_commands table_line
gave-poisoned = refl

gave-command : (shown_entry (entries.Gave 1 None true request)).command ≡ 48
unfolding request shown_entry blank padded_bytes zero_flit all_commands table_line
gave-command = refl

executed-host : (shown_entry (entries.Executed (parts.Registers 5) 1 (Some 2) request (answers.Done false))).host ≡ 1
unfolding request shown_entry blank padded_bytes zero_flit all_commands table_line
executed-host = refl

-- answers: what they are, and their flag, bytes or value
answers-each : map (λ (entry : Entry). (shown_entry entry).answer) (entries.Took 0 2 answers.Silent ∷ entries.Took 0 2 (answers.Done true) ∷ entries.Took 0 2 (answers.Read true (7 ∷ 8 ∷ [])) ∷ entries.Took 0 2 (answers.Register 9) ∷ entries.Took 0 2 answers.Stored ∷ entries.Took 0 2 (answers.Refused 3) ∷ [])
    ≡ 0 ∷ 1 ∷ 2 ∷ 3 ∷ 4 ∷ 5 ∷ []
unfolding shown_entry blank padded_bytes zero_flit
answers-each = refl

answers-flag : map (λ (entry : Entry). (shown_entry entry).flag) (entries.Took 0 2 (answers.Done true) ∷ entries.Took 0 2 (answers.Read true (7 ∷ 8 ∷ [])) ∷ entries.Took 0 2 answers.Stored ∷ []) ≡ true ∷ true ∷ false ∷ []
unfolding shown_entry blank padded_bytes zero_flit
answers-flag = refl

answers-value : map (λ (entry : Entry). (shown_entry entry).value) (entries.Took 0 2 (answers.Register 9) ∷ entries.Took 0 2 (answers.Refused 3) ∷ []) ≡ 9 ∷ 3 ∷ []
unfolding shown_entry blank padded_bytes zero_flit
answers-value = refl

took-returned : (shown_entry (entries.Took 0 2 (answers.Read false (7 ∷ 8 ∷ [])))).returned ≡ (7 ∷ 8 ∷ []) ++ replicate 254 0
unfolding shown_entry blank padded_bytes zero_flit
took-returned = refl

took-length : (shown_entry (entries.Took 0 2 (answers.Read false (7 ∷ 8 ∷ [])))).returned_length ≡ 2
unfolding shown_entry blank padded_bytes zero_flit
took-length = refl

-- a step that did nothing: the number by which it is asked for, its cause, and the mask of a landing
idle-steps : map (λ (entry : Entry). (shown_entry entry).step) (entries.Idle (steps.Give 1) causes.Ended ∷ entries.Idle (steps.Land 1 (replicate 16 3)) causes.Empty ∷ entries.Idle (steps.Lift 1 lifts.Registers) causes.Empty ∷ entries.Idle (steps.Retire 1) causes.Empty ∷ [])
    ≡ 0 ∷ 2 ∷ 7 ∷ 11 ∷ []
unfolding shown_entry blank
idle-steps = refl

idle-mask : (shown_entry (entries.Idle (steps.Land 1 (replicate 16 3)) causes.Empty)).flit ≡ replicate 16 3
unfolding shown_entry blank
idle-mask = refl

idle-lift : numbers (entries.Idle (steps.Lift 1 lifts.Registers) causes.Empty) ≡ 15 ∷ 1 ∷ 255 ∷ 0 ∷ []
unfolding numbers shown_entry blank
idle-lift = refl

cause-each : map cause_number (causes.Ended ∷ causes.Fence ∷ causes.Tags ∷ causes.Empty ∷ causes.Full ∷ causes.Starved ∷ causes.NoPacket ∷ causes.Busy ∷ []) ≡ 1 ∷ 2 ∷ 3 ∷ 4 ∷ 5 ∷ 6 ∷ 7 ∷ 8 ∷ []
cause-each = refl

what-each : map what_number (whats.Train ∷ whats.Clear ∷ whats.Start ∷ whats.Null ∷ whats.Pret ∷ whats.Tret ∷ whats.New ∷ whats.Again ∷ []) ≡ 1 ∷ 2 ∷ 3 ∷ 4 ∷ 5 ∷ 6 ∷ 7 ∷ 8 ∷ []
what-each = refl

outcome-each : map outcome_number (outcomes.Quiet ∷ outcomes.Trained ∷ outcomes.Gathered ∷ outcomes.Accepted ∷ outcomes.Poisoned ∷ outcomes.Repeat ∷ outcomes.AbortedBad bads.Length ∷ outcomes.AbortedBad bads.Command ∷ outcomes.AbortedBad bads.Reserved ∷ outcomes.AbortedBad bads.Crc ∷ outcomes.AbortedOrder ∷ outcomes.Ran kinds.Start ∷ outcomes.Ran kinds.Clear ∷ [])
    ≡ 1 ∷ 2 ∷ 3 ∷ 4 ∷ 5 ∷ 6 ∷ 7 ∷ 8 ∷ 9 ∷ 10 ∷ 11 ∷ 12 ∷ 13 ∷ []
outcome-each = refl

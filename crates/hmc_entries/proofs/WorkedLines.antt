-- What entries are counted as, steps that did nothing, and lines; the length of the longest is
-- counted by hand.
use Rattle.std.proofs.Common.{◌≡◌, [], ◌∷◌, Some, None, true, refl, length}
use Rattle.std.specs.Prelude.{map, replicate, codes}
use Rattle.std.specs.Fmt.{digits}
use Rattle.hex.specs.Hex.{encode_with}
use Rattle.hmc_codes.specs.Flit.{zero_flit}
use Rattle.hmc_codes.specs.Request.{RequestFields}
use Rattle.hmc_codes.specs.Table.{table_line}
use Rattle.hmc_codes.specs.Text.{request_text, answer_text}
use Rattle.hmc_codes.specs.declared.answer.Answer.TheVariants.{Silent, Read}
use Rattle.hmc_codes.specs.declared.command.Command.TheVariants.{Rd16, Pwr256}
use Rattle.hmc_codes.specs.declared.lift.Lift.TheVariants as lifts
use Rattle.hmc_codes.specs.declared.unit.Unit.TheVariants as units
use Rattle.hmc_packet.specs.declared.bad.Bad.TheVariants as bads
use Rattle.hmc_packet.specs.declared.kind.Kind.TheVariants as kinds
use Rattle.hmc_packet.specs.declared.outcome.Outcome.TheVariants.{Quiet, Trained, Gathered, Accepted, Poisoned, Repeat, AbortedBad, AbortedOrder, Ran}
use Rattle.hmc_packet.specs.declared.what.What.TheVariants.{Null, Again}
use Rattle.hmc_schedule.specs.declared.step.Step.TheVariants as steps
use Rattle.hmc_entries.specs.declared.event.Event.TheVariants as events
use Rattle.hmc_entries.specs.declared.idle_step.IdleStep.TheVariants as idles
use Rattle.hmc_entries.specs.declared.outcome.Cause.TheVariants.{Ended, Fence, Tags, Empty, Full, Starved, NoPacket, Busy}
use Rattle.hmc_entries.specs.declared.outcome.Goal.TheVariants as goals
use Rattle.hmc_entries.specs.declared.entry.Entry.TheVariants.{Gave, Sent, Landed, Shifted, Dropped, Spread, Executed, Lifted, Took, Discarded, Through, Unlocked, Retired, Passed, Idle}
use Rattle.hmc_entries.specs.Event.{event_of, cause_of}
use Rattle.hmc_entries.specs.IdleStep.{idle_step, idle_words}
use Rattle.hmc_entries.specs.Lines.{line_of, outcome_text}

abbrev read : RequestFields
read = record { command = Rd16; cube = 1; address = 0x40; payload = [] }

-- the kinds that are counted
event_of-counted : map event_of (Gave 1 (Some 5) true read ∷ Sent 2 Null zero_flit ∷ Landed 3 zero_flit Quiet ∷ Unlocked 1 ∷ Took 2 9 Silent ∷ Executed (units.Bank 3 4 5) 1 None read Silent ∷ Executed (units.Registers 6) 1 None read Silent ∷ Dropped 7 0 ∷ []) ≡
    events.Gave 1 ∷ events.Sent 2 ∷ events.Landed 3 Quiet ∷ events.Unlocked 1 ∷ events.Took 2 ∷ events.Executed (units.Bank 3 4 5) ∷ events.Executed (units.Registers 6) ∷ events.Dropped 7 ∷ []
event_of-counted = refl

-- a dropped answer of a host isn't counted, nor a landing that passed, nor a step that did nothing
event_of-others : map event_of (Shifted 7 0 goals.Registers ∷ Spread 7 0 0 ∷ Lifted 7 lifts.Registers 0 ∷ Discarded 1 ∷ Through 7 0 1 ∷ Retired 7 ∷ Passed 1 zero_flit ∷ Idle (steps.Give 1) Empty ∷ []) ≡
    events.Other ∷ events.Other ∷ events.Other ∷ events.Other ∷ events.Other ∷ events.Other ∷ events.Other ∷ events.Other ∷ []
event_of-others = refl

cause_of-idle : map cause_of (Idle (steps.Give 1) Empty ∷ Discarded 1 ∷ []) ≡ Some Empty ∷ None ∷ []
cause_of-idle = refl

-- the longest line: 8 letters, six numbers of 3 and 5 digits, the longest word of a request with
-- 256 bytes, and 256 bytes of an answer
line_of-longest : length (line_of (Executed (units.Bank 255 255 255) 255 (Some 65535)
    (record { command = Pwr256; cube = 7; address = 0x3ffffffff; payload = replicate 256 0xff })
    (Read true (replicate 256 0xff)))) ≡ 1085
unfolding line_of request_text answer_text encode_with digits table_line
line_of-longest = refl

-- the words of each outcome
outcome_text-words : map outcome_text (Quiet ∷ Trained ∷ Gathered ∷ Accepted ∷ Poisoned ∷ Repeat ∷ AbortedBad bads.Length ∷ AbortedBad bads.Command ∷ AbortedBad bads.Reserved ∷ AbortedBad bads.Crc ∷ AbortedOrder ∷ Ran kinds.Start ∷ Ran kinds.Clear ∷ []) ≡
    codes "quiet" ∷ codes "trained" ∷ codes "gathered" ∷ codes "accepted" ∷ codes "poisoned" ∷ codes "repeat" ∷ codes "aborted length" ∷ codes "aborted command" ∷ codes "aborted reserved" ∷ codes "aborted crc" ∷ codes "aborted order" ∷ codes "ran start" ∷ codes "ran clear" ∷ []
outcome_text-words = refl

-- lines of a link
line_of-link : map line_of (Sent 10 Again zero_flit ∷ Landed 11 zero_flit (AbortedBad bads.Reserved) ∷ Unlocked 12 ∷ Passed 13 zero_flit ∷ Idle (steps.Land 14 zero_flit) Empty ∷ Idle (steps.Send 15) Full ∷ Idle (steps.Send 16) Starved ∷ []) ≡
    codes "sent 10 again 00000000000000000000000000000000\n" ∷ codes "landed 11 00000000000000000000000000000000 aborted reserved\n" ∷ codes "unlocked 12\n" ∷ codes "passed 13 00000000000000000000000000000000\n" ∷ codes "idle land 14 empty\n" ∷ codes "idle send 15 full\n" ∷ codes "idle send 16 starved\n" ∷ []
unfolding line_of encode_with digits zero_flit
line_of-link = refl

-- a give that is idle, for each of its causes
line_of-gives : map line_of (Idle (steps.Give 0) Ended ∷ Idle (steps.Give 1) Fence ∷ Idle (steps.Give 2) Tags ∷ Idle (steps.Give 3) Full ∷ []) ≡
    codes "idle give 0 ended\n" ∷ codes "idle give 1 fence\n" ∷ codes "idle give 2 tags\n" ∷ codes "idle give 3 full\n" ∷ []
unfolding line_of digits
line_of-gives = refl

-- lines of packets that are forwarded, and of logic units
line_of-through : map line_of (Through 1 2 3 ∷ Idle (steps.Through 0 1) NoPacket ∷ Idle (steps.Through 0 1) Full ∷ Idle (steps.Through 0 1) Busy ∷ Retired 3 ∷ Idle (steps.Retire 3) Empty ∷ []) ≡
    codes "through 1 2 3\n" ∷ codes "idle through 0 1 nopacket\n" ∷ codes "idle through 0 1 full\n" ∷ codes "idle through 0 1 busy\n" ∷ codes "retired 3\n" ∷ codes "idle retire 3 empty\n" ∷ []
unfolding line_of encode_with digits zero_flit
line_of-through = refl

-- steps that did nothing; a landing has the mask that changes nothing
idle_step-hosts : map idle_step (idles.Give 1 ∷ idles.Take 2 ∷ idles.Send 3 ∷ idles.Land 4 ∷ idles.Unlock 5 ∷ idles.Retire 6 ∷ []) ≡
    steps.Give 1 ∷ steps.Take 2 ∷ steps.Send 3 ∷ steps.Land 4 (replicate 16 0) ∷ steps.Unlock 5 ∷ steps.Retire 6 ∷ []
unfolding zero_flit
idle_step-hosts = refl

idle_step-cubes : map idle_step (idles.Shift 1 2 ∷ idles.Through 1 2 ∷ idles.Spread 1 2 ∷ idles.Bank 1 2 3 ∷ idles.Registers 4 ∷ idles.Lift 5 (lifts.Vault 6) ∷ idles.Lift 5 lifts.Registers ∷ []) ≡
    steps.Shift 1 2 ∷ steps.Through 1 2 ∷ steps.Spread 1 2 ∷ steps.Bank 1 2 3 ∷ steps.Registers 4 ∷ steps.Lift 5 (lifts.Vault 6) ∷ steps.Lift 5 lifts.Registers ∷ []
idle_step-cubes = refl

-- their words; that of a landing shows no mask
idle_words-hosts : map idle_words (idles.Give 1 ∷ idles.Take 20 ∷ idles.Send 3 ∷ idles.Land 40 ∷ idles.Unlock 5 ∷ idles.Retire 6 ∷ []) ≡
    (codes "give" ∷ codes "1" ∷ []) ∷ (codes "take" ∷ codes "20" ∷ []) ∷ (codes "send" ∷ codes "3" ∷ []) ∷ (codes "land" ∷ codes "40" ∷ []) ∷ (codes "unlock" ∷ codes "5" ∷ []) ∷ (codes "retire" ∷ codes "6" ∷ []) ∷ []
unfolding digits
idle_words-hosts = refl

idle_words-cubes : map idle_words (idles.Shift 1 20 ∷ idles.Through 1 2 ∷ idles.Spread 1 2 ∷ idles.Bank 1 20 3 ∷ idles.Registers 4 ∷ idles.Lift 5 (lifts.Vault 60) ∷ idles.Lift 5 lifts.Registers ∷ []) ≡
    (codes "shift" ∷ codes "1" ∷ codes "20" ∷ []) ∷ (codes "through" ∷ codes "1" ∷ codes "2" ∷ []) ∷ (codes "spread" ∷ codes "1" ∷ codes "2" ∷ []) ∷ (codes "bank" ∷ codes "1" ∷ codes "20" ∷ codes "3" ∷ []) ∷ (codes "registers" ∷ codes "4" ∷ []) ∷ (codes "lift" ∷ codes "5" ∷ codes "60" ∷ []) ∷ (codes "lift" ∷ codes "5" ∷ codes "r" ∷ []) ∷ []
unfolding digits
idle_words-cubes = refl

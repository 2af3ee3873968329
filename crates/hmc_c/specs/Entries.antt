-- An entry as C sees it.
use Rattle.std.specs.Prelude.{ℕ, true, false, length, replicate, Option, Some, None}
use Rattle.hmc_codes.specs.Bytes.{padded_bytes}
use Rattle.hmc_codes.specs.Commands.{code_of}
use Rattle.hmc_codes.specs.Flit.{zero_flit}
use Rattle.hmc_codes.specs.Request.{RequestFields}
use Rattle.hmc_codes.specs.declared.answer.Answer.{Answer}
use Rattle.hmc_codes.specs.declared.answer.Answer.TheVariants as answers
use Rattle.hmc_codes.specs.declared.lift.Lift.{Lift}
use Rattle.hmc_codes.specs.declared.lift.Lift.TheVariants as lifts
use Rattle.hmc_codes.specs.declared.unit.Unit.{Unit as Part}
use Rattle.hmc_codes.specs.declared.unit.Unit.TheVariants as parts
use Rattle.hmc_packet.specs.declared.bad.Bad.TheVariants as bads
use Rattle.hmc_packet.specs.declared.kind.Kind.TheVariants as kinds
use Rattle.hmc_packet.specs.declared.outcome.Outcome.{Outcome}
use Rattle.hmc_packet.specs.declared.outcome.Outcome.TheVariants as outcomes
use Rattle.hmc_packet.specs.declared.what.What.{What}
use Rattle.hmc_packet.specs.declared.what.What.TheVariants as whats
use Rattle.hmc_schedule.specs.declared.step.Step.{Step}
use Rattle.hmc_schedule.specs.declared.step.Step.TheVariants as steps
use Rattle.hmc_entries.specs.declared.entry.Entry.{Entry}
use Rattle.hmc_entries.specs.declared.entry.Entry.TheVariants as entries
use Rattle.hmc_entries.specs.declared.outcome.Cause.{Cause}
use Rattle.hmc_entries.specs.declared.outcome.Cause.TheVariants as causes
use Rattle.hmc_entries.specs.declared.outcome.Goal.{Goal}
use Rattle.hmc_entries.specs.declared.outcome.Goal.TheVariants as goals
use Rattle.hmc_c.specs.declared.entry.EntryOut.{EntryOut}

-- the number of what a flit was sent as
abbrev pub what_number : What → ℕ
what_number whats.Train = 1
what_number whats.Clear = 2
what_number whats.Start = 3
what_number whats.Null = 4
what_number whats.Pret = 5
what_number whats.Tret = 6
what_number whats.New = 7
what_number whats.Again = 8

-- the number of what a landing was
abbrev pub outcome_number : Outcome → ℕ
outcome_number outcomes.Quiet = 1
outcome_number outcomes.Trained = 2
outcome_number outcomes.Gathered = 3
outcome_number outcomes.Accepted = 4
outcome_number outcomes.Poisoned = 5
outcome_number outcomes.Repeat = 6
outcome_number (outcomes.AbortedBad bads.Length) = 7
outcome_number (outcomes.AbortedBad bads.Command) = 8
outcome_number (outcomes.AbortedBad bads.Reserved) = 9
outcome_number (outcomes.AbortedBad bads.Crc) = 10
outcome_number outcomes.AbortedOrder = 11
outcome_number (outcomes.Ran kinds.Start) = 12
outcome_number (outcomes.Ran kinds.Clear) = 13

-- the number of why a step did nothing
abbrev pub cause_number : Cause → ℕ
cause_number causes.Ended = 1
cause_number causes.Fence = 2
cause_number causes.Tags = 3
cause_number causes.Empty = 4
cause_number causes.Full = 5
cause_number causes.Starved = 6
cause_number causes.NoPacket = 7
cause_number causes.Busy = 8

-- a vault; 255 are the registers
abbrev pub lift_number : Lift → ℕ
lift_number (lifts.Vault vault) = vault
lift_number lifts.Registers = 255

-- an entry of a kind with these numbers, and nothing else
unfoldable pub blank : (kind a b c : ℕ) → EntryOut
blank kind a b c = record {
  address = 0;
  value = 0;
  length = 0;
  returned_length = 0;
  tag = 65535;
  kind = kind;
  a = a;
  b = b;
  c = c;
  host = 0;
  command = 0;
  cube = 0;
  answer = 0;
  cause = 0;
  step = 0;
  what = 0;
  outcome = 0;
  flag = false;
  poisoned = false;
  flit = zero_flit;
  payload = replicate 256 0;
  returned = replicate 256 0;
}

-- the same with a tag, if there is one
abbrev pub with_tag : Option ℕ → EntryOut → EntryOut
with_tag None out = out
with_tag (Some tag) out = record out { tag = tag }

-- with a request
abbrev pub with_request : RequestFields → EntryOut → EntryOut
with_request request out = record out {
  address = request.address;
  length = length request.payload;
  command = code_of request.command;
  cube = request.cube;
  payload = padded_bytes 256 request.payload;
}

-- with an answer: 0 none, 1 done, 2 bytes, 3 the value of a register, 4 stored, 5 an error
abbrev pub with_answer : Answer → EntryOut → EntryOut
with_answer answers.Silent out = out
with_answer (answers.Done flag) out = record out { answer = 1; flag = flag }
with_answer (answers.Read flag payload) out = record out {
  answer = 2;
  flag = flag;
  returned_length = length payload;
  returned = padded_bytes 256 payload;
}
with_answer (answers.Register value) out = record out { answer = 3; value = value }
with_answer answers.Stored out = record out { answer = 4 }
with_answer (answers.Refused errstat) out = record out { answer = 5; value = errstat }

-- where a packet went: a vault, 255 the registers, or with the flag a port
abbrev pub goal_into : (cube port : ℕ) → Goal → EntryOut
goal_into cube port (goals.Vault vault) = blank 4 cube port vault
goal_into cube port goals.Registers = blank 4 cube port 255
goal_into cube port (goals.Port out) = record (blank 4 cube port out) { flag = true }

-- what executed: a bank, or the registers of a cube, which have 255 in place of a vault
abbrev pub unit_into : Part → EntryOut
unit_into (parts.Bank cube vault bank) = blank 7 cube vault bank
unit_into (parts.Registers cube) = blank 7 cube 255 0

-- an idle step: its kind, the numbers of its words, and the mask of a landing
abbrev pub step_into : Step → EntryOut
step_into (steps.Give host) = blank 15 host 0 0
step_into (steps.Send direction) = record (blank 15 direction 0 0) { step = 1 }
step_into (steps.Land direction mask) =
    record (blank 15 direction 0 0) { step = 2; flit = mask }
step_into (steps.Shift cube port) = record (blank 15 cube port 0) { step = 3 }
step_into (steps.Spread cube vault) = record (blank 15 cube vault 0) { step = 4 }
step_into (steps.Bank cube vault bank) = record (blank 15 cube vault bank) { step = 5 }
step_into (steps.Registers cube) = record (blank 15 cube 0 0) { step = 6 }
step_into (steps.Lift cube from) = record (blank 15 cube (lift_number from) 0) { step = 7 }
step_into (steps.Take host) = record (blank 15 host 0 0) { step = 8 }
step_into (steps.Through cube port) = record (blank 15 cube port 0) { step = 9 }
step_into (steps.Unlock direction) = record (blank 15 direction 0 0) { step = 10 }
step_into (steps.Retire slot) = record (blank 15 slot 0 0) { step = 11 }

-- an entry as C sees it
unfoldable pub shown_entry : Entry → EntryOut
shown_entry (entries.Gave host tag poisoned request) =
    with_request request (with_tag tag (record (blank 1 host 0 0) { poisoned = poisoned }))
shown_entry (entries.Sent direction what flit) =
    record (blank 2 direction 0 0) { what = what_number what; flit = flit }
shown_entry (entries.Landed direction flit outcome) =
    record (blank 3 direction 0 0) { outcome = outcome_number outcome; flit = flit }
shown_entry (entries.Shifted cube port goal) = goal_into cube port goal
shown_entry (entries.Dropped cube port) = blank 5 cube port 0
shown_entry (entries.Spread cube vault bank) = blank 6 cube vault bank
shown_entry (entries.Executed unit host tag request answer) =
    with_answer answer
    (with_request request (with_tag tag (record (unit_into unit) { host = host })))
shown_entry (entries.Lifted cube from port) = blank 8 cube (lift_number from) port
shown_entry (entries.Took host tag answer) =
    with_answer answer (record (blank 9 host 0 0) { tag = tag })
shown_entry (entries.Discarded host) = blank 10 host 0 0
shown_entry (entries.Through cube port direction) = blank 11 cube port direction
shown_entry (entries.Unlocked direction) = blank 12 direction 0 0
shown_entry (entries.Retired slot) = blank 13 slot 0 0
shown_entry (entries.Passed direction flit) = record (blank 14 direction 0 0) { flit = flit }
shown_entry (entries.Idle step cause) = record (step_into step) { cause = cause_number cause }

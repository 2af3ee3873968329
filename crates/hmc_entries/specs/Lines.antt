-- The line of each entry.
use Rattle.std.specs.Prelude.{ℕ, Bool, true, false, List, [], ◌∷◌, ◌++◌, codes, Option, Some, None}
use Rattle.std.specs.Fmt.{decimal}
use Rattle.hex.specs.Hex.{encode_lower}
use Rattle.hmc_codes.specs.Request.{RequestFields}
use Rattle.hmc_codes.specs.Text.{spaced_words, line, request_text, answer_text}
use Rattle.hmc_codes.specs.declared.lift.Lift.{Lift}
use Rattle.hmc_codes.specs.declared.lift.Lift.TheVariants as lifts
use Rattle.hmc_codes.specs.declared.unit.Unit.{Unit}
use Rattle.hmc_codes.specs.declared.unit.Unit.TheVariants.{Bank, Registers}
use Rattle.hmc_packet.specs.declared.bad.Bad.{Bad}
use Rattle.hmc_packet.specs.declared.bad.Bad.TheVariants as bads
use Rattle.hmc_packet.specs.declared.kind.Kind.TheVariants as kinds
use Rattle.hmc_packet.specs.declared.what.What.{What}
use Rattle.hmc_packet.specs.declared.what.What.TheVariants.{Train, Clear, Start, Null, Pret, Tret, New, Again}
use Rattle.hmc_packet.specs.declared.outcome.Outcome.{Outcome}
use Rattle.hmc_packet.specs.declared.outcome.Outcome.TheVariants.{Quiet, Trained, Gathered, Accepted, Poisoned, Repeat, AbortedBad, AbortedOrder, Ran}
use Rattle.hmc_entries.specs.declared.outcome.Goal.{Goal}
use Rattle.hmc_entries.specs.declared.outcome.Goal.TheVariants as goals
use Rattle.hmc_entries.specs.declared.outcome.Cause.{Cause}
use Rattle.hmc_entries.specs.declared.outcome.Cause.TheVariants as causes
use Rattle.hmc_entries.specs.declared.entry.Entry.{Entry}
use Rattle.hmc_entries.specs.declared.entry.Entry.TheVariants.{Gave, Sent, Landed, Shifted, Dropped, Spread, Executed, Lifted, Took, Discarded, Through, Unlocked, Retired, Passed, Idle}
use Rattle.hmc_schedule.specs.declared.step.Step.{Step}
use Rattle.hmc_schedule.specs.declared.step.Step.TheVariants as steps

-- a tag, or a dash where the request takes none
abbrev pub tag_text : Option ℕ → List ℕ
tag_text None = codes "-"
tag_text (Some tag) = decimal tag

-- a bank by cube, vault and bank; the registers of a cube
abbrev pub unit_text : Unit → List ℕ
unit_text (Bank cube vault bank) = spaced_words (decimal cube ∷ decimal vault ∷ decimal bank ∷ [])
unit_text (Registers cube) = spaced_words (decimal cube ∷ codes "r" ∷ [])

-- a request; a poisoned one has a word before it
abbrev pub request_words : Bool → RequestFields → List (List ℕ)
request_words true request = codes "poison" ∷ request_text request ∷ []
request_words false request = request_text request ∷ []

-- what a flit is sent as
abbrev pub what_text : What → List ℕ
what_text Train = codes "train"
what_text Clear = codes "clear"
what_text Start = codes "start"
what_text Null = codes "null"
what_text Pret = codes "pret"
what_text Tret = codes "tret"
what_text New = codes "new"
what_text Again = codes "again"

-- why flits are no packet
abbrev pub bad_text : Bad → List ℕ
bad_text bads.Length = codes "aborted length"
bad_text bads.Command = codes "aborted command"
bad_text bads.Reserved = codes "aborted reserved"
bad_text bads.Crc = codes "aborted crc"

-- the outcome of a landing
abbrev pub outcome_text : Outcome → List ℕ
outcome_text Quiet = codes "quiet"
outcome_text Trained = codes "trained"
outcome_text Gathered = codes "gathered"
outcome_text Accepted = codes "accepted"
outcome_text Poisoned = codes "poisoned"
outcome_text Repeat = codes "repeat"
outcome_text (AbortedBad bad) = bad_text bad
outcome_text AbortedOrder = codes "aborted order"
outcome_text (Ran kinds.Start) = codes "ran start"
outcome_text (Ran kinds.Clear) = codes "ran clear"

-- a vault, the registers or a port as one word
abbrev pub goal_text : Goal → List ℕ
goal_text (goals.Vault vault) = codes "v" ++ decimal vault
goal_text goals.Registers = codes "r"
goal_text (goals.Port port) = codes "p" ++ decimal port

-- a vault by its number, or the registers
abbrev pub lift_text : Lift → List ℕ
lift_text (lifts.Vault vault) = decimal vault
lift_text lifts.Registers = codes "r"

-- why a step did nothing
abbrev pub cause_text : Cause → List ℕ
cause_text causes.Ended = codes "ended"
cause_text causes.Fence = codes "fence"
cause_text causes.Tags = codes "tags"
cause_text causes.Empty = codes "empty"
cause_text causes.Full = codes "full"
cause_text causes.Starved = codes "starved"
cause_text causes.NoPacket = codes "nopacket"
cause_text causes.Busy = codes "busy"

-- the words of a step, without a mask
abbrev pub step_words : Step → List (List ℕ)
step_words (steps.Give host) = codes "give" ∷ decimal host ∷ []
step_words (steps.Send direction) = codes "send" ∷ decimal direction ∷ []
step_words (steps.Land direction mask) = codes "land" ∷ decimal direction ∷ []
step_words (steps.Shift cube port) = codes "shift" ∷ decimal cube ∷ decimal port ∷ []
step_words (steps.Spread cube vault) = codes "spread" ∷ decimal cube ∷ decimal vault ∷ []
step_words (steps.Bank cube vault bank) =
    codes "bank" ∷ decimal cube ∷ decimal vault ∷ decimal bank ∷ []
step_words (steps.Registers cube) = codes "registers" ∷ decimal cube ∷ []
step_words (steps.Lift cube from) = codes "lift" ∷ decimal cube ∷ lift_text from ∷ []
step_words (steps.Take host) = codes "take" ∷ decimal host ∷ []
step_words (steps.Through cube port) = codes "through" ∷ decimal cube ∷ decimal port ∷ []
step_words (steps.Unlock direction) = codes "unlock" ∷ decimal direction ∷ []
step_words (steps.Retire slot) = codes "retire" ∷ decimal slot ∷ []

-- words with one space between, and a line feed
unfoldable pub line_of : Entry → List ℕ
line_of (Gave host tag poisoned request) =
    line (codes "gave" ∷ decimal host ∷ tag_text tag ∷ request_words poisoned request)
line_of (Sent direction what flit) =
    line (codes "sent" ∷ decimal direction ∷ what_text what ∷ encode_lower flit ∷ [])
line_of (Landed direction flit outcome) =
    line (codes "landed" ∷ decimal direction ∷ encode_lower flit ∷ outcome_text outcome ∷ [])
line_of (Shifted cube port goal) =
    line (codes "shifted" ∷ decimal cube ∷ decimal port ∷ goal_text goal ∷ [])
line_of (Dropped cube port) = line (codes "dropped" ∷ decimal cube ∷ decimal port ∷ [])
line_of (Spread cube vault bank) =
    line (codes "spread" ∷ decimal cube ∷ decimal vault ∷ decimal bank ∷ [])
line_of (Executed unit host tag request answer) =
    line (codes "executed" ∷ unit_text unit ∷ decimal host ∷ tag_text tag ∷ request_text request ∷
    answer_text answer ∷ [])
line_of (Lifted cube from port) =
    line (codes "lifted" ∷ decimal cube ∷ lift_text from ∷ (codes "p" ++ decimal port) ∷ [])
line_of (Took host tag answer) =
    line (codes "took" ∷ decimal host ∷ decimal tag ∷ answer_text answer ∷ [])
line_of (Discarded host) = line (codes "discarded" ∷ decimal host ∷ [])
line_of (Through cube port direction) =
    line (codes "through" ∷ decimal cube ∷ decimal port ∷ decimal direction ∷ [])
line_of (Unlocked direction) = line (codes "unlocked" ∷ decimal direction ∷ [])
line_of (Retired slot) = line (codes "retired" ∷ decimal slot ∷ [])
line_of (Passed direction flit) =
    line (codes "passed" ∷ decimal direction ∷ encode_lower flit ∷ [])
line_of (Idle step cause) =
    line (codes "idle" ∷ spaced_words (step_words step) ∷ cause_text cause ∷ [])

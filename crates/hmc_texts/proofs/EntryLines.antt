-- The words of an entry have no line feed, so its text is a line.
use Rattle.std.proofs.Common.{◌≡◌, ◌∙◌, ℕ, Bool, true, false, Option, Some, None, List, [], ◌∷◌, ◌++◌, codes, option_to_list, refl, ap}
use Rattle.std.specs.Fmt.{decimal}
use Rattle.std.specs.Int.{w32, to_be_bytes}
use Rattle.hmc_codes.specs.Commands.{word_of}
use Rattle.hmc_codes.specs.Request.{RequestFields}
use Rattle.hmc_codes.specs.Table.{table_line}
use Rattle.hmc_codes.specs.Text.{is_mdwr, value_in, operand_of, flag_text}
use Rattle.hmc_codes.specs.declared.answer.Answer.{Answer}
use Rattle.hmc_codes.specs.declared.answer.Answer.TheVariants.{Silent, Done, Read, Register, Stored, Refused}
use Rattle.hmc_codes.specs.declared.command.Command.{Command}
use Rattle.hmc_codes.specs.declared.command.Command.TheVariants.{Null}
use Rattle.hmc_codes.specs.declared.lift.Lift.{Lift}
use Rattle.hmc_codes.specs.declared.lift.Lift.TheVariants as lifts
use Rattle.hmc_codes.specs.declared.unit.Unit.{Unit as Executor}
use Rattle.hmc_codes.specs.declared.unit.Unit.TheVariants as units
use Rattle.hmc_packet.specs.declared.bad.Bad.TheVariants as bads
use Rattle.hmc_packet.specs.declared.kind.Kind.TheVariants as kinds
use Rattle.hmc_packet.specs.declared.outcome.Outcome.{Outcome}
use Rattle.hmc_packet.specs.declared.outcome.Outcome.TheVariants as outcomes
use Rattle.hmc_packet.specs.declared.what.What.{What}
use Rattle.hmc_packet.specs.declared.what.What.TheVariants.{Train}
use Rattle.hmc_schedule.specs.declared.step.Step.{Step}
use Rattle.hmc_schedule.specs.declared.step.Step.TheVariants as steps
use Rattle.hmc_script.proofs.MeaningText as meaning
use Rattle.hmc_entries.specs.declared.outcome.Goal.{Goal}
use Rattle.hmc_entries.specs.declared.outcome.Goal.TheVariants as goals
use Rattle.hmc_entries.specs.declared.outcome.Cause.{Cause}
use Rattle.hmc_entries.specs.declared.outcome.Cause.TheVariants as causes
use Rattle.hmc_entries.specs.declared.entry.Entry.{Entry}
use Rattle.hmc_entries.specs.declared.entry.Entry.TheVariants.{Gave, Sent, Landed, Shifted, Dropped, Spread, Executed, Lifted, Took, Discarded, Through, Unlocked, Retired, Passed, Idle}
use Rattle.hmc_entries.specs.Lines.{tag_text, what_text, goal_text, lift_text, cause_text, step_words, line_of}
use Rattle.hmc_entries.proofs.ParseLines.{answer_words, unit_words, outcome_words, poison_words, entry_words, line_of-words}
use Rattle.hmc_texts.specs.Texts.{is_line}
use Rattle.hmc_texts.proofs.Lines.{is_inner, AreInner, inner-append, line_is, decimal_inner, hex_inner, bytes_inner}

word_inner : (command : Command) → is_inner (word_of command) ≡ true
unfolding table_line
word_inner Null = refl
word_inner _ = refl

operand_inner : (mdwr : Bool) (payload : List ℕ) → AreInner (option_to_list (operand_of mdwr payload))
operand_inner true payload = (decimal_inner (value_in payload), tt)
operand_inner false [] = tt
operand_inner false (b ∷ bs) = (bytes_inner (b ∷ bs), tt)

request_inner : (request : RequestFields) → AreInner (meaning.request_words request)
request_inner request =
    (word_inner request.command, (decimal_inner request.cube, (hex_inner request.address, operand_inner (is_mdwr request.command) request.payload)))

poison_inner : (poisoned : Bool) (request : RequestFields) → AreInner (poison_words poisoned request)
poison_inner true request = (refl, request_inner request)
poison_inner false request = request_inner request

tag_inner : (tag : Option ℕ) → is_inner (tag_text tag) ≡ true
tag_inner None = refl
tag_inner (Some tag) = decimal_inner tag

what_inner : (what : What) → is_inner (what_text what) ≡ true
what_inner Train = refl
what_inner _ = refl

cause_inner : (cause : Cause) → is_inner (cause_text cause) ≡ true
cause_inner causes.Ended = refl
cause_inner _ = refl

goal_inner : (goal : Goal) → is_inner (goal_text goal) ≡ true
goal_inner (goals.Vault vault) = decimal_inner vault
goal_inner goals.Registers = refl
goal_inner (goals.Port port) = decimal_inner port

lift_inner : (from : Lift) → is_inner (lift_text from) ≡ true
lift_inner (lifts.Vault vault) = decimal_inner vault
lift_inner lifts.Registers = refl

unit_inner : (u : Executor) → AreInner (unit_words u)
unit_inner (units.Bank cube vault bank) =
    (decimal_inner cube, (decimal_inner vault, (decimal_inner bank, tt)))
unit_inner (units.Registers cube) = (decimal_inner cube, (refl, tt))

outcome_inner : (outcome : Outcome) → AreInner (outcome_words outcome)
outcome_inner (outcomes.AbortedBad bads.Length) = (refl, (refl, tt))
outcome_inner (outcomes.AbortedBad bads.Command) = (refl, (refl, tt))
outcome_inner (outcomes.AbortedBad bads.Reserved) = (refl, (refl, tt))
outcome_inner (outcomes.AbortedBad bads.Crc) = (refl, (refl, tt))
outcome_inner outcomes.AbortedOrder = (refl, (refl, tt))
outcome_inner (outcomes.Ran kinds.Start) = (refl, (refl, tt))
outcome_inner (outcomes.Ran kinds.Clear) = (refl, (refl, tt))
outcome_inner _ = (refl, tt)

flag_inner : (flag : Bool) → is_inner (flag_text flag) ≡ true
flag_inner true = refl
flag_inner false = refl

answer_inner : (answer : Answer) → AreInner (answer_words answer)
answer_inner Silent = (refl, tt)
answer_inner (Done flag) = (refl, (flag_inner flag, tt))
answer_inner (Read flag payload) = (refl, (flag_inner flag, (bytes_inner payload, tt)))
answer_inner (Register value) = (refl, (bytes_inner (to_be_bytes w32 value), tt))
answer_inner Stored = (refl, tt)
answer_inner (Refused errstat) = (refl, (decimal_inner errstat, tt))

one_number : (word : List ℕ) (n : ℕ) → is_inner word ≡ true → AreInner (word ∷ decimal n ∷ [])
one_number word n inner = (inner, (decimal_inner n, tt))

two_numbers : (word : List ℕ) (n m : ℕ) → is_inner word ≡ true →
    AreInner (word ∷ decimal n ∷ decimal m ∷ [])
two_numbers word n m inner = (inner, (decimal_inner n, (decimal_inner m, tt)))

step_inner : (step : Step) → AreInner (step_words step)
step_inner (steps.Give host) = one_number (codes "give") host refl
step_inner (steps.Send direction) = one_number (codes "send") direction refl
step_inner (steps.Land direction mask) = one_number (codes "land") direction refl
step_inner (steps.Shift cube port) = two_numbers (codes "shift") cube port refl
step_inner (steps.Spread cube vault) = two_numbers (codes "spread") cube vault refl
step_inner (steps.Bank cube vault bank) =
    (refl, (decimal_inner cube, (decimal_inner vault, (decimal_inner bank, tt))))
step_inner (steps.Registers cube) = one_number (codes "registers") cube refl
step_inner (steps.Lift cube from) = (refl, (decimal_inner cube, (lift_inner from, tt)))
step_inner (steps.Take host) = one_number (codes "take") host refl
step_inner (steps.Through cube port) = two_numbers (codes "through") cube port refl
step_inner (steps.Unlock direction) = one_number (codes "unlock") direction refl
step_inner (steps.Retire slot) = one_number (codes "retire") slot refl

entry_inner : (entry : Entry) → AreInner (entry_words entry)
entry_inner (Gave host tag poisoned request) =
    (refl, (decimal_inner host, (tag_inner tag, poison_inner poisoned request)))
entry_inner (Sent direction what flit) =
    (refl, (decimal_inner direction, (what_inner what, (bytes_inner flit, tt))))
entry_inner (Landed direction flit outcome) =
    (refl, (decimal_inner direction, (bytes_inner flit, outcome_inner outcome)))
entry_inner (Shifted cube port goal) =
    (refl, (decimal_inner cube, (decimal_inner port, (goal_inner goal, tt))))
entry_inner (Dropped cube port) = two_numbers (codes "dropped") cube port refl
entry_inner (Spread cube vault bank) =
    (refl, (decimal_inner cube, (decimal_inner vault, (decimal_inner bank, tt))))
entry_inner (Executed unit host tag request answer) = (
  refl,
  inner-append (unit_words unit)
      (decimal host ∷ tag_text tag ∷ (meaning.request_words request ++ answer_words answer))
      (unit_inner unit) (
        decimal_inner host,
        (
          tag_inner tag,
          inner-append (meaning.request_words request) (answer_words answer) (request_inner request)
              (answer_inner answer),
        ),
      ),
)
entry_inner (Lifted cube from port) =
    (refl, (decimal_inner cube, (lift_inner from, (decimal_inner port, tt))))
entry_inner (Took host tag answer) =
    (refl, (decimal_inner host, (decimal_inner tag, answer_inner answer)))
entry_inner (Discarded host) = one_number (codes "discarded") host refl
entry_inner (Through cube port direction) =
    (refl, (decimal_inner cube, (decimal_inner port, (decimal_inner direction, tt))))
entry_inner (Unlocked direction) = one_number (codes "unlocked") direction refl
entry_inner (Retired slot) = one_number (codes "retired") slot refl
entry_inner (Passed direction flit) = (refl, (decimal_inner direction, (bytes_inner flit, tt)))
entry_inner (Idle step cause) = (
  refl,
  inner-append (step_words step) (cause_text cause ∷ []) (step_inner step)
      (cause_inner cause, tt),
)

pub entry_line : (entry : Entry) → is_line (line_of entry) ≡ true
entry_line entry = ap is_line (line_of-words entry) ∙ line_is (entry_words entry) (entry_inner entry)

-- A set of kinds has an entry exactly where it has the bit of the entry's kind.
use Rattle.std.proofs.Common.{◌≡◌, ◌∙◌, ◌^◌, ℕ, Bool, Option, Some, None, refl, sym, ap}
use Rattle.hmc_codes.specs.Request.{RequestFields}
use Rattle.hmc_codes.specs.declared.answer.Answer.{Answer}
use Rattle.hmc_codes.specs.declared.answer.Answer.TheVariants as answers
use Rattle.hmc_codes.specs.declared.unit.Unit.{Unit as Part}
use Rattle.hmc_codes.specs.declared.unit.Unit.TheVariants as parts
use Rattle.hmc_schedule.specs.declared.step.Step.{Step}
use Rattle.hmc_schedule.specs.declared.step.Step.TheVariants as steps
use Rattle.hmc_entries.specs.declared.entry.Entry.{Entry}
use Rattle.hmc_entries.specs.declared.entry.Entry.TheVariants as entries
use Rattle.hmc_entries.specs.declared.outcome.Cause.{Cause}
use Rattle.hmc_entries.specs.declared.outcome.Goal.{Goal}
use Rattle.hmc_entries.specs.declared.outcome.Goal.TheVariants as goals
use Rattle.hmc_session.specs.Stops.{is_stop}
use Rattle.hmc_c.specs.Entries.{blank, goal_into, shown_entry, step_into, unit_into, with_answer, with_tag}
use Rattle.hmc_c.specs.Laying.{has_bit, stops_of}
use Rattle.hmc_c.specs.declared.entry.EntryOut.{EntryOut}

-- what an entry has besides leaves its kind
tag_kind : (tag : Option ℕ) (out : EntryOut) → (with_tag tag out).kind ≡ out.kind
tag_kind None out = refl
tag_kind (Some tag) out = refl

answer_kind : (answer : Answer) (out : EntryOut) → (with_answer answer out).kind ≡ out.kind
answer_kind answers.Silent out = refl
answer_kind (answers.Done flag) out = refl
answer_kind (answers.Read flag payload) out = refl
answer_kind (answers.Register value) out = refl
answer_kind answers.Stored out = refl
answer_kind (answers.Refused errstat) out = refl

goal_kind : (cube port : ℕ) (goal : Goal) → (goal_into cube port goal).kind ≡ 4
unfolding blank
goal_kind cube port (goals.Vault vault) = refl
goal_kind cube port goals.Registers = refl
goal_kind cube port (goals.Port out) = refl

unit_kind : (unit : Part) → (unit_into unit).kind ≡ 7
unfolding blank
unit_kind (parts.Bank cube vault bank) = refl
unit_kind (parts.Registers cube) = refl

step_kind : (step : Step) → (step_into step).kind ≡ 15
unfolding blank
step_kind (steps.Give host) = refl
step_kind (steps.Send direction) = refl
step_kind (steps.Land direction mask) = refl
step_kind (steps.Shift cube port) = refl
step_kind (steps.Spread cube vault) = refl
step_kind (steps.Bank cube vault bank) = refl
step_kind (steps.Registers cube) = refl
step_kind (steps.Lift cube from) = refl
step_kind (steps.Take host) = refl
step_kind (steps.Through cube port) = refl
step_kind (steps.Unlock direction) = refl
step_kind (steps.Retire slot) = refl

bit : (number kind kind' : ℕ) → kind' ≡ kind → has_bit number (2 ^ kind) ≡ has_bit number (2 ^ kind')
bit number kind kind' is = ap (λ (k : ℕ). has_bit number (2 ^ k)) (sym is)

gave_kind : (host : ℕ) (tag : Option ℕ) → (poisoned : Bool) → (request : RequestFields) → (shown_entry (entries.Gave host tag poisoned request)).kind ≡ 1
unfolding shown_entry blank
gave_kind host tag poisoned request = tag_kind tag _

executed_kind : (unit : Part) (host : ℕ) (tag : Option ℕ) (request : RequestFields) (answer : Answer) → (shown_entry (entries.Executed unit host tag request answer)).kind ≡ 7
unfolding shown_entry
executed_kind unit host tag request answer = answer_kind answer _ ∙ tag_kind tag _ ∙ unit_kind unit

took_kind : (host tag : ℕ) (answer : Answer) → (shown_entry (entries.Took host tag answer)).kind ≡ 9
unfolding shown_entry blank
took_kind host tag answer = answer_kind answer _

shifted_kind : (cube port : ℕ) (goal : Goal) → (shown_entry (entries.Shifted cube port goal)).kind ≡ 4
unfolding shown_entry
shifted_kind cube port goal = goal_kind cube port goal

idle_kind : (step : Step) (cause : Cause) → (shown_entry (entries.Idle step cause)).kind ≡ 15
unfolding shown_entry
idle_kind step cause = step_kind step

pub kinds_by_bits : (number : ℕ) (entry : Entry) → is_stop (stops_of number) entry ≡ has_bit number (2 ^ (shown_entry entry).kind)
unfolding stops_of shown_entry blank
kinds_by_bits number (entries.Gave host tag poisoned request) = bit number 1 _ (gave_kind host tag poisoned request)
kinds_by_bits number (entries.Sent direction what flit) = refl
kinds_by_bits number (entries.Landed direction flit outcome) = refl
kinds_by_bits number (entries.Shifted cube port goal) = bit number 4 _ (shifted_kind cube port goal)
kinds_by_bits number (entries.Dropped cube port) = refl
kinds_by_bits number (entries.Spread cube vault bank) = refl
kinds_by_bits number (entries.Executed unit host tag request answer) = bit number 7 _ (executed_kind unit host tag request answer)
kinds_by_bits number (entries.Lifted cube from port) = refl
kinds_by_bits number (entries.Took host tag answer) = bit number 9 _ (took_kind host tag answer)
kinds_by_bits number (entries.Discarded host) = refl
kinds_by_bits number (entries.Through cube port direction) = refl
kinds_by_bits number (entries.Unlocked direction) = refl
kinds_by_bits number (entries.Retired slot) = refl
kinds_by_bits number (entries.Passed direction flit) = refl
kinds_by_bits number (entries.Idle step cause) = bit number 15 _ (idle_kind step cause)

-- What was done is an entry, by its parts.
use Rattle.std.proofs.Common.{◌≡◌, ◌∙◌, ℕ, Option, refl, sym, ap}
use Rattle.hmc_codes.specs.Commands.{is_posted}
use Rattle.hmc_codes.specs.Request.{RequestFields}
use Rattle.hmc_codes.specs.declared.answer.Answer.{Answer}
use Rattle.hmc_codes.specs.declared.unit.Unit.{Unit as RequestUnit}
use Rattle.hmc_schedule.specs.declared.step.Step.{Step}
use Rattle.hmc_entries.specs.declared.entry.Entry.TheVariants.{Executed}
use Rattle.hmc_entries.specs.IdleStep.{idle_step}
use Rattle.hmc_vault.specs.declared.execute.Executed.{Executed as Execution}
use Rattle.hmc_vault.specs.declared.execute.Executed.TheVariants as executions
use Rattle.hmc_vault.specs.declared.execution.ExecutionKind.TheVariants as kinds
use Rattle.hmc_vault.specs.Execution.{kind_of}
use Rattle.hmc_journal.specs.Answers.{tag_of, ran_entry}
use Rattle.hmc_net.proofs.network.cubes.note_ran.Goals as goal

by_parts : (unit : RequestUnit) (step : Step) (e : Execution) (host tag : ℕ) (shown : Option ℕ) (request : RequestFields) (answer : Answer) →
    kinds.Ran host tag ≡ kind_of e →
    ((h t : ℕ) (r : RequestFields) (a : Answer) → e ≡ executions.Ran h t r a → request ≡ r) →
    ((h t : ℕ) (r : RequestFields) (a : Answer) → e ≡ executions.Ran h t r a → answer ≡ a) →
    shown ≡ tag_of (is_posted request.command) tag →
    Executed unit host shown request answer ≡ ran_entry unit step e
by_parts unit step executions.Empty host tag shown request answer is requests answers tags = absurd (cc)
by_parts unit step executions.Full host tag shown request answer is requests answers tags = absurd (cc)
by_parts unit step (executions.Ran h t r a) host tag shown request answer is requests answers tags =
    let host_is : host ≡ h = cc in
    let tag_is : tag ≡ t = cc in
    let same = requests h t r a refl in
    let said = answers h t r a refl in
    ap (λ (left : Option ℕ). Executed unit host left request answer) tags
    ∙ (λ i. Executed unit (host_is i) (tag_of (is_posted (same i).command) (tag_is i)) (same i) (said i))

pub returns-in-Ran-clause-entry : goal.returns-in-Ran-clause-entry
returns-in-Ran-clause-entry c =
    c.executed.ensures
    ∙ by_parts c.args.unit (idle_step c.args.step) c.args.execution.now c.in-Ran.host c.in-Ran.tag c.tag_of-tag.result c.request-request.result.now c.answer.result.now
    (sym c.in-Ran.is ∙ c.kind.ensures) c.request-request.ensures c.answer.ensures
    (c.tag_of-tag.ensures ∙ ap (λ (r : RequestFields). tag_of (is_posted r.command) c.in-Ran.tag) c.request.view_is)

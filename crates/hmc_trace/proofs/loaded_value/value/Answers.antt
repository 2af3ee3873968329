-- By the entries in order.
use Rattle.std.proofs.Common.{ℕ, ◌≡◌, sym, subst}
use Rattle.hmc_accesses.specs.InOrder.{known_answer, answer_in_order}
use Rattle.hmc_trace.proofs.Joining.{value_gives, get_at}
use Rattle.hmc_trace.proofs.Promised.{loaded_by}
use Rattle.hmc_trace.proofs.loaded_value.value.Goals as goal

pub returns-clause-value : goal.returns-clause-value
returns-clause-value c =
    let known = subst (λ l. (n : ℕ) → known_answer l n ≡ answer_in_order c.args.journal.now n)
    (sym c.deref.ensures.value) c.in_ok-answers.ensures in
    let compiled = c.args.compiled.now in
    value_gives (λ b. b.items) c.value_of.result compiled c.script.result.now c.deref.result.now
    c.args.journal.now c.args.load _ c.script.ensures
    (get_at c.loads.result.now compiled.loads c.args.load _ c.loads.ensures c.requires)
    known c.value_of.ensures

pub returns-clause-loaded : goal.returns-clause-loaded
returns-clause-loaded c =
    let known = subst (λ l. (n : ℕ) → known_answer l n ≡ answer_in_order c.args.journal.now n)
    (sym c.deref.ensures.value) c.in_ok-answers.ensures in
    let compiled = c.args.compiled.now in
    let at = get_at c.loads.result.now compiled.loads c.args.load _ c.loads.ensures c.requires in
    let gives = value_gives (λ b. b.items) c.value_of.result compiled c.script.result.now
    c.deref.result.now c.args.journal.now c.args.load _ c.script.ensures at
    known c.value_of.ensures in
    λ trace setup is same network lawful cubes script.
    loaded_by (λ b. b.items) c.value_of.result compiled c.args.journal.now c.args.load _ trace setup
    at gives is same network lawful cubes script

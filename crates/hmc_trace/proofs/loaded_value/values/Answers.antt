-- Load by load.
use Rattle.std.proofs.Common.{ℕ, ◌≡◌, sym, subst}
use Rattle.std.specs.Prelude.{map, option_map}
use Rattle.hmc_accesses.specs.InOrder.{known_answer, answer_in_order}
use Rattle.hmc_trace.proofs.Joining.{values_give}
use Rattle.hmc_trace.proofs.Promised.{all_loaded_by}
use Rattle.hmc_trace.proofs.loaded_value.values.Goals as goal

pub returns-clause-values : goal.returns-clause-values
returns-clause-values c =
    let known = subst (λ l. (n : ℕ) → known_answer l n ≡ answer_in_order c.args.journal.now n)
    (sym c.deref.ensures.value) c.in_ok-answers.ensures in
    values_give (λ v. map (λ found. option_map (λ b. b.items) found) v.items) c.values_of.result
    c.args.compiled.now c.script.result.now c.loads.result.now c.deref.result.now
    c.args.journal.now c.script.ensures c.loads.ensures known c.values_of.ensures

pub returns-clause-loaded : goal.returns-clause-loaded
returns-clause-loaded c =
    let known = subst (λ l. (n : ℕ) → known_answer l n ≡ answer_in_order c.args.journal.now n)
    (sym c.deref.ensures.value) c.in_ok-answers.ensures in
    let gives = values_give (λ v. map (λ found. option_map (λ b. b.items) found) v.items)
    c.values_of.result c.args.compiled.now c.script.result.now c.loads.result.now
    c.deref.result.now c.args.journal.now c.script.ensures c.loads.ensures
    known c.values_of.ensures in
    λ trace setup is same network lawful cubes script given drained.
    all_loaded_by (λ v. map (λ found. option_map (λ b. b.items) found) v.items) c.values_of.result
    c.args.compiled.now c.args.journal.now trace setup gives is same network lawful cubes script
    given
    drained

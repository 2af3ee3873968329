-- The three cases, by the tests of the count.
use Rattle.std.proofs.Common.{◌∙◌, ◌+◌, ◌==◌, Bool, if◌then◌else◌, ap, sym}
use Rattle.std.proofs.lemmas.Bool.{lt-ltb, le-ltb, eq-eqb, ne_eqb}
use Rattle.hmc_irtry.specs.Runs.{whole_run}
use Rattle.hmc_irtry.specs.declared.runs.Counted.TheVariants.{Below, Now, After}
use Rattle.hmc_irtry.proofs.runs.counted_after.Goals as goal

pub returns-then-count-lt-RUN : goal.returns-then-count-lt-RUN
returns-then-count-lt-RUN c =
    let n = c.args.before + 1 in
    ap (λ (b : Bool). if b then Below else if n == whole_run then Now else After)
    (sym (lt-ltb n whole_run c.if-count-lt-RUN.true))

pub returns-then-count-eq-RUN : goal.returns-then-count-eq-RUN
returns-then-count-eq-RUN c =
    let n = c.args.before + 1 in
    ap (λ (b : Bool). if b then Now else After) (sym (eq-eqb n whole_run c.if-count-eq-RUN.true))
    ∙ ap (λ (b : Bool). if b then Below else if n == whole_run then Now else After)
    (sym (le-ltb n whole_run c.if-count-lt-RUN.false))

pub returns-else-count-eq-RUN : goal.returns-else-count-eq-RUN
returns-else-count-eq-RUN c =
    let n = c.args.before + 1 in
    ap (λ (b : Bool). if b then Now else After) (sym (ne_eqb n whole_run c.if-count-eq-RUN.false))
    ∙ ap (λ (b : Bool). if b then Below else if n == whole_run then Now else After)
    (sym (le-ltb n whole_run c.if-count-lt-RUN.false))

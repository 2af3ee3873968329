-- There is no line 0.
use Rattle.std.proofs.Common.{◌≡◌, ◌-◌, ◌∙◌, ℕ, suc, sym, ap, arith}
use Rattle.hmc_journal.specs.Report.{report_lines}
use Rattle.hmc_check.specs.Due.{line_at}
use Rattle.hmc_check.proofs.DueLines.{due_by}
use Rattle.hmc_check.proofs.due.put_line.Goals as goal

pub returns-then-line-eq0 : goal.returns-then-line-eq0
returns-then-line-eq0 g c = λ setup before journal whole.
    let none : c.args.line ≡ 0 = omega (arith, c.if-line-eq0.true) in
    sym (ap (λ (n : ℕ). line_at n (report_lines setup journal)) none)

pub due_after-requires : goal.due_after-requires
due_after-requires g c = c.requires

pub returns : goal.returns
returns g c = λ setup before journal whole.
    let more : suc (c.args.line - 1) ≡ c.args.line = omega (arith, c.if-line-eq0.false) in
    due_by setup (c.args.line - 1) _ (c.due_after.ensures setup before) journal whole
    ∙ ap (λ (n : ℕ). line_at n (report_lines setup journal)) more

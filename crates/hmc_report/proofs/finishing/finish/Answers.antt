use Rattle.std.proofs.Common.{◌++◌, ◌∷◌, [], length, sym, ap, arith, append-nil}
use Rattle.hmc_report.proofs.FinishLemmas.{lines_more, text_more, text_all, some_stopped}
use Rattle.hmc_report.proofs.finishing.finish.Goals as goal

pub all-init : goal.all-init
all-init g c = ([], sym c.new-lines.ensures, sym (append-nil _))

pub all-preserved : goal.all-preserved
all-preserved g c =
    let before = c.all.invariant in
    let line = c.in-Some.line.bytes in
    (before.0 ++ line ∷ [], lines_more _ before.0 _ _ line before.1 c.in-Some.ensures.line, text_more _ _ _ line before.0 before.2 c.in-Ok.ensures.appended)

pub all-smaller : goal.all-smaller
all-smaller g c = omega (arith, ap length c.in-Some.ensures.line)

pub returns-in-Err-clause-some : goal.returns-in-Err-clause-some
returns-in-Err-clause-some g c =
    let before = c.all.invariant in
    some_stopped _ _ _ _ before.0 _ before.1 before.2 c.in-Err.ensures.unchanged

pub returns-clause-text : goal.returns-clause-text
returns-clause-text g c =
    let before = c.all.invariant in
    text_all _ _ _ before.0 _ before.1 c.in_default.ensures.none before.2

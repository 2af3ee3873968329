use Rattle.std.proofs.Common.{◌≡◌, ◌<◌, ◌≤◌, false, true, arith}
use Rattle.std.specs.Prelude.{◌==◌}
use Rattle.hmc_report.proofs.LeftLemmas.{read-zero, read-line, read-none}
use Rattle.hmc_report.proofs.lines.next_register.Goals as goal

pub scan-preserved : goal.scan-preserved
scan-preserved g c =
    let registers = (g.N.Finished.final_values c.args.net.now).registers c.args.cube in
    let h : c.scan.register < 16 = omega arith in
    let holds : c.value_at-value.result == 0 ≡ true = grind (arith, c.if-value-ne0.false) in
    read-zero c.args.cube registers c.args.from c.scan.register _ c.scan.invariant h c.value_at-value.ensures holds

pub returns-then-value-ne0-clause-left : goal.returns-then-value-ne0-clause-left
returns-then-value-ne0-clause-left g c =
    let registers = (g.N.Finished.final_values c.args.net.now).registers c.args.cube in
    let h : c.scan.register < 16 = omega arith in
    let holds : c.value_at-value.result == 0 ≡ false = grind (arith, c.if-value-ne0.true) in
    read-line c.args.cube registers c.args.from c.scan.register _ c.scan.invariant h c.value_at-value.ensures holds

pub returns-clause-none : goal.returns-clause-none
returns-clause-none g c =
    let registers = (g.N.Finished.final_values c.args.net.now).registers c.args.cube in
    let h : 16 ≤ c.scan.register = omega arith in
    read-none c.args.cube registers c.args.from c.scan.register c.scan.invariant h

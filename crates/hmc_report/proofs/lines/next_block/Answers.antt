use Rattle.std.proofs.Common.{◌≡◌, ◌<◌, ◌≤◌, ◌/◌, false, true, length, arith}
use Rattle.hmc_report.proofs.LeftLemmas.{scan-zero, scan-line, scan-none}
use Rattle.hmc_report.proofs.lines.next_block.Goals as goal

pub scan-preserved : goal.scan-preserved
scan-preserved g c =
    let memory = (g.N.Finished.final_values c.args.net.now).memory c.args.cube in
    let h : c.scan.block < length memory / 16 = omega (arith, c.scan-test.true, c.capacity-blocks.ensures.capacity) in
    let holds : c.is_zero.result ≡ true = c.if-not-is_zero.false in
    scan-zero c.args.cube memory _ c.args.from c.scan.block _ c.scan.invariant h c.get16-bytes.ensures c.is_zero.ensures holds

pub returns-then-not-is_zero-clause-left : goal.returns-then-not-is_zero-clause-left
returns-then-not-is_zero-clause-left g c =
    let memory = (g.N.Finished.final_values c.args.net.now).memory c.args.cube in
    let h : c.scan.block < length memory / 16 = omega (arith, c.scan-test.true, c.capacity-blocks.ensures.capacity) in
    let holds : c.is_zero.result ≡ false = c.if-not-is_zero.true in
    scan-line c.args.cube memory _ c.args.from c.scan.block _ c.scan.invariant h c.get16-bytes.ensures c.is_zero.ensures holds

pub returns-clause-none : goal.returns-clause-none
returns-clause-none g c =
    let memory = (g.N.Finished.final_values c.args.net.now).memory c.args.cube in
    let h : length memory / 16 ≤ c.scan.block = omega (arith, c.scan-test.false, c.capacity-blocks.ensures.capacity) in
    scan-none c.args.cube memory c.args.from c.scan.block c.scan.invariant h

-- The line after those that were passed over.
use Rattle.std.proofs.Common.{◌≡◌, ◌≤◌, ◌∙◌, [], ap, arith, rules}
use Rattle.std.specs.Prelude.{slice_get}
use Rattle.hmc_report.specs.Final.{final_lines}
use Rattle.hmc_c.specs.Values.{values_in}
use Rattle.hmc_c.proofs.Named.{item_after, none_after, rest_after}
use Rattle.hmc_c.proofs.final_lines.final_line.Goals as goal

pub returns-in_default : goal.returns-in_default
returns-in_default c =
    let none : c.skipped.lines ≡ [] = search rules in
    let less : c.skipped.at ≤ c.args.number = omega (arith, c.skipped-test.true) in
    none_after (final_lines (values_in c.args.held.now)) c.skipped.at c.args.number c.skipped.lines c.skipped.invariant none less

pub skipped-preserved : goal.skipped-preserved
skipped-preserved c =
    rest_after (final_lines (values_in c.args.held.now)) c.skipped.at c.in-Some.field-0.bytes c.skipped.lines c.next.new.self c.skipped.invariant c.in-Some.ensures.line

pub returns : goal.returns
returns c =
    let there : c.skipped.at ≡ c.args.number = omega (arith, c.skipped-test.false, c.skipped.auto.at-end) in
    item_after c.next-2.result (λ line. line.bytes) (final_lines (values_in c.args.held.now)) c.skipped.at c.skipped.lines c.next-2.new.self
    c.skipped.invariant c.next-2.ensures.line c.next-2.ensures.none
    ∙ ap (slice_get (final_lines (values_in c.args.held.now))) there

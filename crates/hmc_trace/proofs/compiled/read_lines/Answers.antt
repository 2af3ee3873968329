-- Line by line.
use Rattle.std.proofs.Common.{◌∙◌, ℕ, List, refl}
use Rattle.std.specs.Borrow.{Bor}
use Rattle.hmc_text.specs.Lines.{lines_of}
use Rattle.hmc_text.proofs.InTurnLemmas.{next_good}
use Rattle.hmc_trace.specs.Making.{made_of, make_line}
use Rattle.hmc_trace.proofs.Making.{counted_first, counted_next, counted_last, lines_ok, lines_err, some_line}
use Rattle.hmc_trace.proofs.compiled.read_lines.Goals as goal

pub lines-init : goal.lines-init
lines-init c = rw c.of-left.ensures record {
  rest = refl;
  kept = c.requires;
  counted =
      counted_first (lines_of c.args.text.now) 1;
}

pub lines-preserved : goal.lines-preserved
lines-preserved c =
    let line : ℕ × Bor (List ℕ) = (c.in-Some.number, c.in-Some.line) in
    let next = next_good make_line c.lines.left c.next_line.new.self line _ _ c.in-Some.ensures
    c.in_default-read_line.ensures.value in
    record {
      rest = next ∙ c.lines.invariant.rest;
      kept = c.in_default-read_line.ensures.kept;
      counted = counted_next (lines_of c.args.text.now) c.lines.left c.next_line.new.self line
          c.lines.last c.in-Some.ensures c.lines.invariant.counted;
    }

pub returns-in-Err : goal.returns-in-Err
returns-in-Err c =
    lines_err (made_of c.args.progress.now) (made_of c.lines.progress) c.args.text.now c.lines.left
    c.next_line.new.self (c.in-Some.number, c.in-Some.line) c.in-Err.fault c.in-Some.ensures
    c.in-Err.ensures.value c.lines.invariant.rest

pub returns : goal.returns
returns c =
    lines_ok (made_of c.args.progress.now) (made_of c.lines.progress) c.args.text.now c.lines.left
    c.lines.last c.in_default.ensures.0 c.lines.invariant.rest
    (counted_last (lines_of c.args.text.now) c.lines.left c.lines.last c.in_default.ensures.0
    (some_line c.args.text.now) c.lines.invariant.counted)

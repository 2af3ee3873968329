-- The lines so far, and then the rest, are all.
use Rattle.std.proofs.Common.{◌≡◌, length}
use Rattle.hmc_text.specs.Lines.{lines_of}
use Rattle.hmc_text.specs.InTurn.{after_lines}
use Rattle.hmc_text.proofs.InTurnLemmas.{after_left}
use Rattle.hmc_trace.specs.Making.{made_of, make_line, IsProgress}
use Rattle.hmc_trace.proofs.Making.{Counted}
use Rattle.hmc_trace.proofs.compiled.read_lines.Given as goal

abbrev pub invariant-lines : goal.invariant-lines
invariant-lines l = record {
  rest : after_left make_line (made_of l.progress) l.left ≡ after_lines make_line 1
      (made_of l.fn.progress) (lines_of l.fn.text);
  kept : IsProgress l.progress;
  counted : Counted (lines_of l.fn.text) l.left l.last;
}

abbrev pub decreases-lines : goal.decreases-lines
decreases-lines l = length l.left.lines

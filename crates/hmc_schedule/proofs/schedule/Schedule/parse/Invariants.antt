use Rattle.std.proofs.Common.{◌≡◌, length}
use Rattle.hmc_text.proofs.InTurnLemmas.{after_left}
use Rattle.hmc_text.specs.InTurn.{after_lines}
use Rattle.hmc_text.specs.Lines.{lines_of}
use Rattle.hmc_schedule.specs.Schedule.{after_line, nothing_yet, IsProgress}
use Rattle.hmc_schedule.specs.Written.{IsRoundOf}
use Rattle.hmc_schedule.proofs.schedule.Schedule.parse.Given as goal

abbrev pub invariant-lines : goal.invariant-lines
invariant-lines l = record {
  round : IsRoundOf l.plan l.written.kept l.kept;
  rest : after_left (after_line l.plan) (record { steps = l.written.steps; noise = l.noise }) l.left ≡ after_lines (after_line l.plan) 1 nothing_yet (lines_of l.fn.text);
  read : IsProgress l.plan (record { steps = l.written.steps; noise = l.noise });
}

abbrev pub decreases-lines : goal.decreases-lines
decreases-lines l = length l.left.lines

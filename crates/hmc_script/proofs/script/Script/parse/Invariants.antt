use Rattle.std.proofs.Common.{◌≡◌, length}
use Rattle.std.specs.List.{All}
use Rattle.hmc_script.specs.Items.{IsWithin}
use Rattle.hmc_text.specs.Lines.{lines_of}
use Rattle.hmc_text.specs.InTurn.{after_lines}
use Rattle.hmc_text.proofs.InTurnLemmas.{after_left}
use Rattle.hmc_script.specs.Script.{after_line, nothing_yet}
use Rattle.hmc_script.proofs.script.Script.parse.Given as goal

abbrev pub invariant-lines : goal.invariant-lines
invariant-lines l = record {
  rest : after_left (after_line l.hosts l.cubes) (record { items = l.script; fences = l.fences }) l.left ≡ after_lines (after_line l.hosts l.cubes) 1 nothing_yet (lines_of l.fn.text);
  within : All (IsWithin l.hosts l.cubes) l.script;
}

abbrev pub decreases-lines : goal.decreases-lines
decreases-lines l = length l.left.lines

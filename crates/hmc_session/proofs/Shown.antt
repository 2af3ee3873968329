-- The final lines of a session are those of its journal.
use Rattle.std.proofs.Common.{◌≡◌}
use Rattle.hmc_report.specs.Final.{FinalValues, final_lines, ending_lines, lines_from}
use Rattle.hmc_report.specs.declared.part.Part.{Part}
use Rattle.hmc_report.specs.declared.part.Part.TheVariants.{Memory, Tokens}

pub same_lines : (part : Part) (shown left : FinalValues) → final_lines shown ≡ final_lines left → ending_lines shown ≡ ending_lines left → lines_from part shown ≡ lines_from part left
same_lines Memory shown left whole ending = whole
same_lines Tokens shown left whole ending = ending

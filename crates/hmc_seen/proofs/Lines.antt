-- The lines of an end are the first final lines.
use Rattle.std.proofs.Common.{◌≡◌, ◌++◌, refl}
use Rattle.hmc_report.specs.Final.{FinalValues, ending_lines, final_lines}
use Rattle.hmc_seen.specs.End.{end_of, memory_lines_of, register_lines_of}

pub lines_of_end : (values : FinalValues) →
    final_lines values ≡ (end_of values).memory ++ (end_of values).registers ++ ending_lines values
unfolding final_lines end_of memory_lines_of register_lines_of
lines_of_end values = refl

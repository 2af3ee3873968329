-- The lines so far are printed.
use Rattle.std.proofs.Common.{◌≡◌, ◌++◌, take, string_bytes}
use Rattle.std.specs.List.{flat_map}
use Rattle.hmc_log.specs.Lines.{memory_line}
use Rattle.hmc_log.proofs.print.print_memory.Given as goal

abbrev pub invariant-lines : goal.invariant-lines
invariant-lines l =
    string_bytes l.into ≡ string_bytes l.fn.into ++ flat_map memory_line (take l.at l.blocks)

-- The lines so far are printed.
use Rattle.std.proofs.Common.{◌≡◌, ◌++◌, take, string_bytes}
use Rattle.std.specs.List.{flat_map}
use Rattle.hmc_entries.specs.Lines.{line_of}
use Rattle.hmc_log.proofs.print.print_entries.Given as goal

abbrev pub invariant-lines : goal.invariant-lines
invariant-lines l =
    string_bytes l.into ≡ string_bytes l.fn.into ++ flat_map line_of (take l.at l.entries)

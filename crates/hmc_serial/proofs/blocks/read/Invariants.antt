use Rattle.std.proofs.Common.{◌≡◌, ◌+◌, ◌*◌, take}
use Rattle.std.specs.Prelude.{slice_range}
use Rattle.hmc_serial.proofs.blocks.read.Given as goal

abbrev pub invariant-loop-i : goal.invariant-loop-i
invariant-loop-i l = take (16 * l.i) l.bytes ≡ slice_range l.banks.bytes l.address (l.address + 16 * l.i)

use Rattle.std.proofs.Common.{◌≡◌, ◌*◌, take}
use Rattle.hmc_memory.specs.Banks.{written_bytes}
use Rattle.hmc_serial.proofs.blocks.write.Given as goal

abbrev pub invariant-loop-i : goal.invariant-loop-i
invariant-loop-i l =
    (l.banks.shape ≡ l.initial.banks.shape)
    × (l.banks.bytes ≡ written_bytes l.initial.banks.bytes l.address (take (16 * l.i) l.bytes))

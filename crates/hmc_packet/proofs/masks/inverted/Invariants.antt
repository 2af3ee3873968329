use Rattle.std.proofs.Common.{◌≡◌, ◌++◌, take, drop}
use Rattle.hmc_packet.specs.Masks.{under_mask}
use Rattle.hmc_packet.proofs.masks.inverted.Given as goal

abbrev pub invariant-loop-i : goal.invariant-loop-i
invariant-loop-i l = l.changed ≡ under_mask (take l.i l.mask) (take l.i l.flit) ++ drop l.i l.flit

-- The vaults so far are new.
use Rattle.std.proofs.Common.{◌≡◌}
use Rattle.std.specs.Prelude.{replicate}
use Rattle.hmc_vault.specs.Vault.{opening_vault}
use Rattle.hmc_cube.proofs.cube.new_vaults.Given as goal

abbrev pub invariant-loop-i : goal.invariant-loop-i
invariant-loop-i l = l.vaults.items ≡ replicate l.i (opening_vault l.bank_bits l.queue)

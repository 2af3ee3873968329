-- The packets so far, at most 8,191 a vault.
use Rattle.std.proofs.Common.{◌≡◌, ◌≤◌, ◌*◌, take, sum_by}
use Rattle.hmc_vault.specs.Vault.{held_by}
use Rattle.hmc_cube.proofs.cube.held_in.Given as goal

abbrev pub invariant-loop-vault : goal.invariant-loop-vault
invariant-loop-vault l = (l.held ≡ sum_by held_by (take l.vault-index l.vaults)) × (l.held ≤ 8191 * l.vault-index)

-- How the parts of a cube fit together.
use Rattle.std.specs.Prelude.{◌≡◌, ◌≤◌, ◌^◌, ℕ, length}
use Rattle.std.specs.List.{All}
use Rattle.hmc_codes.specs.Shape.{ShapeFields}
use Rattle.hmc_serial.specs.Cube.{IsCube}
use Rattle.hmc_vault.specs.Vault.{VaultFields}
use Rattle.hmc_cube.specs.Cube.{CubeFields}
use Rattle.hmc_cube.specs.Places.{IsForRegisters}

-- a vault of a cube of this shape, whose queues have this size
pub record VaultFits (shape : ShapeFields) (size : ℕ) (vault : VaultFields) : Type 0 where
  pub banks : length vault.banks ≡ 2 ^ shape.bank_bits
  pub same_size : vault.size ≡ size

-- what each cube keeps: its vaults fit its shape and its size, and no queue of the registers has
-- more packets than the size
pub record AreParts (cube : CubeFields) : Type 0 where
  pub state : IsCube cube.state
  pub vaults : length cube.vaults ≡ 2 ^ cube.state.shape.vault_bits
  pub are_vaults : All (VaultFits cube.state.shape cube.size) cube.vaults
  pub register_queue_fits : length cube.register_queue ≤ cube.size
  pub answers_fit : length cube.answers ≤ cube.size
  pub requests : All IsForRegisters cube.register_queue

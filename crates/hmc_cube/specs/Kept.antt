-- How a cube keeps its parts.
use Rattle.std.specs.Prelude.{◌≡◌, ◌<◌, ◌^◌, ℕ, List, length}
use Rattle.std.specs.List.{All}
use Rattle.hmc_codes.specs.Shape.{ShapeFields, IsShape}
use Rattle.hmc_memory.specs.Banks.{BanksFields}
use Rattle.hmc_serial.specs.Cube.{cube_state_of}
use Rattle.hmc_tokens.specs.declared.queue.Queue.{Queue}
use Rattle.hmc_tokens.specs.Queue.{packets_of, size_of}
use Rattle.hmc_vault.specs.Vault.{VaultFields}
use Rattle.hmc_cube.specs.Cube.{CubeFields}
use Rattle.hmc_cube.specs.Places.{IsForRegisters}
use Rattle.hmc_cube.specs.Parts.{VaultFits}

-- the cube of these parts
abbrev pub cube_of_parts : BanksFields → (registers : List ℕ) → List VaultFields →
    (register_queue answers : Queue) → CubeFields
cube_of_parts banks registers vaults register_queue answers = record {
  state = cube_state_of banks registers;
  vaults = vaults;
  register_queue = packets_of register_queue;
  answers = packets_of answers;
  size = size_of register_queue;
}

-- what each cube keeps of its parts
pub record IsCubeOfParts (shape : ShapeFields) (vaults : List VaultFields)
    (register_queue answers : Queue) : Type 0 where
  pub is_shape : IsShape shape
  pub count : length vaults ≡ 2 ^ shape.vault_bits
  pub are_vaults : All (VaultFits shape (size_of register_queue)) vaults
  pub answers_size : size_of answers ≡ size_of register_queue
  pub small : size_of register_queue < 2 ^ 8
  pub requests : All IsForRegisters (packets_of register_queue)

-- One cube of the plain machine.
use Rattle.std.specs.Prelude.{◌≡◌, ℕ, List, length, replicate, Option}
use Rattle.hmc_codes.specs.Bytes.{IsBytes}
use Rattle.hmc_codes.specs.Shape.{ShapeFields, IsShape, capacity_of}
use Rattle.hmc_codes.specs.declared.answer.Answer.{Answer}
use Rattle.hmc_memory.specs.Banks.{BanksFields}
use Rattle.hmc_registers.specs.Registers.{IsRegisters, opening_registers}
use Rattle.hmc_units.specs.Unit.{UnitFields}

-- all bytes in address order, and sixteen registers
pub record CubeState : Type 0 where
  pub shape : ShapeFields
  pub memory : List ℕ
  pub registers : List ℕ

-- what a request leaves of its cube and of the slots of logic units, and its answer
pub record Outcome : Type 0 where
  pub cube : CubeState
  pub slots : List (Option UnitFields)
  pub answer : Answer

-- at first all bytes are zero
unfoldable pub opening : ShapeFields → (number : ℕ) → CubeState
opening shape number =
    record {
      shape = shape;
      memory = replicate (capacity_of shape) 0;
      registers = opening_registers number shape;
    }

-- what each cube keeps: as many bytes as its shape gives, and sixteen registers
pub record IsCube (cube : CubeState) : Type 0 where
  pub is_shape : IsShape cube.shape
  pub capacity : length cube.memory ≡ capacity_of cube.shape
  pub bytes : IsBytes cube.memory
  pub are_registers : IsRegisters cube.registers

-- the cube with this memory and these registers
abbrev pub cube_state_of : BanksFields → List ℕ → CubeState
cube_state_of banks registers =
    record { shape = banks.shape; memory = banks.bytes; registers = registers }

-- a cube of this memory and these registers, these slots, and this answer
abbrev pub outcome_of_parts : BanksFields → List ℕ → List (Option UnitFields) → Answer → Outcome
outcome_of_parts banks registers slots answer =
    record { cube = cube_state_of banks registers; slots = slots; answer = answer }

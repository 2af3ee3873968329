-- What is seen of a network when a run ends: some of the final lines of its report.
use Rattle.std.specs.Prelude.{ℕ, Bool, List}
use Rattle.std.specs.List.{flat_map}
use Rattle.hmc_codes.specs.Numbers.{upto}
use Rattle.hmc_report.specs.Final.{FinalValues}
use Rattle.hmc_report.specs.Lines.{memory_lines, register_lines}
use Rattle.hmc_serial.specs.Machine.{State, cube_state_at}
use Rattle.hmc_journal.specs.Setup.{Topology, cubes_in}

-- the lines `memory` and `register` of all cubes, and whether the line `state` says that no packet
-- is on its way
pub record End : Type 0 where
  pub memory : List (List ℕ)
  pub registers : List (List ℕ)
  pub drained : Bool

-- the lines of the memories of so many cubes
unfoldable pub memory_lines_of : (cubes : ℕ) → (memory : (cube : ℕ) → List ℕ) → List (List ℕ)
memory_lines_of cubes memory = flat_map (λ cube. memory_lines cube (memory cube)) (upto cubes)

-- and those of their registers
unfoldable pub register_lines_of : (cubes : ℕ) → (registers : (cube : ℕ) → List ℕ) → List (List ℕ)
register_lines_of cubes registers =
    flat_map (λ cube. register_lines cube (registers cube)) (upto cubes)

-- the end that a report of these values shows
unfoldable pub end_of : FinalValues → End
end_of v = record {
  memory = memory_lines_of v.cubes v.memory;
  registers = register_lines_of v.cubes v.registers;
  drained = v.drained;
}

-- the lines of a machine's memories
unfoldable pub memory_of : Topology → State → List (List ℕ)
memory_of topology state =
    memory_lines_of (cubes_in topology) (λ cube. (cube_state_at state cube).memory)

-- and those of its registers
unfoldable pub registers_of : Topology → State → List (List ℕ)
registers_of topology state =
    register_lines_of (cubes_in topology) (λ cube. (cube_state_at state cube).registers)

-- A plain machine: a cube's number is its place in the list.
use Rattle.std.specs.Prelude.{◌≤◌, ◌+◌, ℕ, List, [], ◌∷◌, length, slice_index_or, slice_set, Option}
use Rattle.std.specs.List.{All}
use Rattle.hmc_codes.specs.Limits.{most_cubes}
use Rattle.hmc_codes.specs.Shape.{ShapeFields}
use Rattle.hmc_codes.specs.Request.{RequestFields}
use Rattle.hmc_codes.specs.declared.answer.Answer.{Answer}
use Rattle.hmc_units.specs.Unit.{UnitFields}
use Rattle.hmc_units.specs.Bench.{retired_slots}
use Rattle.hmc_serial.specs.Cube.{CubeState, Outcome, IsCube, opening}
use Rattle.hmc_serial.specs.Perform.{perform_on}

-- the cubes of a machine, by their numbers, and the slots of its logic units
pub record State : Type 0 where
  pub cubes : List CubeState
  pub slots : List (Option UnitFields)

-- cubes of these shapes, numbered from a number on
abbrev pub openings_from : ℕ → List ShapeFields → List CubeState
openings_from number [] = []
openings_from number (shape ∷ shapes) = opening shape number ∷ openings_from (number + 1) shapes

-- a new machine with logic units as they were handed in
unfoldable pub opening_state : List ShapeFields → List (Option UnitFields) → State
opening_state shapes slots = record { cubes = openings_from 0 shapes; slots = slots }

-- the machine of these cubes and these slots
abbrev pub machine_of : List CubeState → List (Option UnitFields) → State
machine_of cubes slots = record { cubes = cubes; slots = slots }

-- the value for a cube that isn't there
abbrev pub no_cube_state : CubeState
no_cube_state = record {
  shape = record { vault_bits = 0; bank_bits = 0; rows = 0; block = 256 };
  memory = [];
  registers = [];
}

-- the cube with a number
abbrev pub cube_in : List CubeState → ℕ → CubeState
cube_in cubes number = slice_index_or cubes number no_cube_state

-- the same of a machine
abbrev pub cube_state_at : State → ℕ → CubeState
cube_state_at state number = cube_in state.cubes number

-- a request's cube performs it
abbrev pub performed : State → RequestFields → Outcome
performed state request = perform_on (cube_state_at state request.cube) state.slots request

-- what a request leaves of a machine: the other cubes stay
unfoldable pub apply : State → RequestFields → State
apply state request = record {
  cubes = slice_set state.cubes request.cube (performed state request).cube;
  slots = (performed state request).slots;
}

-- the answer to a request
unfoldable pub answer_to : State → RequestFields → Answer
answer_to state request = (performed state request).answer

-- a machine after the unit of a slot was retired
unfoldable pub retire : State → (slot : ℕ) → State
retire state slot = record state { slots = retired_slots state.slots slot }

-- what each machine keeps
pub record IsMachine (state : State) : Type 0 where
  pub some_cubes : 1 ≤ length state.cubes
  pub few_cubes : length state.cubes ≤ most_cubes
  pub cubes : All IsCube state.cubes

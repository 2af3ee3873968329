-- The final lines of a journal, and the values that it leaves.
use Rattle.std.specs.Prelude.{ℕ, List}
use Rattle.hmc_report.specs.Final.{FinalValues, final_lines}
use Rattle.hmc_serial.specs.Cube.{CubeState}
use Rattle.hmc_serial.specs.Machine.{cube_state_at}
use Rattle.hmc_entries.specs.declared.entry.Entry.{Entry}
use Rattle.hmc_journal.specs.Counts.{host_counts, cube_counts, direction_counts, token_counts}
use Rattle.hmc_journal.specs.Drained.{is_drained}
use Rattle.hmc_journal.specs.Setup.{Setup, cubes_in, directions_in, hosts_in}
use Rattle.hmc_journal.specs.StepView.{state_of}

-- a cube of a network as the journal leaves it
abbrev pub cube_left : Setup → List Entry → (cube : ℕ) → CubeState
cube_left setup past cube = cube_state_at (state_of setup past) cube

-- what a journal leaves: memories, registers, tokens, what is counted, and whether nothing is on
-- its way
unfoldable pub values_of : Setup → List Entry → FinalValues
values_of setup past = record {
  cubes = cubes_in setup.topology;
  directions = directions_in setup.topology;
  hosts = hosts_in setup.topology;
  memory = λ cube. (cube_left setup past cube).memory;
  registers = λ cube. (cube_left setup past cube).registers;
  tokens = token_counts setup.topology past;
  counters = direction_counts setup.topology past;
  host_counts = host_counts past;
  cube_counts = cube_counts past;
  drained = is_drained setup.topology past;
}

-- the final lines
unfoldable pub final_lines_of : Setup → List Entry → List (List ℕ)
final_lines_of setup past = final_lines (values_of setup past)

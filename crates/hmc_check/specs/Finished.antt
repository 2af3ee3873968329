-- What is shown at the end.
use Rattle.std.specs.Prelude.{ℕ, nat_lt, ◌&&◌, if◌then◌else◌, Bool, List, [], replicate, length, is_none, slice_get}
use Rattle.std.specs.List.{list_all}
use Rattle.hmc_report.specs.Final.{FinalValues}
use Rattle.hmc_serial.specs.Cube.{CubeState}
use Rattle.hmc_serial.specs.Machine.{cube_in}
use Rattle.hmc_queues.specs.Queues.{CubeQueuesFields}
use Rattle.hmc_kept.specs.Hosts.{host_counts_of}
use Rattle.hmc_kept.specs.Quiet.{is_quiet_end}
use Rattle.hmc_directions.specs.Ends.{row_at}
use Rattle.hmc_tally.specs.Tally.{direction_row, cube_row}
use Rattle.hmc_check.specs.Past.{PastFields}

-- the bytes and the registers of a cube; a cube that isn't there has no bytes
abbrev pub memory_of : List CubeState → (cube : ℕ) → List ℕ
memory_of cubes cube = if nat_lt cube (length cubes) then (cube_in cubes cube).memory else []

abbrev pub registers_of : List CubeState → (cube : ℕ) → List ℕ
registers_of cubes cube =
    if nat_lt cube (length cubes) then (cube_in cubes cube).registers else replicate 16 0

-- the queues of a cube hold no packet
abbrev pub are_empty : CubeQueuesFields → Bool
are_empty queues = list_all (λ queue. is_none (slice_get queue 0)) queues.queues

-- nothing is on its way
abbrev pub is_still : PastFields → Bool
is_still p = list_all is_quiet_end p.ends && list_all are_empty p.queues

-- the values of the final lines
unfoldable pub past_values : PastFields → FinalValues
past_values p = record {
  cubes = length p.tally.cubes;
  directions = length p.tally.directions;
  hosts = length p.tally.hosts;
  memory = memory_of p.cubes;
  registers = registers_of p.cubes;
  tokens = row_at p.ends;
  counters = direction_row p.tally;
  host_counts = host_counts_of p.tally p.hosts;
  cube_counts = cube_row p.tally;
  drained = is_still p;
}

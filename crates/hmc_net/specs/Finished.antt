-- What a network shows at its end.
use Rattle.std.specs.Prelude.{ℕ, ◌==◌, ◌&&◌, Bool, List, [], replicate, length, slice_get, Option, Some, None}
use Rattle.std.specs.List.{list_all}
use Rattle.hmc_report.specs.Final.{FinalValues}
use Rattle.hmc_cube.specs.Cube.{CubeFields, held_in_cube}
use Rattle.hmc_link.specs.Held.{LinkHeld}
use Rattle.hmc_net.specs.NetState.{NetState}
use Rattle.hmc_tally.specs.Tally.{direction_row, cube_row}
use Rattle.hmc_links.specs.Tokens.{tokens_at}
use Rattle.hmc_kept.specs.Hosts.{host_counts_of}
use Rattle.hmc_kept.specs.Quiet.{is_quiet_end}

-- the bytes and the registers of a cube; a cube that isn't there has no bytes
abbrev pub memory_of : Option CubeFields → List ℕ
memory_of None = []
memory_of (Some cube) = cube.state.memory

abbrev pub registers_of : Option CubeFields → List ℕ
registers_of None = replicate 16 0
registers_of (Some cube) = cube.state.registers

-- a link and a cube hold no packet
abbrev pub is_quiet_link : LinkHeld → Bool
is_quiet_link link = is_quiet_end link.a && is_quiet_end link.b

abbrev pub is_empty_cube : CubeFields → Bool
is_empty_cube cube = held_in_cube cube == 0

-- nothing is on its way
abbrev pub is_quiescent : NetState → Bool
is_quiescent net = list_all is_quiet_link net.links && list_all is_empty_cube net.cubes

-- the values of the final lines
unfoldable pub net_values : NetState → FinalValues
net_values net = record {
  cubes = length net.tally.cubes;
  directions = length net.tally.directions;
  hosts = length net.tally.hosts;
  memory = λ cube. memory_of (slice_get net.cubes cube);
  registers = λ cube. registers_of (slice_get net.cubes cube);
  tokens = tokens_at net.links;
  counters = direction_row net.tally;
  host_counts = host_counts_of net.tally net.hosts;
  cube_counts = cube_row net.tally;
  drained = is_quiescent net;
}

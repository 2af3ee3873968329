-- The case that a journal is of.
use Rattle.std.specs.Prelude.{ℕ, ◌*◌, ◌/◌, List, length, map, slice_index_or, Option, option_map}
use Rattle.hmc_codes.specs.Graph.{GraphFields}
use Rattle.hmc_codes.specs.Shape.{ShapeFields}
use Rattle.hmc_codes.specs.Request.{RequestFields}
use Rattle.hmc_codes.specs.declared.profile.Profile.TheVariants.{One}
use Rattle.hmc_codes.specs.declared.place.Join.{Join}
use Rattle.hmc_codes.specs.declared.place.Place.{Place}
use Rattle.hmc_codes.specs.declared.unit.Unit.{Unit as RequestUnit}
use Rattle.hmc_codes.specs.declared.unit.Unit.TheVariants as units
use Rattle.hmc_units.specs.Unit.{UnitFields}
use Rattle.hmc_serial.specs.Unit.{unit_of}
use Rattle.hmc_script.specs.Items.{ItemFields}
use Rattle.hmc_schedule.specs.declared.step.Step.{Step}
use Rattle.hmc_routes.specs.Directions as directions
pub use Rattle.hmc_routes.specs.Directions.{other}
use Rattle.hmc_case.specs.Case.{CaseFields}
use Rattle.hmc_case.specs.Together.{host_count}
use Rattle.hmc_case.specs.Setup.{CubeSetupFields}
use Rattle.hmc_case.specs.declared.setup.LinkRow.{LinkRow}

-- cubes and links, by their numbers
pub record Topology : Type 0 where
  pub cubes : List CubeSetupFields
  pub links : List LinkRow

-- the topology, the logic units as they were handed in, what the hosts ask, and the steps
pub record Setup : Type 0 where
  pub topology : Topology
  pub slots : List (Option UnitFields)
  pub script : List ItemFields
  pub schedule : List Step

-- the setup of a case and of logic units
abbrev pub setup_of : CaseFields → List (Option UnitFields) → Setup
setup_of case slots = record {
  topology = record { cubes = case.net.cubes; links = case.net.links };
  slots = slots;
  script = case.script;
  schedule = case.schedule;
}

-- in place of a cube that isn't there: one without memory whose queues hold nothing
abbrev pub no_setup : CubeSetupFields
no_setup = record {
  shape = record { vault_bits = 0; bank_bits = 0; rows = 0; block = 256 };
  queue = 0;
}

-- in place of a link that isn't there: one of no size between two ports of a cube that no case has
abbrev pub no_link : LinkRow
no_link = record {
  join = directions.no_join;
  setup = record { line = 0; tokens = 0; retry = 0; output = 0; profile = One };
}

-- the cube with a number
abbrev pub cube_setup : Topology → ℕ → CubeSetupFields
cube_setup topology cube = slice_index_or topology.cubes cube no_setup

-- the shape of a cube
abbrev pub shape_of : Topology → ℕ → ShapeFields
shape_of topology cube = (cube_setup topology cube).shape

-- the shapes of all cubes
abbrev pub shapes_of : Topology → List ShapeFields
shapes_of topology = map (λ cube. cube.shape) topology.cubes

-- how many cubes there are
abbrev pub cubes_in : Topology → ℕ
cubes_in topology = length topology.cubes

-- how many hosts there are
abbrev pub hosts_in : Topology → ℕ
hosts_in topology = host_count topology.links

-- how many directions there are: two for each link
abbrev pub directions_in : Topology → ℕ
directions_in topology = 2 * length topology.links

-- what the links join
abbrev pub joins_of : Topology → List Join
joins_of topology = map (λ link. link.join) topology.links

-- the graph that packets find their routes in
abbrev pub graph_of : Topology → GraphFields
graph_of topology = record { cubes = cubes_in topology; joins = joins_of topology }

-- the link of a direction
abbrev pub link_of : Topology → ℕ → LinkRow
link_of topology direction = slice_index_or topology.links (direction / 2) no_link

-- where a direction starts
abbrev pub start_of : Topology → ℕ → Place
start_of topology direction = directions.start_of (joins_of topology) direction

-- where a direction ends
abbrev pub end_of : Topology → ℕ → Place
end_of topology direction = directions.end_of (joins_of topology) direction

-- the direction that starts at a place, if it has a link
abbrev pub direction_from : Topology → Place → Option ℕ
direction_from topology place = directions.direction_from (joins_of topology) place

-- the direction that ends at a place, if it has a link
abbrev pub direction_to : Topology → Place → Option ℕ
direction_to topology place = option_map other (direction_from topology place)

-- the unit that executes a request, by the shape of its cube
abbrev pub unit_in : Topology → RequestFields → RequestUnit
unit_in topology request = unit_of (shape_of topology request.cube) request

-- the cube that a unit is in
abbrev pub unit_cube : RequestUnit → ℕ
unit_cube (units.Bank cube vault bank) = cube
unit_cube (units.Registers cube) = cube

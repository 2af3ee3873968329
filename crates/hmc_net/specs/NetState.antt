-- A network, as the contracts see it, and the packets in the queues of its cubes.
use Rattle.std.specs.Prelude.{◌<◌, ℕ, List, [], length, map, slice_index_or, Option}
use Rattle.hmc_codes.specs.declared.lift.Lift.TheVariants as lifts
use Rattle.hmc_packet.specs.Packet.{PacketFields}
use Rattle.hmc_serial.specs.Machine.{State, machine_of, no_cube_state}
use Rattle.hmc_vault.specs.Vault.{bank_at}
use Rattle.hmc_cube.specs.Cube.{CubeFields, vault_at}
use Rattle.hmc_cube.specs.Places.{answers_at}
use Rattle.hmc_host.specs.Host.{HostFields}
use Rattle.hmc_link.specs.Held.{LinkHeld}
use Rattle.hmc_units.specs.Unit.{UnitFields}
use Rattle.hmc_entries.specs.declared.entry.Entry.{Entry}
use Rattle.hmc_journal.specs.Queues.{QueueId}
use Rattle.hmc_journal.specs.Queues.QueueId.{Output, Port, Host, Vault, Bank, Registers, Answers}
use Rattle.hmc_journal.specs.Setup.{Topology}
use Rattle.hmc_kept.specs.Pipes.{PipesHeld}
use Rattle.hmc_tally.specs.Tally.{TallyFields}

-- its cubes, hosts and links, each by its number, the slots of its logic units, the packets that
-- are forwarded, what is counted, and the entry of the latest step
pub record NetState : Type 0 where
  pub topology : Topology
  pub cubes : List CubeFields
  pub hosts : List HostFields
  pub slots : List (Option UnitFields)
  pub links : List LinkHeld
  pub piped : PipesHeld
  pub tally : TallyFields
  pub last : Entry

-- the same with the bench itself, as a network keeps it
pub record NetParts (B : Type 0) : Type 0 where
  pub topology : Topology
  pub cubes : List CubeFields
  pub hosts : List HostFields
  pub bench : B
  pub links : List LinkHeld
  pub piped : PipesHeld
  pub tally : TallyFields
  pub last : Entry

-- the slots of a bench are those that its type shows
abbrev pub net_of : {B : Type 0} → (slots : B → List (Option UnitFields)) → NetParts B → NetState
net_of slots parts = record {
  topology = parts.topology;
  cubes = parts.cubes;
  hosts = parts.hosts;
  slots = slots parts.bench;
  links = parts.links;
  piped = parts.piped;
  tally = parts.tally;
  last = parts.last;
}

-- in place of a cube that isn't there: one without vaults
abbrev pub no_cube : CubeFields
no_cube = record {
  state = no_cube_state;
  vaults = [];
  register_queue = [];
  answers = [];
  size = 0;
}

-- the cube with a number
abbrev pub cube_in : List CubeFields → ℕ → CubeFields
cube_in cubes cube = slice_index_or cubes cube no_cube

-- the packets that a cube has in a queue; none in the queues of links, which the links hold
abbrev pub packets_in : CubeFields → QueueId → List PacketFields
packets_in cube (Vault c vault) = (vault_at cube vault).vault_queue
packets_in cube (Bank c vault bank) = bank_at (vault_at cube vault) bank
packets_in cube (Registers c) = cube.register_queue
packets_in cube (Answers c from) = answers_at cube from
packets_in cube _ = []

-- the cube of a queue
abbrev pub queue_cube : QueueId → ℕ
queue_cube (Vault cube vault) = cube
queue_cube (Bank cube vault bank) = cube
queue_cube (Registers cube) = cube
queue_cube (Answers cube from) = cube
queue_cube _ = 0

-- the packets in a queue of the cubes
abbrev pub inside : List CubeFields → QueueId → List PacketFields
inside cubes queue = packets_in (cube_in cubes (queue_cube queue)) queue

-- a queue that a cube has
abbrev pub IsIn : CubeFields → QueueId → Type 0
IsIn x (Vault c v) = v < length x.vaults
IsIn x (Bank c v b) = (v < length x.vaults) × (b < length (vault_at x v).banks)
IsIn x (Answers c (lifts.Vault v)) = v < length x.vaults
IsIn x _ = Unit {0}

-- a queue of a cube that is there, or a queue of a link
abbrev pub IsQueueOf : List CubeFields → QueueId → Type 0
IsQueueOf cubes (Output d) = Unit {0}
IsQueueOf cubes (Port c p) = Unit {0}
IsQueueOf cubes (Host h) = Unit {0}
IsQueueOf cubes r = (queue_cube r < length cubes) × IsIn (cube_in cubes (queue_cube r)) r

-- the plain machine of the cubes and the logic units
abbrev pub machine_in : List CubeFields → List (Option UnitFields) → State
machine_in cubes slots = machine_of (map (λ cube. cube.state) cubes) slots

-- What the steps leave, by numbers.
use Rattle.std.specs.Prelude.{◌≡◌, ℕ, ◌+◌, ◌%◌, ◌==◌, ◌&&◌, nat_lt, if◌then◌else◌, Bool, true, false, List, length, slice_get, slice_range, Option, Some, None}
use Rattle.hmc_codes.specs.declared.counts.Counters.{Counters}
use Rattle.hmc_codes.specs.declared.counts.CubeCounts.{CubeCounts}
use Rattle.hmc_codes.specs.declared.counts.HostCounts.{HostCounts}
use Rattle.hmc_codes.specs.declared.counts.TokenRow.{TokenRow}
use Rattle.hmc_report.specs.Final.{FinalValues}
use Rattle.hmc_net.specs.Finished.{net_values}
use Rattle.hmc_c.specs.Handles.{shown}
use Rattle.hmc_c.specs.Lines.{LineShown}
use Rattle.hmc_c.specs.Status.{none, ok, over}
use Rattle.hmc_c.specs.declared.counts.CountersOut.{CountersOut}
use Rattle.hmc_c.specs.declared.counts.CubeOut.{CubeOut}
use Rattle.hmc_c.specs.declared.counts.HostOut.{HostOut}
use Rattle.hmc_c.specs.declared.counts.TokensOut.{TokensOut}
use Rattle.hmc_c.specs.declared.held.Held.{Held}

-- what the network of a handle shows
abbrev pub values_in : Held → FinalValues
values_in held = net_values (shown held).net

-- the value, where the part is there
abbrev pub where_below : {X : Type 0} → (number count : ℕ) → Option X → Option X
where_below number count value = (if nat_lt number count then value else None)

-- the 16 bytes of a memory at an address, if it is a multiple of 16 inside
abbrev pub block_of : (memory : List ℕ) → (address : ℕ) → Option (List ℕ)
block_of memory address =
    (if (address % 16 == 0) && nat_lt address (length memory)
    then Some (slice_range memory address (address + 16)) else None)

-- those of a cube, if it is there
abbrev pub block_in : FinalValues → (cube address : ℕ) → Option (List ℕ)
block_in values cube address =
    where_below cube values.cubes (block_of (values.memory cube) address)

-- a register of a cube, if both are there
abbrev pub register_in : FinalValues → (cube number : ℕ) → Option ℕ
register_in values cube number =
    where_below cube values.cubes (slice_get (values.registers cube) number)

-- the tokens of a direction, its counts, and those of a host and of a cube, as C sees them
abbrev pub tokens_out : TokenRow → TokensOut
tokens_out row = record {
  held = row.held;
  transit = row.transit;
  used = row.used;
  due = row.due;
  returning = row.returning;
}

abbrev pub counters_out : Counters → CountersOut
counters_out counts = record {
  sent = counts.sent;
  landed = counts.landed;
  changed = counts.changed;
  accepted = counts.accepted;
  repeats = counts.repeats;
  aborts = counts.aborts;
}

abbrev pub host_out : HostCounts → HostOut
host_out counts = record { given = counts.given; taken = counts.taken; out = counts.out }

abbrev pub cube_out : CubeCounts → CubeOut
cube_out counts = record { executed = counts.executed; dropped = counts.dropped }

-- these, where the direction, the host or the cube is there
abbrev pub tokens_in : FinalValues → (direction : ℕ) → Option TokensOut
tokens_in values direction =
    where_below direction values.directions (Some (tokens_out (values.tokens direction)))

abbrev pub counters_in : FinalValues → (direction : ℕ) → Option CountersOut
counters_in values direction =
    where_below direction values.directions (Some (counters_out (values.counters direction)))

abbrev pub host_in : FinalValues → (host : ℕ) → Option HostOut
host_in values host = where_below host values.hosts (Some (host_out (values.host_counts host)))

abbrev pub cube_in : FinalValues → (cube : ℕ) → Option CubeOut
cube_in values cube = where_below cube values.cubes (Some (cube_out (values.cube_counts cube)))

-- a value is shown, if there is one
abbrev pub ValueShown : {X : Type 0} → (status : ℕ) → Option X → (old new : X) → Type 0
ValueShown status None old new = (status ≡ none) × (new ≡ old)
ValueShown status (Some value) old new = (status ≡ ok) × (new ≡ value)

-- the same of what the steps leave; after a landing that passed nothing is shown
abbrev pub LeftShown : {X : Type 0} → (status : ℕ) → (passed : Bool) → Option X → (old new : X) →
    Type 0
LeftShown status true value old new = (status ≡ over) × (new ≡ old)
LeftShown status false value old new = ValueShown status value old new

-- the same of a line
abbrev pub LeftLineShown : (status written : ℕ) → (passed : Bool) → Option (List ℕ) →
    (old new : List ℕ) → Type 0
LeftLineShown status written true line old new =
    (status ≡ over) × (written ≡ 0) × (new ≡ old)
LeftLineShown status written false line old new = LineShown status written line old new

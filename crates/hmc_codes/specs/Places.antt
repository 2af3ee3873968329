-- The ends of links, and the queues that answers are lifted from.
use Rattle.std.specs.Prelude.{ℕ, Bool, true, false, ◌==◌, ◌&&◌, Option, Some, None}
use Rattle.hmc_codes.specs.declared.lift.Lift.{Lift}
use Rattle.hmc_codes.specs.declared.lift.Lift.TheVariants as lifts
use Rattle.hmc_codes.specs.declared.place.Place.{Place}
use Rattle.hmc_codes.specs.declared.place.Place.TheVariants.{Host, Port}

-- the place is a host
abbrev pub is_host : Place → Bool
is_host (Host host) = true
is_host (Port cube port) = false

-- the number of a host
abbrev pub host_number : Place → Option ℕ
host_number (Host host) = Some host
host_number (Port cube port) = None

-- the number of a port in its cube
abbrev pub port_number : Place → Option ℕ
port_number (Host host) = None
port_number (Port cube port) = Some port

-- one host, or one port of one cube
abbrev pub same_place : Place → Place → Bool
same_place (Host host) (Host other) = host == other
same_place (Port cube port) (Port other other_port) = cube == other && port == other_port
same_place _ _ = false

-- the queue of one vault, or that of the registers
abbrev pub same_lift : Lift → Lift → Bool
same_lift (lifts.Vault v) (lifts.Vault w) = v == w
same_lift lifts.Registers lifts.Registers = true
same_lift _ _ = false

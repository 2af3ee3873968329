-- The steps of the parts of a topology.
use Rattle.std.specs.Prelude.{◌≡◌, ◌<◌, ◌^◌, ℕ, length, Some}
use Rattle.hmc_codes.specs.declared.lift.Lift.{Lift}
use Rattle.hmc_codes.specs.declared.lift.Lift.TheVariants as lifts
use Rattle.hmc_codes.specs.declared.place.Place.TheVariants as places
use Rattle.hmc_schedule.specs.declared.step.Step.{Step}
use Rattle.hmc_schedule.specs.declared.step.Step.TheVariants as steps
use Rattle.hmc_journal.specs.Setup.{Topology, shape_of, cubes_in, hosts_in, directions_in, direction_from}

-- a cube that is there, and a port of it that a link joins
pub record IsPortIn (topology : Topology) (cube port : ℕ) : Type 0 where
  pub some_cube : cube < cubes_in topology
  pub direction : ℕ
  pub joined : direction_from topology (places.Port cube port) ≡ Some direction

-- a cube that is there, and a vault of it
pub record IsVaultIn (topology : Topology) (cube vault : ℕ) : Type 0 where
  pub some_cube : cube < cubes_in topology
  pub some_vault : vault < 2 ^ (shape_of topology cube).vault_bits

-- and a bank of that vault
pub record IsBankIn (topology : Topology) (cube vault bank : ℕ) : Type 0 where
  pub some_vault : IsVaultIn topology cube vault
  pub some_bank : bank < 2 ^ (shape_of topology cube).bank_bits

-- a vault with these answers, or the registers
abbrev pub IsLiftBelow : (vaults : ℕ) → Lift → Type 0
IsLiftBelow vaults (lifts.Vault vault) = vault < vaults
IsLiftBelow vaults lifts.Registers = Unit {0}

-- a cube that is there, and a queue of answers in it
pub record IsLiftIn (topology : Topology) (cube : ℕ) (from : Lift) : Type 0 where
  pub some_cube : cube < cubes_in topology
  pub some_lift : IsLiftBelow (2 ^ (shape_of topology cube).vault_bits) from

-- a direction that is there, and a mask that is as long as a flit
pub record IsLandingIn (topology : Topology) (direction mask : ℕ) : Type 0 where
  pub some_direction : direction < directions_in topology
  pub long : mask ≡ 16

-- a step of a part that is there, or a retirement of any slot
abbrev pub IsStepFor : Topology → Step → Type 0
IsStepFor topology (steps.Give host) = host < hosts_in topology
IsStepFor topology (steps.Send direction) = direction < directions_in topology
IsStepFor topology (steps.Land direction mask) = IsLandingIn topology direction (length mask)
IsStepFor topology (steps.Shift cube port) = IsPortIn topology cube port
IsStepFor topology (steps.Through cube port) = IsPortIn topology cube port
IsStepFor topology (steps.Spread cube vault) = IsVaultIn topology cube vault
IsStepFor topology (steps.Bank cube vault bank) = IsBankIn topology cube vault bank
IsStepFor topology (steps.Registers cube) = cube < cubes_in topology
IsStepFor topology (steps.Lift cube from) = IsLiftIn topology cube from
IsStepFor topology (steps.Take host) = host < hosts_in topology
IsStepFor topology (steps.Unlock direction) = direction < directions_in topology
IsStepFor topology _ = Unit {0}

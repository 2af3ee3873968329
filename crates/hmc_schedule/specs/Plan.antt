-- The parts of a network, and the steps that name them.
use Rattle.std.specs.Prelude.{◌≡◌, ◌<◌, ◌≤◌, ◌*◌, ◌^◌, ℕ, Bool, true, false, List, length, slice_index_or, slice_get}
use Rattle.std.specs.Option.{option_map_or}
use Rattle.hmc_codes.specs.Limits.{most_cubes, most_links, most_hosts, ports}
use Rattle.hmc_codes.specs.Flit.{IsFlit}
use Rattle.hmc_codes.specs.declared.lift.Lift.{Lift}
use Rattle.hmc_codes.specs.declared.lift.Lift.TheVariants as lifts
use Rattle.hmc_schedule.specs.declared.plan.CubePlan.{CubePlan}
use Rattle.hmc_schedule.specs.declared.step.Step.{Step}
use Rattle.hmc_schedule.specs.declared.step.Step.TheVariants as steps

-- a cube, as contracts see it: its shape, and which of its ports a link joins
abbrev pub CubePlanFields : Type 0
CubePlanFields = CubePlan

-- a plan, as contracts see it
pub record PlanFields : Type 0 where
  pub hosts : ℕ
  pub directions : ℕ
  pub cubes : List CubePlanFields

-- what every plan keeps: it has hosts, directions and cubes, as many as a case may have
pub record IsPlan (plan : PlanFields) : Type 0 where
  pub some_hosts : 1 ≤ plan.hosts
  pub hosts : plan.hosts ≤ most_hosts
  pub some_directions : 2 ≤ plan.directions
  pub directions : plan.directions ≤ 2 * most_links
  pub some_cubes : 1 ≤ length plan.cubes
  pub cubes : length plan.cubes ≤ most_cubes

-- whether a link joins this port of this cube
abbrev pub is_joined : PlanFields → ℕ → ℕ → Bool
is_joined plan cube port =
    option_map_or (λ (fields : CubePlanFields). slice_index_or fields.ports port false)
    (slice_get plan.cubes cube) false

-- the number of vaults of this cube; 0 where there is no such cube
abbrev pub vaults_at : PlanFields → ℕ → ℕ
vaults_at plan cube =
    option_map_or (λ (fields : CubePlanFields). 2 ^ fields.shape.vault_bits)
    (slice_get plan.cubes cube) 0

-- the number of banks in each of its vaults
abbrev pub banks_at : PlanFields → ℕ → ℕ
banks_at plan cube =
    option_map_or (λ (fields : CubePlanFields). 2 ^ fields.shape.bank_bits)
    (slice_get plan.cubes cube) 0

-- a cube of the plan, and one of its joined ports
pub record IsPortOf (plan : PlanFields) (cube port : ℕ) : Type 0 where
  pub some_cube : cube < length plan.cubes
  pub some_port : port < ports
  pub joined : is_joined plan cube port ≡ true

-- a cube of the plan, and one of its vaults
pub record IsVaultOf (plan : PlanFields) (cube vault : ℕ) : Type 0 where
  pub some_cube : cube < length plan.cubes
  pub some_vault : vault < vaults_at plan cube

-- a cube of the plan, one of its vaults, and one of that vault's banks
pub record IsBankOf (plan : PlanFields) (cube vault bank : ℕ) : Type 0 where
  pub some_vault : IsVaultOf plan cube vault
  pub some_bank : bank < banks_at plan cube

-- a queue of answers of a cube with so many vaults
abbrev pub IsLiftBelow : ℕ → Lift → Type 0
IsLiftBelow vaults (lifts.Vault vault) = vault < vaults
IsLiftBelow vaults lifts.Registers = Unit {0}

-- a cube of the plan, and one of its queues of answers
pub record IsLiftOf (plan : PlanFields) (cube : ℕ) (lift : Lift) : Type 0 where
  pub some_cube : cube < length plan.cubes
  pub some_lift : IsLiftBelow (vaults_at plan cube) lift

-- the slots of logic units
abbrev pub slots : ℕ
slots = 8

-- each number that the step names is one of the plan, or of a slot
abbrev pub IsStepOf : PlanFields → Step → Type 0
IsStepOf plan (steps.Give host) = host < plan.hosts
IsStepOf plan (steps.Send direction) = direction < plan.directions
IsStepOf plan (steps.Land direction mask) = direction < plan.directions
IsStepOf plan (steps.Shift cube port) = IsPortOf plan cube port
IsStepOf plan (steps.Spread cube vault) = IsVaultOf plan cube vault
IsStepOf plan (steps.Bank cube vault bank) = IsBankOf plan cube vault bank
IsStepOf plan (steps.Registers cube) = cube < length plan.cubes
IsStepOf plan (steps.Lift cube lift) = IsLiftOf plan cube lift
IsStepOf plan (steps.Take host) = host < plan.hosts
IsStepOf plan (steps.Through cube port) = IsPortOf plan cube port
IsStepOf plan (steps.Unlock direction) = direction < plan.directions
IsStepOf plan (steps.Retire slot) = slot < slots

-- the mask of a landing is as long as a flit
abbrev pub HasFlit : Step → Type 0
HasFlit (steps.Land direction mask) = IsFlit mask
HasFlit step = Unit {0}

-- a step of the plan, with a mask as long as a flit if it has one
pub record IsWorking (plan : PlanFields) (step : Step) : Type 0 where
  pub within : IsStepOf plan step
  pub mask : HasFlit step

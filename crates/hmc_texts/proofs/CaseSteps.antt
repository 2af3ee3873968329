-- The numbers of a case's steps fit their types: each names a part of its topology, or a slot.
use Rattle.std.proofs.Common.{◌<◌, ◌^◌, ℕ, Option, List, [], arith}
use Rattle.std.specs.Prelude.{slice_index_or}
use Rattle.hmc_codes.specs.declared.lift.Lift.{Lift}
use Rattle.hmc_codes.specs.declared.lift.Lift.TheVariants as lifts
use Rattle.hmc_units.specs.Unit.{UnitFields}
use Rattle.hmc_schedule.specs.Plan.{PlanFields, IsStepOf}
use Rattle.hmc_schedule.specs.declared.step.Step.{Step}
use Rattle.hmc_schedule.specs.declared.step.Step.TheVariants as steps
use Rattle.hmc_case.specs.Plan.{plan_of}
use Rattle.hmc_entries.specs.Parse.{IsLift, IsStep}
use Rattle.hmc_journal.specs.Network.{IsNetwork}
use Rattle.hmc_journal.specs.Setup.{Setup, setup_of, shape_of}
use Rattle.hmc_journal.proofs.Networks.{network_of}
use Rattle.hmc_wiring.specs.Ready.{IsPortIn, IsVaultIn, IsLiftBelow, IsStepFor}
use Rattle.hmc_wiring.proofs.Cases.{steps_fit}
use Rattle.hmc_texts.specs.Texts.{CaseStepsFit}
use Rattle.hmc_texts.proofs.Fitting.{few_bits, small_power, port_few}

vault_small : (setup : Setup) (cube vault : ℕ) → IsNetwork setup →
    vault < 2 ^ (shape_of setup.topology cube).vault_bits → vault < 256
vault_small setup cube vault network less =
    small_power (shape_of setup.topology cube).vault_bits vault
    (few_bits setup.topology.cubes cube network.cubes).vaults less

bank_small : (setup : Setup) (cube bank : ℕ) → IsNetwork setup →
    bank < 2 ^ (shape_of setup.topology cube).bank_bits → bank < 256
bank_small setup cube bank network less =
    small_power (shape_of setup.topology cube).bank_bits bank
    (few_bits setup.topology.cubes cube network.cubes).banks less

lift_small : (setup : Setup) (cube : ℕ) (from : Lift) → IsNetwork setup →
    IsLiftBelow (2 ^ (shape_of setup.topology cube).vault_bits) from → IsLift from
lift_small setup cube (lifts.Vault vault) network less = vault_small setup cube vault network less
lift_small setup cube lifts.Registers network less = tt

port_small : (setup : Setup) (cube port : ℕ) → IsNetwork setup →
    IsPortIn setup.topology cube port → (cube < 256) × (port < 256)
port_small setup cube port network is =
    let few = network.graph.few_cubes in
    let small = port_few setup cube port is.direction network is.joined in
    (omega (arith, is.some_cube), omega arith)

cube_small : (setup : Setup) (cube vault : ℕ) → IsNetwork setup →
    IsVaultIn setup.topology cube vault → (cube < 256) × (vault < 256)
cube_small setup cube vault network is =
    let few = network.graph.few_cubes in
    (omega (arith, is.some_cube), vault_small setup cube vault network is.some_vault)

-- the slot of a retirement, which no topology has
abbrev FitsSlot : Step → Type 0
FitsSlot (steps.Retire slot) = slot < 256
FitsSlot step = Unit {0}

slot_fits : (plan : PlanFields) (step : Step) → IsStepOf plan step → FitsSlot step
slot_fits plan (steps.Retire slot) is = omega arith
slot_fits plan (steps.Give host) is = tt
slot_fits plan _ is = tt

step_fits : (setup : Setup) (step : Step) → IsNetwork setup → IsStepFor setup.topology step →
    FitsSlot step → IsStep step
step_fits setup (steps.Give host) network is slot =
    let few = network.few_hosts in omega arith
step_fits setup (steps.Send direction) network is slot =
    let few = network.few_links in omega arith
step_fits setup (steps.Land direction mask) network is slot =
    let few = network.few_links in omega (arith, is.some_direction)
step_fits setup (steps.Shift cube port) network is slot = port_small setup cube port network is
step_fits setup (steps.Spread cube vault) network is slot = cube_small setup cube vault network is
step_fits setup (steps.Bank cube vault bank) network is slot =
    let both = cube_small setup cube vault network is.some_vault in
    (both.0, both.1, bank_small setup cube bank network is.some_bank)
step_fits setup (steps.Registers cube) network is slot =
    let few = network.graph.few_cubes in omega arith
step_fits setup (steps.Lift cube from) network is slot =
    let few = network.graph.few_cubes in
    (omega (arith, is.some_cube), lift_small setup cube from network is.some_lift)
step_fits setup (steps.Take host) network is slot =
    let few = network.few_hosts in omega arith
step_fits setup (steps.Through cube port) network is slot = port_small setup cube port network is
step_fits setup (steps.Unlock direction) network is slot =
    let few = network.few_links in omega arith
step_fits setup (steps.Retire number) network is slot = slot

-- the steps are the same whatever the logic units are
no_slots : List (Option UnitFields)
no_slots = []

pub case_steps_fit : CaseStepsFit
case_steps_fit case is = λ k d there.
    step_fits (setup_of case no_slots) (slice_index_or case.schedule k d)
    (network_of case no_slots is) (steps_fit case no_slots is k d there)
    (slot_fits (plan_of case.net) (slice_index_or case.schedule k d) (is.schedule k d there))

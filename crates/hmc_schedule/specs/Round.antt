-- A round: every part of the network takes one step, in a fixed order.
use Rattle.std.specs.Prelude.{ℕ, List, [], ◌∷◌, ◌++◌, length, map, filter, replicate}
use Rattle.std.specs.List.{flat_map}
use Rattle.hmc_codes.specs.Limits.{ports}
use Rattle.hmc_codes.specs.Numbers.{upto}
use Rattle.hmc_codes.specs.declared.lift.Lift.TheVariants as lifts
use Rattle.hmc_schedule.specs.declared.round.Each.{Each}
use Rattle.hmc_schedule.specs.declared.round.Each.TheVariants as each
use Rattle.hmc_schedule.specs.declared.round.Part.{Part}
use Rattle.hmc_schedule.specs.declared.round.Part.TheVariants.{Shifts, Spreads, Banks, Lifts}
use Rattle.hmc_schedule.specs.declared.step.Step.{Step}
use Rattle.hmc_schedule.specs.declared.step.Step.TheVariants.{Give, Send, Land, Shift, Spread, Bank, Registers, Lift, Take}
use Rattle.hmc_schedule.specs.Plan.{PlanFields, is_joined, vaults_at, banks_at}
use Rattle.hmc_codes.specs.Flit.{zero_flit}

-- a cube's joined ports
unfoldable pub shifts_of : PlanFields → ℕ → List Step
shifts_of plan cube = map (Shift cube) (filter (is_joined plan cube) (upto ports))

-- a cube's vaults
unfoldable pub spreads_of : PlanFields → ℕ → List Step
spreads_of plan cube = map (Spread cube) (upto (vaults_at plan cube))

-- a cube's banks, vault by vault
unfoldable pub banks_of : PlanFields → ℕ → List Step
banks_of plan cube =
    flat_map (λ vault. map (Bank cube vault) (upto (banks_at plan cube)))
    (upto (vaults_at plan cube))

-- a cube's answers: those of its vaults, then those of its registers
unfoldable pub lifts_of : PlanFields → ℕ → List Step
lifts_of plan cube =
    map (λ vault. Lift cube (lifts.Vault vault)) (upto (vaults_at plan cube))
    ++ Lift cube lifts.Registers ∷ []

-- what each host, each direction or the registers of each cube do in a round
abbrev pub each_of : Each → ℕ → Step
each_of each.Give = Give
each_of each.Send = Send
each_of each.Land = λ direction. Land direction zero_flit
each_of each.Registers = Registers
each_of each.Take = Take

-- the steps of a round
unfoldable pub round_of : PlanFields → List Step
round_of plan =
    let cubes = upto (length plan.cubes) in
    map Give (upto plan.hosts) ++
    map Send (upto plan.directions) ++
    map (λ direction. Land direction zero_flit) (upto plan.directions) ++
    flat_map (shifts_of plan) cubes ++
    flat_map (spreads_of plan) cubes ++
    flat_map (banks_of plan) cubes ++
    map Registers cubes ++
    flat_map (lifts_of plan) cubes ++
    map Take (upto plan.hosts)

-- some steps, n times one after another
abbrev pub repeated : ℕ → List Step → List Step
repeated n steps = flat_map (λ round. round) (replicate n steps)

-- n rounds, one after another, without noise
unfoldable pub rounds_of : PlanFields → ℕ → List Step
rounds_of plan n = repeated n (round_of plan)

-- the steps of a part of a cube in a round
abbrev pub part_of : Part → PlanFields → ℕ → List Step
part_of Shifts = shifts_of
part_of Spreads = spreads_of
part_of Banks = banks_of
part_of Lifts = lifts_of

-- The rounds have room.
use Rattle.std.proofs.Common.{◌≡◌, ◌≤◌, ◌∙◌, ℕ, ◌+◌, ◌*◌, List, [], ◌++◌, length, Option, Some, refl, ap, arith, length-append}
use Rattle.hmc_codes.specs.Limits.{most_steps}
use Rattle.hmc_make.proofs.ChainLemmas.{short_round}
use Rattle.hmc_make.specs.Chain.{chain_of}
use Rattle.hmc_make.specs.Steps.{mask, steps_of}
use Rattle.hmc_case.specs.Plan.{plan_of}
use Rattle.hmc_schedule.proofs.NoiseLemmas.{noisy_if-length}
use Rattle.hmc_schedule.proofs.WrittenLemmas.{length-rounds}
use Rattle.hmc_schedule.specs.Noise.{new_noise, noisy_if}
use Rattle.hmc_schedule.specs.Plan.{PlanFields}
use Rattle.hmc_schedule.specs.Round.{round_of, rounds_of}
use Rattle.hmc_schedule.specs.declared.noise.Noise.{Noise}
use Rattle.hmc_schedule.specs.declared.step.Step.{Step}

length-noisy_rounds : (noise : Option Noise) (plan : PlanFields) (n : ℕ) → length (noisy_if noise (rounds_of plan n)) ≡ n * length (round_of plan)
unfolding rounds_of
length-noisy_rounds noise plan n = noisy_if-length noise (rounds_of plan n) ∙ length-rounds n (round_of plan)

short : (cubes : ℕ) (plan : PlanFields) → 1 ≤ cubes → cubes ≤ 4 → plan ≡ plan_of (chain_of cubes) → length (round_of plan) ≤ 65
short cubes plan some few is = rw is (short_round cubes some few)

pub first_room : (cubes : ℕ) (plan : PlanFields) (old : List Step) → 1 ≤ cubes → cubes ≤ 4 → plan ≡ plan_of (chain_of cubes) → old ≡ [] → length old + 4000 * length (round_of plan) ≤ most_steps
first_room cubes plan old some few is none =
    let few_steps = short cubes plan some few is in
    let empty : length old ≡ 0 = ap length none in
    omega arith

pub second_room : (cubes : ℕ) (plan : PlanFields) (old new : List Step) (noise : Option Noise) → 1 ≤ cubes → cubes ≤ 4 → plan ≡ plan_of (chain_of cubes) → old ≡ [] → new ≡ old ++ noisy_if noise (rounds_of plan 4000) → length new + 2000 * length (round_of plan) ≤ most_steps
second_room cubes plan old new noise some few is none grown =
    let few_steps = short cubes plan some few is in
    let empty : length old ≡ 0 = ap length none in
    let len : length new ≡ length old + length (noisy_if noise (rounds_of plan 4000)) = ap length grown ∙ length-append old (noisy_if noise (rounds_of plan 4000)) in
    let more = length-noisy_rounds noise plan 4000 in
    omega arith

-- all steps
pub steps_are : (plan chain : PlanFields) (old first all : List Step) → plan ≡ chain → old ≡ [] → first ≡ old ++ noisy_if (Some (new_noise (2003, mask))) (rounds_of plan 4000) → all ≡ first ++ rounds_of plan 2000 → all ≡ steps_of chain
unfolding steps_of
steps_are plan chain old first all is none noisy quiet = rw (quiet, noisy, none, is) refl

-- The case of each number keeps what every case keeps.
use Rattle.std.proofs.Common.{◌≡◌, ◌≤◌, ◌*◌, ◌%◌, ◌∙◌, ℕ, zero, suc, false, Some, None, List, [], ◌∷◌, length, replicate, refl, ap, arith, lit<}
use Rattle.std.specs.List.{All}
use Rattle.std.proofs.lemmas.List.Elements.{All-nil, All-cons}
use Rattle.hmc_codes.proofs.BytesLemmas.{IsBytes-append, IsBytes-zeros}
use Rattle.hmc_codes.specs.Bytes.{IsBytes}
use Rattle.hmc_codes.specs.Commands.{family_of, payload_len_of}
use Rattle.hmc_codes.specs.Flit.{IsFlit}
use Rattle.hmc_codes.specs.Limits.{most_cubes}
use Rattle.hmc_codes.specs.Request.{IsRequest}
use Rattle.hmc_codes.specs.Table.{table_line}
use Rattle.hmc_codes.specs.Text.{is_mdwr}
use Rattle.hmc_codes.specs.declared.command.Command.{Command}
use Rattle.hmc_codes.specs.declared.command.Command.TheVariants.{Wr16, Rd16, Wr64, Rd64, Add16, Inc8}
use Rattle.hmc_codes.specs.declared.family.Family.TheVariants as families
use Rattle.hmc_script.proofs.PayloadLemmas.{payload_of_another}
use Rattle.hmc_script.specs.Items.{ItemFields, IsScript}
use Rattle.hmc_script.specs.Payload.{IsPayload}
use Rattle.hmc_schedule.proofs.WorkLemmas.{rounds_within, rounds_masks}
use Rattle.hmc_schedule.specs.Noise.{new_noise, noisy_if}
use Rattle.hmc_schedule.specs.Plan.{PlanFields, IsStepOf, HasFlit}
use Rattle.hmc_schedule.specs.Round.{rounds_of}
use Rattle.hmc_schedule.specs.declared.step.Step.{Step}
use Rattle.hmc_case.specs.Case.{IsCase}
use Rattle.hmc_case.specs.Plan.{plan_of}
use Rattle.hmc_make.proofs.ChainLemmas.{chain-net, script_of_parts}
use Rattle.hmc_make.proofs.RequestLemmas.{length-drawn, drawn-are, items-within}
use Rattle.hmc_make.specs.Chain.{cube, links_of, chain_of}
use Rattle.hmc_make.specs.Draws.{next, drawn, drawn_bytes}
use Rattle.hmc_make.specs.Numbered.{cube_count, case_of_number}
use Rattle.hmc_make.specs.Requests.{commands, command_of, payload_draws, request_from, after_request, item_of, items_from}
use Rattle.hmc_make.specs.Steps.{mask, steps_of}

-- requests

-- a command that is drawn: its payload, if it has one, is made of whole draws
record IsDrawn (command : Command) : Type 0 where
  asks : family_of command ≡ families.Ask
  whole : 4 * payload_draws command ≡ payload_len_of command
  other : is_mdwr command ≡ false

all_drawn : All IsDrawn commands
unfolding table_line
all_drawn =
    All-cons IsDrawn Wr16 (Rd16 ∷ Wr64 ∷ Rd64 ∷ Add16 ∷ Inc8 ∷ []) (by refl refl refl)
    (All-cons IsDrawn Rd16 (Wr64 ∷ Rd64 ∷ Add16 ∷ Inc8 ∷ []) (by refl refl refl)
    (All-cons IsDrawn Wr64 (Rd64 ∷ Add16 ∷ Inc8 ∷ []) (by refl refl refl)
    (All-cons IsDrawn Rd64 (Add16 ∷ Inc8 ∷ []) (by refl refl refl)
    (All-cons IsDrawn Add16 (Inc8 ∷ []) (by refl refl refl)
    (All-cons IsDrawn Inc8 [] (by refl refl refl) (All-nil IsDrawn))))))
  where
    by : {command : Command} → family_of command ≡ families.Ask
        → 4 * payload_draws command ≡ payload_len_of command → is_mdwr command ≡ false
        → IsDrawn command
    by asks whole other = record { asks = asks; whole = whole; other = other }

command_drawn : (number : ℕ) → IsDrawn (command_of number)
unfolding command_of
command_drawn number = all_drawn (number % 6) Wr16 (omega arith)

payload_fits : (command : Command) (state : ℕ) → IsDrawn command
    → IsPayload command (drawn_bytes (payload_draws command) state)
payload_fits command state is =
    let draws = payload_draws command in
    let bytes = drawn_bytes draws state in
    payload_of_another (λ (p : List ℕ). p) command (Some bytes) is.other
    (length-drawn bytes draws state refl ∙ is.whole)
    (drawn-are bytes draws state refl)

request_good : (cubes state : ℕ) → 1 ≤ cubes → cubes ≤ most_cubes
    → IsRequest (request_from cubes state)
unfolding request_from
request_good cubes state some few =
    let command = command_of (drawn state) in
    let is = command_drawn (drawn state) in
    let fits = payload_fits command (next (next (next state))) is in
    record {
      asks = is.asks;
      cube = omega arith;
      address = omega arith;
      payload = fits.length;
      bytes = fits.bytes;
      zeros = fits.zeros;
    }

-- scripts

abbrev IsGood : ItemFields → Type 0
IsGood item = IsRequest item.request

items_good : (requests cubes state : ℕ) → 1 ≤ cubes → cubes ≤ most_cubes
    → All IsGood (items_from requests cubes state)
unfolding items_from
items_good zero cubes state some few = All-nil IsGood
items_good (suc requests) cubes state some few =
    let later = after_request state in
    All-cons IsGood (item_of (request_from cubes state)) (items_from requests cubes later)
    (request_good cubes state some few) (items_good requests cubes later some few)

length-items : (requests cubes state : ℕ) → length (items_from requests cubes state) ≡ requests
unfolding items_from
length-items zero cubes state = refl
length-items (suc requests) cubes state = ap suc (length-items requests cubes (after_request state))

script_good : (cubes state : ℕ) → 1 ≤ cubes → cubes ≤ most_cubes
    → IsScript (items_from 200 cubes state)
script_good cubes state some few = record {
  few = omega (arith, length-items 200 cubes state);
  hosts = λ k d inside.
      let within = items-within 200 cubes state some k d inside in
      omega (arith, within.host);
  requests = items_good 200 cubes state some few;
}

-- schedules

mask_is_flit : IsFlit mask
mask_is_flit = record {
  bytes = IsBytes-append (replicate 15 0) (1 ∷ []) (IsBytes-zeros 15) one;
  long = refl;
}
  where
    one : IsBytes (1 ∷ [])
    one zero = lit< tt
    one (suc k) = lit< tt

-- the rounds with noise
abbrev noisy_rounds : PlanFields → List Step
noisy_rounds plan = noisy_if (Some (new_noise (2003, mask))) (rounds_of plan 4000)

steps_within : (plan : PlanFields) → All (IsStepOf plan) (steps_of plan)
unfolding steps_of
steps_within plan =
    rounds_within plan None 2000 (noisy_rounds plan) tt
    (rounds_within plan (Some (2003, mask)) 4000 [] mask_is_flit (All-nil (IsStepOf plan)))

steps_masked : (plan : PlanFields) → All HasFlit (steps_of plan)
unfolding steps_of
steps_masked plan =
    rounds_masks plan None 2000 (noisy_rounds plan) tt
    (rounds_masks plan (Some (2003, mask)) 4000 [] mask_is_flit (All-nil HasFlit))

-- cases

pub made_is_case : (number : ℕ) → IsCase (case_of_number number)
unfolding case_of_number
made_is_case number =
    let cubes = cube_count number in
    let some : 1 ≤ cubes = omega arith in
    let few : cubes ≤ 4 = omega arith in
    let setups = replicate cubes cube in
    let items = items_from 200 cubes number in
    let within = items-within 200 cubes number some in
    record {
      net = chain-net cubes some few;
      requests = script_good cubes number some (omega (arith, few));
      script = script_of_parts cubes setups (links_of cubes) items some few refl refl within;
      schedule = steps_within (plan_of (chain_of cubes));
      masks = steps_masked (plan_of (chain_of cubes));
    }

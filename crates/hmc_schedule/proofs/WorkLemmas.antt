-- Every step of a round is one of the plan.
use Rattle.std.proofs.Common.{◌≡◌, ◌∙◌, ◌<◌, ◌≤◌, ◌+◌, ◌++◌, nat_le, Option, Some, None, IfSome, option_map, Result, Ok, Err, ap, arith, length-append, ℕ, zero, suc, Bool, true, false, cond, List, [], ◌∷◌, length, map, filter, get_or, replicate, refl, sym, subst, zero-add}
use Rattle.std.specs.List.{All, flat_map}
use Rattle.std.proofs.lemmas.Bool.Decides.{nat_tests}
use Rattle.std.proofs.lemmas.List.Elements.{All-nil, All-cons, All-head, All-tail, All-append, All-map}
use Rattle.std.proofs.lemmas.List.FromFn.{length-range_with_len, get_or-range_with_len}
use Rattle.hmc_codes.specs.declared.lift.Lift.TheVariants as lifts
use Rattle.hmc_codes.proofs.BytesLemmas.{IsBytes-zeros}
use Rattle.hmc_codes.specs.Flit.{IsFlit, zero_flit}
use Rattle.hmc_schedule.specs.declared.meaning.Meaning.{Meaning}
use Rattle.hmc_schedule.specs.declared.meaning.Meaning.TheVariants.{Nothing, One, Rounds, Noisy}
use Rattle.hmc_schedule.specs.declared.step.Step.{Step}
use Rattle.hmc_schedule.specs.declared.step.Step.TheVariants.{Give, Send, Land, Shift, Spread, Bank, Registers, Lift, Take}
use Rattle.hmc_schedule.specs.declared.noise.Noise.{Noise}
use Rattle.hmc_schedule.specs.Meaning.{IsMeaning}
use Rattle.hmc_schedule.specs.Noise.{lands_in, new_noise, counted, noisy_if, IsNoise}
use Rattle.hmc_schedule.proofs.NoiseLemmas.{lands-le, noisy_if-length, noisy_if-works}
use Rattle.hmc_schedule.specs.Plan.{PlanFields, IsStepOf, HasFlit, IsWorking, is_joined, vaults_at, banks_at}
use Rattle.hmc_schedule.specs.Round.{shifts_of, spreads_of, banks_of, lifts_of, round_of, rounds_of}
use Rattle.hmc_codes.specs.Numbers.{upto}
use Rattle.hmc_codes.specs.Limits.{most_steps}
use Rattle.hmc_text.specs.Reading.{◌>>=◌}
use Rattle.hmc_schedule.specs.declared.fault.ScheduleKind.{ScheduleKind}
use Rattle.hmc_schedule.specs.declared.fault.ScheduleKind.TheVariants.{Steps}
use Rattle.hmc_schedule.specs.Schedule.{Progress, add_steps, add_rounds, add_one, after_meaning, IsProgress}

upto_all : (Q : ℕ → Type 0) (n : ℕ) → ((i : ℕ) → i < n → Q i) → All Q (upto n)
upto_all Q n each k d within =
    let small : k < n = rw (← length-range_with_len 0 n) within in
    let at : get_or (upto n) k d ≡ k = get_or-range_with_len 0 n k d small ∙ zero-add k in
    subst Q (sym at) (each k small)

map_all : (P : Step → Type 0) (f : ℕ → Step) (n : ℕ) → ((i : ℕ) → i < n → P (f i)) → All P (map f (upto n))
map_all P f n each = All-map P f (upto n) (upto_all (λ i. P (f i)) n each)

flat_all : (P : Step → Type 0) (f : ℕ → List Step) (xs : List ℕ) → All (λ i. All P (f i)) xs → All P (flat_map f xs)
flat_all P f [] all = All-nil P
flat_all P f (x ∷ xs) all =
    All-append P (f x) (flat_map f xs) (All-head (λ i. All P (f i)) x xs all) (flat_all P f xs (All-tail (λ i. All P (f i)) x xs all))

each_all : (P : Step → Type 0) (f : ℕ → List Step) (n : ℕ) → ((i : ℕ) → i < n → All P (f i)) → All P (flat_map f (upto n))
each_all P f n each = flat_all P f (upto n) (upto_all (λ i. All P (f i)) n each)

-- what passes the test, and was known where the test passes
filter_all : (p : ℕ → Bool) (Q : ℕ → Type 0) (xs : List ℕ) → All (λ i. p i ≡ true → Q i) xs → All Q (filter p xs)
filter_all p Q [] all = All-nil Q
filter_all p Q (x ∷ xs) all =
    by_test (p x) refl (filter_all p Q xs (All-tail (λ i. p i ≡ true → Q i) x xs all)) where
      by_test : (passes : Bool) → p x ≡ passes → All Q (filter p xs) → All Q (cond passes (x ∷ filter p xs) (filter p xs))
      by_test true is later = All-cons Q x (filter p xs) (All-head (λ i. p i ≡ true → Q i) x xs all is) later
      by_test false is later = later

repeated_all : (P : Step → Type 0) (n : ℕ) (round : List Step) → All P round → All P (flat_map (λ l. l) (replicate n round))
repeated_all P zero round all = All-nil P
repeated_all P (suc n) round all =
    All-append P round (flat_map (λ l. l) (replicate n round)) all (repeated_all P n round all)

shifts_work : (plan : PlanFields) (cube : ℕ) → cube < length plan.cubes → All (IsWorking plan) (shifts_of plan cube)
unfolding shifts_of
shifts_work plan cube some =
    let P = IsWorking plan in
    All-map P (Shift cube) (filter (is_joined plan cube) (upto 4))
    (filter_all (is_joined plan cube) (λ port. P (Shift cube port)) (upto 4) (upto_all (λ port. is_joined plan cube port ≡ true → P (Shift cube port)) 4 (λ port small joined. record { within = record { some_cube = some; some_port = small; joined = joined }; mask = tt })))

spreads_work : (plan : PlanFields) (cube : ℕ) → cube < length plan.cubes → All (IsWorking plan) (spreads_of plan cube)
unfolding spreads_of
spreads_work plan cube some =
    map_all (IsWorking plan) (Spread cube) (vaults_at plan cube) (λ vault small. record { within = record { some_cube = some; some_vault = small }; mask = tt })

banks_work : (plan : PlanFields) (cube : ℕ) → cube < length plan.cubes → All (IsWorking plan) (banks_of plan cube)
unfolding banks_of
banks_work plan cube some =
    each_all (IsWorking plan) (λ vault. map (Bank cube vault) (upto (banks_at plan cube))) (vaults_at plan cube) (λ vault in_cube. map_all (IsWorking plan) (Bank cube vault) (banks_at plan cube) (λ bank in_vault. record { within = record { some_vault = record { some_cube = some; some_vault = in_cube }; some_bank = in_vault }; mask = tt }))

lifts_work : (plan : PlanFields) (cube : ℕ) → cube < length plan.cubes → All (IsWorking plan) (lifts_of plan cube)
unfolding lifts_of
lifts_work plan cube some =
    let P = IsWorking plan in
    let last : P (Lift cube lifts.Registers) = record { within = record { some_cube = some; some_lift = tt }; mask = tt } in
    All-append P (map (λ vault. Lift cube (lifts.Vault vault)) (upto (vaults_at plan cube))) (Lift cube lifts.Registers ∷ [])
    (map_all P (λ vault. Lift cube (lifts.Vault vault)) (vaults_at plan cube) (λ vault small. record { within = record { some_cube = some; some_lift = small }; mask = tt }))
    (All-cons P (Lift cube lifts.Registers) [] last (All-nil P))

zero_mask : IsFlit zero_flit
unfolding zero_flit
zero_mask = record { long = refl; bytes = IsBytes-zeros 16 }

round_works : (plan : PlanFields) → All (IsWorking plan) (round_of plan)
unfolding round_of
round_works plan =
    let P = IsWorking plan in
    let n = length plan.cubes in
    All-append P _ _ (All-append P _ _ (All-append P _ _ (All-append P _ _ (All-append P _ _ (All-append P _ _ (All-append P _ _ (All-append P _ _
    (map_all P Give plan.hosts (λ host small. record { within = small; mask = tt }))
    (map_all P Send plan.directions (λ direction small. record { within = small; mask = tt })))
    (map_all P (λ direction. Land direction zero_flit) plan.directions (λ direction small. record { within = small; mask = zero_mask })))
    (each_all P (shifts_of plan) n (shifts_work plan)))
    (each_all P (spreads_of plan) n (spreads_work plan)))
    (each_all P (banks_of plan) n (banks_work plan)))
    (map_all P Registers n (λ cube small. record { within = small; mask = tt })))
    (each_all P (lifts_of plan) n (lifts_work plan)))
    (map_all P Take plan.hosts (λ host small. record { within = small; mask = tt }))

repeated_works : (plan : PlanFields) (n : ℕ) → All (IsWorking plan) (rounds_of plan n)
unfolding rounds_of
repeated_works plan n = repeated_all (IsWorking plan) n (round_of plan) (round_works plan)

-- what it means that more steps were added
pub add_steps-ok : (steps more new : List Step) → add_steps steps more ≡ Ok new → (new ≡ steps ++ more) × (length steps + length more ≤ most_steps)
unfolding add_steps
add_steps-ok steps more new is =
    by_room (nat_le (length steps + length more) most_steps) refl is where
      by_room : (room : Bool) → nat_le (length steps + length more) most_steps ≡ room → cond {A = Result (List Step) ScheduleKind} room (Ok (steps ++ more)) (Err Steps) ≡ Ok new → (new ≡ steps ++ more) × (length steps + length more ≤ most_steps)
      by_room true fits is = (cc, grind (arith, nat_tests))
      by_room false full is = absurd (cc)

-- noise that counted no more landings than there were steps counted no more than there are
noise_kept : (noise : Option Noise) (n m : ℕ) → n ≤ m → IfSome noise (IsNoise n) → IfSome noise (IsNoise m)
noise_kept None n m le is = tt
noise_kept (Some noise) n m le is = record { some = is.some; few = omega (arith, is.few, le); mask = is.mask }

noise_counted : (noise : Option Noise) (n m more : ℕ) → n + more ≤ m → IfSome noise (IsNoise n) → IfSome (option_map (counted more) noise) (IsNoise m)
noise_counted None n m more le is = tt
noise_counted (Some noise) n m more le is =
    record { some = is.some; few = omega (arith, is.few, le); mask = is.mask }

noise_mask : (noise : Option Noise) (n : ℕ) → IfSome noise (IsNoise n) → (one : Noise) → noise ≡ Some one → IsFlit one.mask
noise_mask None n is one same = absurd (cc (same))
noise_mask (Some noise) n is one same =
    let equal : noise ≡ one = cc (same) in subst (λ (o : Noise). IsFlit o.mask) equal is.mask

one_added : (plan : PlanFields) (progress new : Progress) (step : Step) → IsProgress plan progress → IsWorking plan step → add_one progress step ≡ Ok new → IsProgress plan new
unfolding add_one
one_added plan progress new step is works made =
    by_added (add_steps progress.steps (step ∷ [])) refl made where
      by_added : (r : Result (List Step) ScheduleKind) → add_steps progress.steps (step ∷ []) ≡ r → (r >>= (λ steps. Ok (record progress { steps = steps }))) ≡ Ok new → IsProgress plan new
      by_added (Err kind) added made = absurd (cc (made))
      by_added (Ok steps) added made =
          let all = add_steps-ok progress.steps (step ∷ []) steps added in
          let long : length steps ≡ length progress.steps + 1 = ap length all.0 ∙ length-append progress.steps (step ∷ []) in
          let same : record progress { steps = steps } ≡ new = cc (made) in
          subst (IsProgress plan) same record {
            few = omega (arith, all.1, long);
            works = subst (All (IsWorking plan)) (sym all.0) (All-append (IsWorking plan) progress.steps (step ∷ []) is.works (All-cons (IsWorking plan) step [] works (All-nil (IsWorking plan))));
            noise = noise_kept progress.noise (length progress.steps) (length steps) (omega (arith, long)) is.noise;
          }

rounds_added : (plan : PlanFields) (progress new : Progress) (rounds : List Step) → IsProgress plan progress → All (IsWorking plan) rounds → add_rounds progress rounds ≡ Ok new → IsProgress plan new
unfolding add_rounds
rounds_added plan progress new rounds is works made =
    by_added (add_steps progress.steps (noisy_if progress.noise rounds)) refl made where
      by_added : (r : Result (List Step) ScheduleKind) → add_steps progress.steps (noisy_if progress.noise rounds) ≡ r → (r >>= (λ steps. Ok (record { steps = steps; noise = option_map (counted (lands_in rounds)) progress.noise }))) ≡ Ok new → IsProgress plan new
      by_added (Err kind) added made = absurd (cc (made))
      by_added (Ok steps) added made =
          let more = noisy_if progress.noise rounds in
          let all = add_steps-ok progress.steps more steps added in
          let long : length steps ≡ length progress.steps + length more = ap length all.0 ∙ length-append progress.steps more in
          let same : record { steps = steps; noise = option_map (counted (lands_in rounds)) progress.noise } ≡ new = cc (made) in
          subst (IsProgress plan) same record {
            few = omega (arith, all.1, long);
            works = subst (All (IsWorking plan)) (sym all.0) (All-append (IsWorking plan) progress.steps more is.works (noisy_if-works plan progress.noise rounds (noise_mask progress.noise (length progress.steps) is.noise) works));
            noise = noise_counted progress.noise (length progress.steps) (length steps) (lands_in rounds) (omega (arith, long, noisy_if-length progress.noise rounds, lands-le rounds)) is.noise;
          }

-- what a line states keeps it
pub still_progress : (plan : PlanFields) (progress new : Progress) (meaning : Meaning) → IsProgress plan progress → IsMeaning plan meaning → after_meaning plan progress meaning ≡ Ok new → IsProgress plan new
still_progress plan progress new Nothing is works made =
    let same : progress ≡ new = cc (made) in subst (IsProgress plan) same is
still_progress plan progress new (One step) is works made =
    one_added plan progress new step is works made
still_progress plan progress new (Rounds n) is works made =
    rounds_added plan progress new (rounds_of plan n) is (repeated_works plan n) made
still_progress plan progress new (Noisy noise) is works made =
    let same : record progress { noise = noise } ≡ new = cc (made) in
    subst (IsProgress plan) same record {
      few = is.few;
      works = is.works;
      noise = noise_kept noise 0 (length progress.steps) (omega arith) works;
    }

some_mask : (noise : Option Noise) → IfSome noise (λ n. IsFlit n.mask) → (one : Noise) → noise ≡ Some one → IsFlit one.mask
some_mask None long one same = absurd (cc (same))
some_mask (Some noise) long one same =
    let equal : noise ≡ one = cc (same) in subst (λ (o : Noise). IsFlit o.mask) equal long

rounds_work : (plan : PlanFields) (noise : Option (ℕ × List ℕ)) (n : ℕ) → IfSome (option_map new_noise noise) (λ n. IsFlit n.mask) → All (IsWorking plan) (noisy_if (option_map new_noise noise) (rounds_of plan n))
rounds_work plan noise n long =
    noisy_if-works plan (option_map new_noise noise) (rounds_of plan n) (some_mask (option_map new_noise noise) long) (repeated_works plan n)

-- rounds that are appended name parts of the plan
pub rounds_within : (plan : PlanFields) (noise : Option (ℕ × List ℕ)) (n : ℕ) (before : List Step) → IfSome (option_map new_noise noise) (λ n. IsFlit n.mask) → All (IsStepOf plan) before → All (IsStepOf plan) (before ++ noisy_if (option_map new_noise noise) (rounds_of plan n))
rounds_within plan noise n before long all =
    let work = rounds_work plan noise n long in
    All-append (IsStepOf plan) before (noisy_if (option_map new_noise noise) (rounds_of plan n)) all (λ k d small. (work k d small).within)

-- and have masks as long as a flit
pub rounds_masks : (plan : PlanFields) (noise : Option (ℕ × List ℕ)) (n : ℕ) (before : List Step) → IfSome (option_map new_noise noise) (λ n. IsFlit n.mask) → All HasFlit before → All HasFlit (before ++ noisy_if (option_map new_noise noise) (rounds_of plan n))
rounds_masks plan noise n before long all =
    let work = rounds_work plan noise n long in
    All-append HasFlit before (noisy_if (option_map new_noise noise) (rounds_of plan n)) all (λ k d small. (work k d small).mask)

-- The landings that rounds make, and the noise in them.
use Rattle.std.proofs.Common.{◌≡◌, ◌∙◌, ◌<◌, ◌≤◌, ℕ, zero, suc, ◌+◌, ◌*◌, ◌/◌, ◌%◌, ◌-◌, ◌==◌, Bool, true, false, cond, List, [], ◌∷◌, ◌++◌, length, take, map, filter, get_or, Option, Some, None, inl, inr, refl, sym, ap, subst, arith, append-nil, length-append, zero-add}
use Rattle.std.specs.List.{All, flat_map, range_with_len}
use Rattle.std.proofs.lemmas.Bool.{cases_lt}
use Rattle.std.proofs.lemmas.List.{take-append-le}
use Rattle.std.proofs.lemmas.List.Elements.{filter-append, All-nil, All-cons, All-head, All-tail}
use Rattle.std.proofs.lemmas.List.FromFn.{length-map-range_with_len}
use Rattle.std.proofs.Math.Nat.{add-div_left, add-mod_left, div-eq_of_lt, mod-eq_of_lt}
use Rattle.std.proofs.Math.Seq.{take-append-add}
use Rattle.hmc_codes.specs.Flit.{zero_flit, IsFlit}
use Rattle.hmc_codes.specs.Numbers.{upto}
use Rattle.hmc_codes.specs.declared.lift.Lift.TheVariants as lifts
use Rattle.hmc_schedule.specs.declared.noise.Noise.{Noise}
use Rattle.hmc_schedule.specs.declared.step.Step.{Step}
use Rattle.hmc_schedule.specs.declared.step.Step.TheVariants.{Give, Send, Land, Shift, Spread, Bank, Registers, Lift, Take}
use Rattle.hmc_schedule.specs.Noise.{is_land, lands_in, lands_of, count_after, noisy_step, noisy, noisy_if}
use Rattle.hmc_schedule.specs.Plan.{PlanFields, IsWorking, is_joined, vaults_at, banks_at}
use Rattle.hmc_schedule.specs.Round.{repeated, shifts_of, spreads_of, banks_of, lifts_of, round_of}

silent_map : (f : ℕ → Step) (xs : List ℕ) → ((i : ℕ) → is_land (f i) ≡ false) → filter is_land (map f xs) ≡ []
silent_map f [] silent = refl
silent_map f (x ∷ xs) silent =
    ap (λ b. cond {A = List Step} b (f x ∷ filter is_land (map f xs)) (filter is_land (map f xs))) (silent x) ∙ silent_map f xs silent

silent_flat : (f : ℕ → List Step) (xs : List ℕ) → ((i : ℕ) → filter is_land (f i) ≡ []) → filter is_land (flat_map f xs) ≡ []
silent_flat f [] silent = refl
silent_flat f (x ∷ xs) silent =
    filter-append is_land (f x) (flat_map f xs) ∙ ap (λ l. l ++ filter is_land (flat_map f xs)) (silent x) ∙ silent_flat f xs silent

silent_after : (xs ys : List Step) → filter is_land ys ≡ [] → filter is_land (xs ++ ys) ≡ filter is_land xs
silent_after xs ys silent =
    filter-append is_land xs ys ∙ ap (λ l. filter is_land xs ++ l) silent ∙ append-nil (filter is_land xs)

silent_before : (xs ys : List Step) → filter is_land xs ≡ [] → filter is_land (xs ++ ys) ≡ filter is_land ys
silent_before xs ys silent = filter-append is_land xs ys ∙ ap (λ l. l ++ filter is_land ys) silent

all_lands : (xs : List ℕ) → filter is_land (map (λ direction. Land direction zero_flit) xs) ≡ map (λ direction. Land direction zero_flit) xs
all_lands [] = refl
all_lands (x ∷ xs) = ap (λ l. Land x zero_flit ∷ l) (all_lands xs)

silent_shifts : (plan : PlanFields) (cube : ℕ) → filter is_land (shifts_of plan cube) ≡ []
unfolding shifts_of
silent_shifts plan cube = silent_map (Shift cube) (filter (is_joined plan cube) (upto 4)) (λ i. refl)

silent_spreads : (plan : PlanFields) (cube : ℕ) → filter is_land (spreads_of plan cube) ≡ []
unfolding spreads_of
silent_spreads plan cube = silent_map (Spread cube) (upto (vaults_at plan cube)) (λ i. refl)

silent_banks : (plan : PlanFields) (cube : ℕ) → filter is_land (banks_of plan cube) ≡ []
unfolding banks_of
silent_banks plan cube =
    silent_flat (λ vault. map (Bank cube vault) (upto (banks_at plan cube))) (upto (vaults_at plan cube)) (λ vault. silent_map (Bank cube vault) (upto (banks_at plan cube)) (λ i. refl))

silent_lifts : (plan : PlanFields) (cube : ℕ) → filter is_land (lifts_of plan cube) ≡ []
unfolding lifts_of
silent_lifts plan cube =
    silent_after (map (λ vault. Lift cube (lifts.Vault vault)) (upto (vaults_at plan cube))) (Lift cube lifts.Registers ∷ []) refl
    ∙ silent_map (λ vault. Lift cube (lifts.Vault vault)) (upto (vaults_at plan cube)) (λ i. refl)

-- a round lands once in each direction, in ascending order
pub round_lands : (plan : PlanFields) → filter is_land (round_of plan) ≡ lands_of plan.directions
unfolding round_of
round_lands plan =
    let cubes = upto (length plan.cubes) in
    let to_send = map Give (upto plan.hosts) ++ map Send (upto plan.directions) in
    let to_land = to_send ++ lands_of plan.directions in
    let to_shift = to_land ++ flat_map (shifts_of plan) cubes in
    let to_spread = to_shift ++ flat_map (spreads_of plan) cubes in
    let to_bank = to_spread ++ flat_map (banks_of plan) cubes in
    let to_registers = to_bank ++ map Registers cubes in
    let to_lift = to_registers ++ flat_map (lifts_of plan) cubes in
    silent_after to_lift (map Take (upto plan.hosts)) (silent_map Take (upto plan.hosts) (λ i. refl))
    ∙ silent_after to_registers (flat_map (lifts_of plan) cubes) (silent_flat (lifts_of plan) cubes (silent_lifts plan))
    ∙ silent_after to_bank (map Registers cubes) (silent_map Registers cubes (λ i. refl))
    ∙ silent_after to_spread (flat_map (banks_of plan) cubes) (silent_flat (banks_of plan) cubes (silent_banks plan))
    ∙ silent_after to_shift (flat_map (spreads_of plan) cubes) (silent_flat (spreads_of plan) cubes (silent_spreads plan))
    ∙ silent_after to_land (flat_map (shifts_of plan) cubes) (silent_flat (shifts_of plan) cubes (silent_shifts plan))
    ∙ silent_before to_send (lands_of plan.directions) (silent_before (map Give (upto plan.hosts)) (map Send (upto plan.directions)) (silent_map Give (upto plan.hosts) (λ i. refl)) ∙ silent_map Send (upto plan.directions) (λ i. refl))
    ∙ all_lands (upto plan.directions)

pub lands-of : (round : List Step) (directions : ℕ) → filter is_land round ≡ lands_of directions → lands_in round ≡ directions
lands-of round directions is =
    ap length is ∙ length-map-range_with_len (λ direction. Land direction zero_flit) 0 directions

lands-append : (xs ys : List Step) → lands_in (xs ++ ys) ≡ lands_in xs + lands_in ys
lands-append xs ys =
    ap length (filter-append is_land xs ys) ∙ length-append (filter is_land xs) (filter is_land ys)

pub lands-repeated : (n : ℕ) (round : List Step) → lands_in (repeated n round) ≡ n * lands_in round
lands-repeated zero round = grind arith
lands-repeated (suc n) round =
    lands-append round (repeated n round) ∙ ap (λ k. lands_in round + k) (lands-repeated n round) ∙ grind arith

pub lands-le : (xs : List Step) → lands_in xs ≤ length xs
lands-le [] = omega arith
lands-le (x ∷ xs) = by_test (is_land x) (lands-le xs) where
  by_test : (b : Bool) → lands_in xs ≤ length xs → length (cond {A = List Step} b (x ∷ filter is_land xs) (filter is_land xs)) ≤ suc (length xs)
  by_test true le = omega (arith, le)
  by_test false le = omega (arith, le)

-- the landings before a place in rounds: those of whole rounds, and those of the last one
lands-take : (n : ℕ) (round : List Step) (j : ℕ) → j < n * length round → lands_in (take j (repeated n round)) ≡ j / length round * lands_in round + lands_in (take (j % length round) round)
lands-take zero round j small = absurd (omega (arith, small))
lands-take (suc n) round j small =
    elim (cases_lt j (length round)) [
      | inl first ↦
          by_parts (j / length round) (j % length round) (div-eq_of_lt first) (mod-eq_of_lt first) (ap lands_in (take-append-le j round (repeated n round) (omega (arith, first))))
      | inr over ↦
          let k = j - length round in
          let place : j ≡ length round + k = omega (arith, over) in
          let shorter : k < n * length round = omega (arith, small, over, suc_times) in
          subst (λ i. lands_in (take i (repeated (suc n) round)) ≡ i / length round * lands_in round + lands_in (take (i % length round) round)) (sym place) (one_round_more k (lands-take n round k shorter) (has_steps k shorter))
    ] where
      suc_times : (suc n) * length round ≡ length round + n * length round
      suc_times = grind arith

      has_steps : (k : ℕ) → k < n * length round → 0 < length round
      has_steps k shorter = elim (cases_lt 0 (length round)) [
        | inl more ↦ more
        | inr none ↦
            let empty : length round ≡ 0 = omega (arith, none) in
            absurd (omega (arith, subst (λ l. k < n * l) empty shorter))
      ]

      by_parts : (q r : ℕ) → q ≡ 0 → r ≡ j → lands_in (take j (repeated (suc n) round)) ≡ lands_in (take j round) → lands_in (take j (repeated (suc n) round)) ≡ q * lands_in round + lands_in (take r round)
      by_parts q r none same is = rw (none, same) (is ∙ grind arith)

      more_times : (l q t : ℕ) → l + (q * l + t) ≡ (q + 1) * l + t
      more_times l q t = grind arith

      one_round_more : (k : ℕ) → lands_in (take k (repeated n round)) ≡ k / length round * lands_in round + lands_in (take (k % length round) round) → 0 < length round
          → lands_in (take (length round + k) (repeated (suc n) round)) ≡ (length round + k) / length round * lands_in round + lands_in (take ((length round + k) % length round) round)
      one_round_more k before some =
          rw (add-div_left k some, add-mod_left (length round) k) (
          ap lands_in (take-append-add round (repeated n round) k) ∙ lands-append round (take k (repeated n round)) ∙ ap (λ m. lands_in round + m) before ∙ more_times (lands_in round) (k / length round) (lands_in (take (k % length round) round))
          )

-- in a list with one landing in each direction, a landing comes after those in the directions below
land_number : (from directions : ℕ) (xs : List Step) (k d : ℕ) (mask : List ℕ) (e : Step) → filter is_land xs ≡ map (λ direction. Land direction zero_flit) (range_with_len from directions) → k < length xs → get_or xs k e ≡ Land d mask → from + lands_in (take k xs) ≡ d
land_number from directions [] k d mask e all small at = absurd (omega (arith, small))
land_number from directions (x ∷ xs) k d mask e all small at =
    by_land (is_land x) (λ from directions k all small at. land_number from directions xs k d mask e all small at) refl from directions k all small at where
      by_land : (b : Bool) → ((from directions k : ℕ) → filter is_land xs ≡ map (λ direction. Land direction zero_flit) (range_with_len from directions) → k < length xs → get_or xs k e ≡ Land d mask → from + lands_in (take k xs) ≡ d)
          → is_land x ≡ b → (from directions k : ℕ) → cond {A = List Step} b (x ∷ filter is_land xs) (filter is_land xs) ≡ map (λ direction. Land direction zero_flit) (range_with_len from directions) → k < length (x ∷ xs) → get_or (x ∷ xs) k e ≡ Land d mask → from + lands_in (take k (x ∷ xs)) ≡ d
      by_land true later is from zero k all small at = absurd (cc (all))
      by_land true later is from (suc directions) zero all small at =
          let same : from ≡ d = cc (all, at) in omega (arith, same)
      by_land true later is from (suc directions) (suc k) all small at =
          let tail : filter is_land xs ≡ map (λ direction. Land direction zero_flit) (range_with_len (from + 1) directions) = cc (all) in
          let before = later (from + 1) directions k tail (omega (arith, small)) at in
          let more : lands_in (x ∷ take k xs) ≡ suc (lands_in (take k xs)) = ap (λ b. length (cond {A = List Step} b (x ∷ filter is_land (take k xs)) (filter is_land (take k xs)))) is in
          omega (arith, before, more)
      by_land false later is from directions zero all small at =
          let landing : is_land x ≡ true = ap is_land at in absurd (cc (landing, is))
      by_land false later is from directions (suc k) all small at =
          let before = later from directions k all (omega (arith, small)) at in
          let same : lands_in (x ∷ take k xs) ≡ lands_in (take k xs) = ap (λ b. length (cond {A = List Step} b (x ∷ filter is_land (take k xs)) (filter is_land (take k xs)))) is in
          omega (arith, before, same)

noisy-length : (noise : Noise) (n : ℕ) (xs : List Step) → length (noisy noise n xs) ≡ length xs
unfolding noisy
noisy-length noise n [] = refl
noisy-length noise n (x ∷ xs) = ap suc (noisy-length noise (count_after n x) xs)

pub noisy_if-length : (noise : Option Noise) (xs : List Step) → length (noisy_if noise xs) ≡ length xs
noisy_if-length None xs = refl
noisy_if-length (Some noise) xs = noisy-length noise noise.count xs

-- the step at a place, after the landings before it
noisy-get : (noise : Noise) (n : ℕ) (xs : List Step) (j : ℕ) (d : Step) → j < length xs → get_or (noisy noise n xs) j d ≡ noisy_step noise (n + lands_in (take j xs)) (get_or xs j d)
unfolding noisy
noisy-get noise n [] j d small = absurd (omega (arith, small))
noisy-get noise n (x ∷ xs) zero d small =
    let same : n ≡ n + 0 = omega arith in ap (λ k. noisy_step noise k x) same
noisy-get noise n (x ∷ xs) (suc j) d small =
    noisy-get noise (count_after n x) xs j d (omega (arith, small)) ∙ ap (λ k. noisy_step noise k (get_or xs j d)) (by_test (is_land x)) where
      by_test : (b : Bool) → cond b (n + 1) n + lands_in (take j xs) ≡ n + length (cond {A = List Step} b (x ∷ filter is_land (take j xs)) (filter is_land (take j xs)))
      by_test true = omega arith
      by_test false = refl

lands-take_len : (n : ℕ) (round : List Step) (j len directions : ℕ) → length round ≡ len → lands_in round ≡ directions → j < n * len → lands_in (take j (repeated n round)) ≡ j / len * directions + lands_in (take (j % len) round)
lands-take_len n round j len directions long is small =
    rw (← long, ← is) (lands-take n round j (subst (λ k. j < n * k) (sym long) small))

-- the step at a place of noisy rounds
pub noisy-rounds : (noise : Noise) (directions : ℕ) (round : List Step) (n j len : ℕ) (d : Step) → length round ≡ len → filter is_land round ≡ lands_of directions → j < n * len → length (repeated n round) ≡ n * len → get_or (repeated n round) j d ≡ get_or round (j % len) d
    → get_or (noisy noise noise.count (repeated n round)) j d ≡ noisy_step noise (noise.count + (j / len * directions + lands_in (take (j % len) round))) (get_or round (j % len) d)
noisy-rounds noise directions round n j len d long lands small all at =
    noisy-get noise noise.count (repeated n round) j d (subst (λ k. j < k) (sym all) small) ∙ ap (λ (x : Step). noisy_step noise (noise.count + lands_in (take j (repeated n round))) x) at ∙ ap (λ k. noisy_step noise (noise.count + k) (get_or round (j % len) d)) (lands-take_len n round j len directions long (lands-of round directions lands) small)

-- a landing of a round comes after those in the directions below
pub number_in_round : (directions : ℕ) (round : List Step) (k direction : ℕ) (mask : List ℕ) (e : Step) → filter is_land round ≡ lands_of directions → k < length round → get_or round k e ≡ Land direction mask → lands_in (take k round) ≡ direction
number_in_round directions round k direction mask e lands small at =
    sym (zero-add (lands_in (take k round))) ∙ land_number 0 directions round k direction mask e lands small at

step_works : (plan : PlanFields) (noise : Noise) (n : ℕ) (x : Step) → IsFlit noise.mask → IsWorking plan x → IsWorking plan (noisy_step noise n x)
step_works plan noise n (Land direction mask) long is = record {
  within = is.within;
  mask = by_due ((n + 1) % noise.every == 0);
} where
  by_due : (b : Bool) → IsFlit (cond {A = List ℕ} b noise.mask mask)
  by_due true = long
  by_due false = is.mask
step_works plan noise n x long is = is

noisy_works : (plan : PlanFields) (noise : Noise) (n : ℕ) (xs : List Step) → IsFlit noise.mask → All (IsWorking plan) xs → All (IsWorking plan) (noisy noise n xs)
unfolding noisy
noisy_works plan noise n [] long all = All-nil (IsWorking plan)
noisy_works plan noise n (x ∷ xs) long all =
    All-cons (IsWorking plan) (noisy_step noise n x) (noisy noise (count_after n x) xs) (step_works plan noise n x long (All-head (IsWorking plan) x xs all)) (noisy_works plan noise (count_after n x) xs long (All-tail (IsWorking plan) x xs all))

pub noisy_if-works : (plan : PlanFields) (noise : Option Noise) (xs : List Step) → ((n : Noise) → noise ≡ Some n → IsFlit n.mask) → All (IsWorking plan) xs → All (IsWorking plan) (noisy_if noise xs)
noisy_if-works plan None xs long all = all
noisy_if-works plan (Some noise) xs long all = noisy_works plan noise noise.count xs (long noise refl) all

-- Noise by how far its next mask is.
use Rattle.std.proofs.Common.{◌≡◌, ◌∙◌, ◌<◌, ◌≤◌, ℕ, zero, suc, ◌+◌, ◌*◌, ◌/◌, ◌%◌, ◌-◌, ◌==◌, Bool, true, false, cond, List, [], ◌∷◌, ◌++◌, length, take, drop, get_or, Option, Some, None, refl, sym, ap, arith, div-add-mod'}
use Rattle.std.proofs.lemmas.Bool.Decides.{nat_tests}
use Rattle.std.proofs.Math.Nat.{add-mod_left, mod-eq_of_lt, mod-lt}
use Rattle.hmc_schedule.specs.declared.noise.Noise.{Noise}
use Rattle.hmc_schedule.specs.declared.rounds_left.Countdown.{Countdown}
use Rattle.hmc_schedule.specs.declared.step.Step.{Step}
use Rattle.hmc_schedule.specs.declared.step.Step.TheVariants.{Land}
use Rattle.hmc_schedule.specs.Noise.{is_land, count_after, mask_at, noisy_step, noisy, noisy_if}
use Rattle.std.specs.List.{All}
use Rattle.std.specs.Prelude.{IfSome}
use Rattle.std.proofs.lemmas.List.Elements.{All-tail}
use Rattle.std.proofs.Math.Seq.{take-length}
use Rattle.hmc_schedule.specs.Round.{repeated}
use Rattle.hmc_schedule.specs.declared.written.Rounds.{Rounds}
use Rattle.hmc_schedule.specs.declared.written.Segment.{Segment}
use Rattle.hmc_schedule.specs.Written.{Kept, held_steps, steps_in, IsHeld}
use Rattle.hmc_schedule.specs.RoundsLeft.{noise_left, noise_of, count_of, rounds_in, IsCountdown, AreLeft}

-- a count that is a whole turn more leaves the same masks
turn-mask : (noise : Noise) (n : ℕ) (mask : List ℕ) → mask_at noise (noise.every + n + 1) mask ≡ mask_at noise (n + 1) mask
turn-mask noise n mask =
    let same : noise.every + n + 1 ≡ noise.every + (n + 1) = omega arith in
    rw same (ap (λ k. cond {A = List ℕ} (k == 0) noise.mask mask) (add-mod_left noise.every (n + 1)))

turn-step : (noise : Noise) (n : ℕ) (x : Step) → noisy_step noise (noise.every + n) x ≡ noisy_step noise n x
turn-step noise n (Land direction mask) = ap (Land direction) (turn-mask noise n mask)
turn-step noise n x = refl

turn-count : (e n : ℕ) (x : Step) → count_after (e + n) x ≡ e + count_after n x
turn-count e n x = by_test (is_land x) where
  by_test : (b : Bool) → cond b (e + n + 1) (e + n) ≡ e + cond b (n + 1) n
  by_test true = omega arith
  by_test false = refl

pub turn : (noise : Noise) (n : ℕ) (xs : List Step) → noisy noise (noise.every + n) xs ≡ noisy noise n xs
unfolding noisy
turn noise n [] = refl
turn noise n (x ∷ xs) =
    let first = turn-step noise n x in
    let later : noisy noise (count_after (noise.every + n) x) xs ≡ noisy noise (count_after n x) xs =
    ap (λ k. noisy noise k xs) (turn-count noise.every n x) ∙ turn noise (count_after n x) xs in
    ap (λ y. y ∷ noisy noise (count_after (noise.every + n) x) xs) first ∙ ap (λ ys. noisy_step noise n x ∷ ys) later

turns : (noise : Noise) (k n : ℕ) (xs : List Step) → noisy noise (k * noise.every + n) xs ≡ noisy noise n xs
turns noise zero n xs =
    let same : 0 * noise.every + n ≡ n = grind arith in ap (λ c. noisy noise c xs) same
turns noise (suc k) n xs =
    let same : (suc k) * noise.every + n ≡ noise.every + (k * noise.every + n) = grind arith in
    ap (λ c. noisy noise c xs) same ∙ turn noise (k * noise.every + n) xs ∙ turns noise k n xs

-- the count that a noise has of its own plays no part
same-step : (a b : Noise) → a.every ≡ b.every → a.mask ≡ b.mask → (n : ℕ) (x : Step) → noisy_step a n x ≡ noisy_step b n x
same-step a b every mask n (Land direction m) = cc (every, mask)
same-step a b every mask n x = refl

same-noise : (a b : Noise) → a.every ≡ b.every → a.mask ≡ b.mask → (n : ℕ) (xs : List Step) → noisy a n xs ≡ noisy b n xs
unfolding noisy
same-noise a b every mask n [] = refl
same-noise a b every mask n (x ∷ xs) =
    ap (λ y. y ∷ noisy a (count_after n x) xs) (same-step a b every mask n x) ∙ ap (λ ys. noisy_step b n x ∷ ys) (same-noise a b every mask (count_after n x) xs)

-- noise as it is written
pub of-noise : (noise : Noise) (xs : List Step) → 1 ≤ noise.every → noisy (record { every = noise.every; mask = noise.mask; count = noise.every - (noise.every - noise.count % noise.every) }) (noise.every - (noise.every - noise.count % noise.every)) xs ≡ noisy noise noise.count xs
of-noise noise xs some =
    let small = mod-lt noise.count some in
    let count : noise.every - (noise.every - noise.count % noise.every) ≡ noise.count % noise.every = omega (arith, small) in
    let all : noise.count / noise.every * noise.every + noise.count % noise.every ≡ noise.count = div-add-mod' noise.count noise.every in
    rw count (same-noise _ noise refl refl (noise.count % noise.every) xs ∙ sym (turns noise (noise.count / noise.every) (noise.count % noise.every) xs) ∙ ap (λ k. noisy noise k xs) all)

-- a landing before the next one that has the mask
pub land-before : (c : Countdown) (direction : ℕ) (mask : List ℕ) (rest : List Step) → 1 < c.until → c.until ≤ c.every
    → noisy (noise_of c) (c.every - c.until) (Land direction mask ∷ rest) ≡ Land direction mask ∷ noisy (noise_of (record c { until = c.until - 1 })) (c.every - (c.until - 1)) rest
unfolding noisy
land-before c direction mask rest more within =
    let n = c.every - c.until in
    let small : n + 1 < c.every = omega (arith, more, within) in
    let next : n + 1 ≡ c.every - (c.until - 1) = omega (arith, more, within) in
    let rest_is : (n + 1) % c.every ≡ n + 1 = mod-eq_of_lt small in
    let test : ((n + 1) % c.every == 0) ≡ false = grind (arith, nat_tests, rest_is) in
    ap (λ b. Land direction (cond {A = List ℕ} b c.mask mask) ∷ noisy (noise_of c) (n + 1) rest) test
    ∙ ap (λ ys. Land direction mask ∷ ys) (same-noise (noise_of c) (noise_of (record c { until = c.until - 1 })) refl refl (n + 1) rest ∙ ap (λ k. noisy (noise_of (record c { until = c.until - 1 })) k rest) next)

-- the landing that has the mask
pub land-at : (c : Countdown) (direction : ℕ) (mask : List ℕ) (rest : List Step) → 1 ≤ c.until → c.until ≤ c.every → c.until ≤ 1
    → noisy (noise_of c) (c.every - c.until) (Land direction mask ∷ rest) ≡ Land direction c.mask ∷ noisy (noise_of (record c { until = c.every })) (c.every - c.every) rest
unfolding noisy
land-at c direction mask rest some within last =
    let n = c.every - c.until in
    let next : n + 1 ≡ c.every + 0 = omega (arith, some, within, last) in
    let zero_left : c.every - c.every ≡ 0 = omega arith in
    let test : ((n + 1) % c.every == 0) ≡ true = rw next (ap (λ k. k == 0) (add-mod_left c.every 0 ∙ mod-eq_of_lt (omega (arith, some, within)))) in
    ap (λ b. Land direction (cond {A = List ℕ} b c.mask mask) ∷ noisy (noise_of c) (n + 1) rest) test
    ∙ ap (λ k. Land direction c.mask ∷ noisy (noise_of c) k rest) next
    ∙ ap (λ ys. Land direction c.mask ∷ ys) (turn (noise_of c) 0 rest ∙ same-noise (noise_of c) (noise_of (record c { until = c.every })) refl refl 0 rest ∙ ap (λ k. noisy (noise_of (record c { until = c.every })) k rest) (sym zero_left))

-- a step that is no landing
silent-noisy : (noise : Noise) (n : ℕ) (x : Step) (rest : List Step) → is_land x ≡ false → noisy noise n (x ∷ rest) ≡ x ∷ noisy noise n rest
unfolding noisy
silent-noisy noise n (Land direction mask) rest isnt = absurd (cc (isnt))
silent-noisy noise n x rest isnt = refl

pub silent : (noise : Option Countdown) (x : Step) (rest : List Step) → is_land x ≡ false → noisy_if (noise_left noise) (x ∷ rest) ≡ x ∷ noisy_if (noise_left noise) rest
silent None x rest isnt = refl
silent (Some c) x rest isnt = silent-noisy (noise_of c) (c.every - c.until) x rest isnt

-- no round of a line is left
none_now : (noise : Option Countdown) (count : ℕ) (round : List Step) → count ≡ 0 → noisy_if (noise_left noise) (repeated count round) ≡ []
unfolding noisy
none_now noise count round none = rw none (by_noise noise) where
  by_noise : (noise : Option Countdown) → noisy_if (noise_left noise) (repeated 0 round) ≡ []
  by_noise None = refl
  by_noise (Some c) = refl

-- nothing is left
pub none_left : (all : List Step) (noise : Option Countdown) (count : ℕ) (round : List Step) (kept : Kept) (segments : List Segment) → count ≡ 0 → length segments < 1 → all ≡ noisy_if (noise_left noise) (repeated count round) ++ steps_in kept segments → all ≡ []
unfolding steps_in
none_left all noise count round kept [] none few is =
    is ∙ ap (λ l. l ++ []) (none_now noise count round none)
none_left all noise count round kept (s ∷ later) none few is = absurd (omega (arith, few))

-- the next line
pub next_line : (all : List Step) (noise next : Option Countdown) (count : ℕ) (round rounds : List Step) (kept : Kept) (segments : List Segment) (d : Segment) → count ≡ 0 → 1 ≤ length segments → all ≡ noisy_if (noise_left noise) (repeated count round) ++ steps_in kept segments
    → rounds ≡ held_steps kept (get_or segments 0 d).held → All (λ segment. IsHeld kept segment.held) segments → IfSome next IsCountdown
    → AreLeft kept (take (length segments - 1) (drop 1 segments)) next × (all ≡ rounds ++ steps_in kept (take (length segments - 1) (drop 1 segments)))
unfolding steps_in
next_line all noise next count round rounds kept [] d none some is line kept_are keeps = absurd (omega (arith, some))
next_line all noise next count round rounds kept (s ∷ later) d none some is line kept_are keeps =
    let short : length (s ∷ later) - 1 ≡ length later = omega arith in
    let same : take (length (s ∷ later) - 1) later ≡ later = ap (λ k. take k later) short ∙ take-length later in
    rw same (
      record { held = All-tail (λ (t : Segment). IsHeld kept t.held) s later kept_are; noise = keeps },
      is ∙ ap (λ l. l ++ steps_in kept (s ∷ later)) (none_now noise count round none) ∙ ap (λ l. l ++ steps_in kept later) (sym line),
    )

-- as many rounds are left
pub next_count : (all count next : ℕ) (many : List Rounds) (segments : List Segment) (d : Segment) → count ≡ 0 → 1 ≤ length segments → all ≡ count + rounds_in many segments → next ≡ count_of many (get_or segments 0 d).held → all ≡ next + rounds_in many (take (length segments - 1) (drop 1 segments))
unfolding rounds_in
next_count all count next many [] d none some is line = absurd (omega (arith, some))
next_count all count next many (s ∷ later) d none some is line =
    let short : length (s ∷ later) - 1 ≡ length later = omega arith in
    let same : take (length (s ∷ later) - 1) later ≡ later = ap (λ k. take k later) short ∙ take-length later in
    let here : next ≡ count_of many s.held = line in
    let before : all ≡ count + (count_of many s.held + rounds_in many later) = is in
    rw same (omega (arith, none, before, here))

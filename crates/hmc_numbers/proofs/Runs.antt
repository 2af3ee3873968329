-- Data can make a run of 16 flits that read as IRTRYs, and no more. Part of the invariant (Order).
use Rattle.std.proofs.Common.{◌≡◌, ◌≢◌, ℕ, suc, ◌<◌, ◌≤◌, List, refl, arith}
use Rattle.hmc_numbers.specs.Weights.{Weight, HaveValidSizes}
use Rattle.hmc_numbers.specs.Direction.{Item, came_of}
use Rattle.hmc_numbers.specs.Events.{Reading, clear_run_after, start_run_after}
use Rattle.hmc_numbers.specs.May.{CanReadAs}
use Rattle.hmc_numbers.specs.Direction.Filler.{start}
use Rattle.hmc_numbers.specs.Direction.Item.{filler, clear, part}
use Rattle.hmc_numbers.specs.Events.Reading.{plain, as_start, as_clear}
use Rattle.hmc_numbers.proofs.Sums.{size-valid}
use Rattle.hmc_numbers.proofs.Chain.{Follows}
use Rattle.hmc_numbers.proofs.Near.{Real}

-- The last n flits read as Clears, the last of all was sent as x. After flit k of a packet, counted from 0, n is at most k,
-- since the header reads as none. After another filler it is 0.
abbrev pub ClearRun : Item → ℕ → Type 0
ClearRun (filler f) n = n ≡ 0
ClearRun clear n = Unit {0}
ClearRun (part m k more) n = n ≤ k

abbrev pub StartRun : Item → ℕ → Type 0
StartRun (filler start) n = Unit {0}
StartRun (part m k more) n = n ≤ k
StartRun x n = n ≡ 0

-- within a packet a run is shorter than what was sent of it
clear_run_came : (x : Item) (n : ℕ) → came_of x ≢ 0 → ClearRun x n → n < came_of x
clear_run_came (part m k (suc more)) n c h = omega (arith, h)
clear_run_came x n c h = absurd (c refl)

start_run_came : (x : Item) (n : ℕ) → came_of x ≢ 0 → StartRun x n → n < came_of x
start_run_came (part m k (suc more)) n c h = omega (arith, h)
start_run_came x n c h = absurd (c refl)

pub clear_run_zero : (x : Item) → ClearRun x 0
clear_run_zero (filler f) = refl
clear_run_zero clear = tt
clear_run_zero (part m k more) = omega arith

pub start_run_zero : (x : Item) → StartRun x 0
start_run_zero (filler start) = tt
start_run_zero (part m k more) = omega arith
start_run_zero x = refl

clear_run_more : (x y : Item) (n : ℕ) → Follows x y → CanReadAs y as_clear → ClearRun x n → ClearRun y (suc n)
clear_run_more x clear n f c h = tt
clear_run_more x (part m k more) n f c h =
    let e : k ≡ came_of x = f.0 in
    let z = clear_run_came x n (λ q. absurd (omega (arith, c))) h in omega arith
clear_run_more x (filler start) n f c h = absurd c
clear_run_more x y n f c h = absurd c

start_run_more : (x y : Item) (n : ℕ) → Follows x y → CanReadAs y as_start → StartRun x n → StartRun y (suc n)
start_run_more x (filler start) n f c h = tt
start_run_more x (part m k more) n f c h =
    let e : k ≡ came_of x = f.0 in
    let z = start_run_came x n (λ q. absurd (omega (arith, c))) h in omega arith
start_run_more x y n f c h = absurd c

pub clear_run_lands : (x y : Item) (reading : Reading) (n : ℕ) → Follows x y → CanReadAs y reading → ClearRun x n → ClearRun y (clear_run_after reading n)
clear_run_lands x y plain n f c h = clear_run_zero y
clear_run_lands x y as_start n f c h = clear_run_zero y
clear_run_lands x y as_clear n f c h = clear_run_more x y n f c h

pub start_run_lands : (x y : Item) (reading : Reading) (n : ℕ) → Follows x y → CanReadAs y reading → StartRun x n → StartRun y (start_run_after reading n)
start_run_lands x y plain n f c h = start_run_zero y
start_run_lands x y as_start n f c h = start_run_more x y n f c h
start_run_lands x y as_clear n f c h = start_run_zero y

-- the 17th and each later flit of a run was sent as an IRTRY of its kind
pub clear_run_sent : (ps : List Weight) (x : Item) (n : ℕ) → HaveValidSizes ps → Real ps x → ClearRun x n → 17 ≤ n → x ≡ clear
clear_run_sent ps (filler f) n a r h l = absurd (omega arith)
clear_run_sent ps clear n a r h l = refl
clear_run_sent ps (part m k more) n a r h l = let z = (size-valid ps m a r.0 r.1).most in absurd (omega (arith, r.2))

pub start_run_sent : (ps : List Weight) (x : Item) (n : ℕ) → HaveValidSizes ps → Real ps x → StartRun x n → 17 ≤ n → x ≡ filler start
start_run_sent ps (filler start) n a r h l = refl
start_run_sent ps (part m k more) n a r h l = let z = (size-valid ps m a r.0 r.1).most in absurd (omega (arith, r.2))
start_run_sent ps x n a r h l = absurd (omega arith)

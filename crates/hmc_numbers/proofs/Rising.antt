-- Stamps on a line do not fall, after each event. Used by Together.
use Rattle.std.proofs.Common.{ℕ, ◌≤◌, List, [], ◌∷◌, ◌++◌, arith}
use Rattle.hmc_numbers.specs.Pair.{Way, rest_of_stamps, stamps_after, front_stamp}
use Rattle.hmc_numbers.specs.PairLaws.{Rising}
use Rattle.hmc_numbers.specs.Pair.Way.{sends, lands, stays}

pub rising_snoc : (low high : ℕ) (ss : List ℕ) → Rising low ss high → Rising low (ss ++ high ∷ []) high
rising_snoc low high [] h = (h, omega arith)
rising_snoc low high (s ∷ ss) h = (h.0, rising_snoc s high ss h.1)

pub rising_lower : (low low' high : ℕ) (ss : List ℕ) → low' ≤ low → Rising low ss high → Rising low' ss high
rising_lower low low' high [] l h = omega (arith, h)
rising_lower low low' high (s ∷ ss) l h = (omega (arith, h.0), h.1)

pub rising_higher : (low high high' : ℕ) (ss : List ℕ) → high ≤ high' → Rising low ss high → Rising low ss high'
rising_higher low high high' [] l h = omega (arith, h)
rising_higher low high high' (s ∷ ss) l h = (h.0, rising_higher s high high' ss l h.1)

pub rising_rest : (low high : ℕ) (ss : List ℕ) → Rising low ss high → Rising low (rest_of_stamps ss) high
rising_rest low high [] h = h
rising_rest low high (s ∷ ss) h = rising_lower s low high ss h.0 h.1

pub rising_counted : (low high : ℕ) (ss : List ℕ) → Rising low ss high → Rising (front_stamp low ss) (rest_of_stamps ss) high
rising_counted low high [] h = h
rising_counted low high (s ∷ ss) h = h.1

pub rising_bounds : (low high : ℕ) (ss : List ℕ) → Rising low ss high → low ≤ high
rising_bounds low high [] h = h
rising_bounds low high (s ∷ ss) h = let z = rising_bounds s high ss h.1 in omega (arith, h.0)

pub rising_front : (low high : ℕ) (ss : List ℕ) → Rising low ss high → (low ≤ front_stamp low ss) × (front_stamp low ss ≤ high)
rising_front low high [] h = (omega arith, h)
rising_front low high (s ∷ ss) h = (h.0, rising_bounds s high ss h.1)

pub rising_after : (w : Way) (low high : ℕ) (ss : List ℕ) → Rising low ss high → Rising low (stamps_after w high ss) high
rising_after sends low high ss h = rising_snoc low high ss h
rising_after lands low high ss h = rising_rest low high ss h
rising_after stays low high ss h = h

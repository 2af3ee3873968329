-- What retry pointers show, by arithmetic modulo 512 and 2048. Used by DirectionLaws.
use Rattle.std.proofs.Common.{◌≡◌, ℕ, ◌+◌, ◌%◌, ◌<◌, ◌≤◌, arith}
use Rattle.hmc_codes.specs.Profile.{modulus_of, window_of}
use Rattle.hmc_codes.specs.declared.profile.Profile.{Profile}
use Rattle.hmc_numbers.specs.Pointers.{IsNext, IsBehind}
use Rattle.hmc_codes.specs.declared.profile.Profile.TheVariants.{One, Two}

-- a packet that is less than the window behind passes the test for a repeat
pub behind_identified : (p : Profile) (f g : ℕ) → g ≤ f → f < g + window_of p → IsBehind p f (g % modulus_of p)
behind_identified One f g a b = omega arith
behind_identified Two f g a b = omega arith

-- and not the test for the next packet
pub behind_not_next : (p : Profile) (f n g l seq : ℕ) → g ≤ f → f < g + window_of p → 1 ≤ l → l ≤ 17 → IsNext p f n l (g % modulus_of p) seq → ⊥
behind_not_next One f n g l seq a b c d e = omega (arith, e.0)
behind_not_next Two f n g l seq a b c d e = omega (arith, e.0)

-- two numbers within the window have the same pointer only where they are the same
pub pointers_apart : (p : Profile) (base x y : ℕ) → base ≤ x → x ≤ base + window_of p → base ≤ y → y ≤ base + window_of p → x % modulus_of p ≡ y % modulus_of p → x ≡ y
pointers_apart One base x y a b c d e = omega arith
pointers_apart Two base x y a b c d e = omega arith

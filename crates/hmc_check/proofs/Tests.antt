-- Tests of numbers.
use Rattle.std.proofs.Common.{◌≡◌, ◌<◌, ◌∙◌, ℕ, Bool, true, not, nat_le, nat_lt, sym, arith}
use Rattle.std.proofs.lemmas.Bool.Decides.{nat_tests}
use Rattle.hmc_codes.proofs.General.{below_is_room}
use Rattle.hmc_kept.proofs.Ways.{lacks_by}

pub lt_is : (a b : ℕ) → a < b → nat_lt a b ≡ true
lt_is a b less = grind (arith, nat_tests)

pub below : (a b : ℕ) → nat_lt a b ≡ true → a < b
below a b is = grind (arith, nat_tests)

pub le_not : (n m : ℕ) (t : Bool) → nat_lt n m ≡ t → nat_le m n ≡ not t
le_not n m t is = lacks_by t (nat_le m n) (sym is ∙ below_is_room n m)

-- Queues of answers that are the same by their test are equal.
use Rattle.std.proofs.Common.{◌≡◌, true, refl, ap, eqb-true, eq-eqb}
use Rattle.hmc_codes.specs.declared.lift.Lift.{Lift}
use Rattle.hmc_codes.specs.declared.lift.Lift.TheVariants as lifts
use Rattle.hmc_codes.specs.Places.{same_lift}

pub lift_is : (from to : Lift) → same_lift from to ≡ true → from ≡ to
lift_is (lifts.Vault v) (lifts.Vault w) is = ap lifts.Vault (eqb-true v w is)
lift_is lifts.Registers lifts.Registers is = refl
lift_is (lifts.Vault v) lifts.Registers is = cc
lift_is lifts.Registers (lifts.Vault w) is = cc

pub lift_same : (from : Lift) → same_lift from from ≡ true
lift_same (lifts.Vault v) = eq-eqb v v refl
lift_same lifts.Registers = refl

-- Lines of steps, computed.
use Rattle.std.proofs.Common.{◌≡◌, [], ◌∷◌, ◌++◌, codes, replicate, refl}
use Rattle.std.specs.Fmt.{digits}
use Rattle.hex.specs.Hex.{encode_with}
use Rattle.hmc_codes.specs.Flit.{zero_flit}
use Rattle.hmc_codes.specs.declared.lift.Lift.TheVariants as lifts
use Rattle.hmc_schedule.specs.declared.step.Step.TheVariants.{Give, Land, Shift, Bank, Lift, Retire}
use Rattle.hmc_step_text.specs.Text.{schedule_text}

-- each kind of numbers: one, two and three of them, a vault or the registers
schedule_text-numbers : schedule_text (Give 7 ∷ Shift 0 3 ∷ Bank 1 31 15 ∷ Lift 0 (lifts.Vault 2) ∷ Lift 4 lifts.Registers ∷ Retire 0 ∷ [])
    ≡ codes "give 7" ++ 10 ∷ codes "shift 0 3" ++ 10 ∷ codes "bank 1 31 15" ++ 10 ∷ codes "lift 0 2" ++ 10 ∷ codes "lift 4 r" ++ 10 ∷ codes "retire 0" ++ 10 ∷ []
unfolding schedule_text digits
schedule_text-numbers = refl

-- a mask of zeros isn't written
schedule_text-unchanged : schedule_text (Land 63 (replicate 16 0) ∷ []) ≡ codes "land 63" ++ 10 ∷ []
unfolding schedule_text zero_flit digits
schedule_text-unchanged = refl

-- any other is, all of it
schedule_text-mask : schedule_text (Land 0 (1 ∷ replicate 14 0 ++ 255 ∷ []) ∷ []) ≡ codes "land 0 010000000000000000000000000000ff" ++ 10 ∷ []
unfolding schedule_text zero_flit encode_with digits
schedule_text-mask = refl

-- no step, no line
schedule_text-none : schedule_text [] ≡ []
unfolding schedule_text
schedule_text-none = refl

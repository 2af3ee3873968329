-- Which entries say that a host has given all.
use Rattle.std.proofs.Common.{◌≡◌, true, false, ℕ, [], ◌∷◌, refl}
use Rattle.std.specs.Prelude.{map}
use Rattle.hmc_schedule.specs.declared.step.Step.TheVariants as steps
use Rattle.hmc_entries.specs.declared.outcome.Cause.TheVariants as causes
use Rattle.hmc_entries.specs.declared.entry.Entry.TheVariants.{Idle, Unlocked}
use Rattle.hmc_growing.specs.Growing.{is_end_of, IsOpen}

-- `idle give 1 ended` says so of host 1 and of no other
is_end_of-each_host : map (λ (host : ℕ). is_end_of host (Idle (steps.Give 1) causes.Ended)) (0 ∷ 1 ∷ 2 ∷ []) ≡ false ∷ true ∷ false ∷ []
is_end_of-each_host = refl

-- a give that waits, a take of the same number, and a step that did something don't
is_end_of-each_entry : map (is_end_of 1) (Idle (steps.Give 1) causes.Fence ∷ Idle (steps.Take 1) causes.Empty ∷ Unlocked 1 ∷ []) ≡ false ∷ false ∷ false ∷ []
is_end_of-each_entry = refl

-- host 0 may be asked for more after such an entry of host 1, and host 1 may not
IsOpen-other : IsOpen 0 (Unlocked 0 ∷ Idle (steps.Give 1) causes.Ended ∷ [])
unfolding IsOpen
IsOpen-other = (refl, (refl, tt))

IsOpen-ended : IsOpen 1 (Unlocked 0 ∷ Idle (steps.Give 1) causes.Ended ∷ []) → ⊥
unfolding IsOpen
IsOpen-ended free = absurd (differ free.1.0)
  where
    differ : true ≡ false → ⊥
    differ is = cc

-- What the sender of a ready link chooses.
use Rattle.std.proofs.Common.{◌≡◌, ℕ, ◌%◌, ◌≤◌, ◌&&◌, Bool, true, false, ◌⊎◌, inl, inr, refl, sym, ◌∙◌, arith}
use Rattle.hmc_numbers.specs.Direction.{Reached}
use Rattle.hmc_numbers.specs.Direction.Reached.{training, aborting, between, inside, spoilt}
use Rattle.hmc_numbers.specs.May.{IsGood}
use Rattle.hmc_link_state.specs.Choice.{Choice, choice, is_abort, is_training}
use Rattle.hmc_link_state.specs.Choice.Choice.{train, starved, next, clear, start, again, new, tret, pret, null}
use Rattle.hmc_link_state.specs.State.{Setup, Side, wire}
use Rattle.hmc_link_state.specs.Round.{sight}
use Rattle.hmc_link_state.proofs.Chosen.{Chosen, chosen}
use Rattle.hmc_link_state.proofs.Falls.{AreReady}
use Rattle.hmc_link_state.specs.Sees.{mode_of}

-- one of these
pub data Newer (c : Setup) (x y : Side) : Type 0 where
  goes : 1 ≤ (wire x).left → choice (sight c x y) ≡ next → Newer c x y
  begins_new : (n : ℕ) → (wire x).left ≡ 0 → choice (sight c x y) ≡ new n → Newer c x y
  returns : (wire x).left ≡ 0 → choice (sight c x y) ≡ tret → Newer c x y
  points : (wire x).left ≡ 0 → choice (sight c x y) ≡ pret → Newer c x y
  rests_now : (wire x).left ≡ 0 → choice (sight c x y) ≡ null → Newer c x y

pub no_train : (far : Reached) → IsGood far →
    is_training (mode_of far) ≡ true → ⊥
no_train training g h = g
no_train aborting g h = g
no_train between g h = cc h
no_train (inside n k) g h = cc h
no_train spoilt g h = g

pub no_abort : (far : Reached) (b : Bool) → IsGood far →
    (is_abort (mode_of far) && b) ≡ true →
    ⊥
no_abort training b g h = g
no_abort aborting b g h = g
no_abort between b g h = cc h
no_abort (inside n k) b g h = cc h
no_abort spoilt b g h = g

pub newer_is : (c : Setup) (x y : Side) → AreReady x y → Newer c x y
newer_is c x y k = by_choice (choice (sight c x y)) refl (chosen (sight c x y))
  where
    by_choice : (z : Choice) → choice (sight c x y) ≡ z → Chosen (sight c x y) z → Newer c x y
    by_choice train q h = absurd (no_train (wire y).far k.settled.1.good h)
    by_choice starved q h = absurd (cc h)
    by_choice next q h = goes h.1 q
    by_choice clear q h = absurd (by_why h.why)
      where
        by_why : (((wire x).clears % 32 ≡ 0) → ⊥)
            ⊎ (((wire x).clears % 32 ≡ 0) × (x.starts % 32 ≡ 0) × (x.go_back ≡ true)) → ⊥
        by_why (inl n) = n k.settled.0.clears
        by_why (inr z) = let u : true ≡ false = sym z.2 ∙ k.settled.0.back in cc u
    by_choice start q h = absurd (by_why h.why)
      where
        by_why : ((x.starts % 32 ≡ 0) → ⊥)
            ⊎ ((x.starts % 32 ≡ 0) × (x.go_back ≡ false)
            × ((is_abort
            (mode_of (wire y).far)
            && (sight c x y).is_long_ago) ≡ true)) → ⊥
        by_why (inl n) = n k.settled.0.starts
        by_why (inr z) = no_abort (wire y).far (sight c x y).is_long_ago k.settled.1.good z.2
    by_choice again q h = absurd (omega (arith, h.1, k.one.0))
    by_choice (new n) q h = begins_new n h.new.calm.left q
    by_choice tret q h = returns h.new.calm.left q
    by_choice pret q h = points h.0.new.calm.left q
    by_choice null q h = rests_now h.0.new.calm.left q

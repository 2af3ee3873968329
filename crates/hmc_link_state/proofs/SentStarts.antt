-- A send keeps the space between bursts of Starts.
use Rattle.std.proofs.Common.{◌≡◌, ◌≢◌, ℕ, zero, suc, ◌+◌, ◌%◌, ◌≤◌, nat_le, ◌&&◌, true, false, List, [], ◌∷◌, ◌++◌, ◌⊎◌, inl, inr, refl, sym, arith}
use Rattle.hmc_numbers.specs.Direction.{Item}
use Rattle.hmc_numbers.specs.Direction.Item.{filler, clear as cleared, part}
use Rattle.hmc_numbers.specs.Direction.Filler.{train as trains, start as starts, null as nulls, pret as prets}
use Rattle.hmc_numbers.specs.Direction.Reached.{aborting}
use Rattle.hmc_link_state.specs.Choice.{Choice, is_abort}
use Rattle.hmc_link_state.specs.Choice.Choice.{train, starved, next, clear, start, again, new, tret, pret, null}
use Rattle.hmc_link_state.specs.Sees.{mode_of}
use Rattle.hmc_link_state.specs.State.{Setup, Side, wire}
use Rattle.hmc_link_state.specs.Round.{sight, sent_by}
use Rattle.hmc_link_state.specs.Facts.{IsNotStart, Spaced, SideFacts}
use Rattle.hmc_link_state.proofs.Chosen.{Chosen, and_true, most_le}
use Rattle.hmc_link_state.proofs.SentFields.{no_starts, train_none}

pub long_ago_sent : (c : Setup) (own other : Side) (x : Choice) → (own.starts ≡ 0 → 64 ≤ own.others)
    → (sent_by c own other x).starts ≡ 0 → 64 ≤ (sent_by c own other x).others
long_ago_sent c own other start f q = absurd (omega (arith, q))
long_ago_sent c own other train f q = omega (arith, f q)
long_ago_sent c own other x f q = omega (arith, f q)

pub few_sent : (c : Setup) (own other : Side) (x : Choice) →
    ((wire own).far ≡ aborting → (wire own).clear_run ≤ 23) →
    (wire (sent_by c own other x)).far ≡ aborting → (wire (sent_by c own other x)).clear_run ≤ 23
few_sent c own other train f q = f q
few_sent c own other x f q = f q

pub before_same : (c : Setup) (own other : Side) (x : Choice) →
    (wire (sent_by c own other x)).before ≡ (wire own).before
before_same c own other train = refl
before_same c own other x = refl

spaced_start : (s o : ℕ) (z : Item) (g j : ℕ) (xs : List Item) → ((s % 32 ≡ 0) → 64 ≤ o) →
    Spaced s o z g j xs → Spaced (s + 1) 0 z g j (xs ++ filler starts ∷ [])
spaced_start s o z g zero [] f h = (
  omega (arith, f (sym h.0), h.1),
  (omega (arith, h.0), omega arith, λ l. absurd (omega (arith, l))),
)
spaced_start s o z g (suc j) [] f h =
    (omega (arith, h.0), omega arith, λ l. absurd (omega (arith, l)))
spaced_start s o z g zero (filler starts ∷ xs) f h =
    (h.0, spaced_start s o (filler starts) 0 1 xs f h.1)
spaced_start s o z g (suc j) (filler starts ∷ xs) f h =
    spaced_start s o (filler starts) 0 (suc (suc j) % 32) xs f h
spaced_start s o z g zero (filler trains ∷ xs) f h =
    (h.0, spaced_start s o (filler trains) (suc g) 0 xs f h.1)
spaced_start s o z g (suc j) (filler trains ∷ xs) f h =
    (h.0, spaced_start s o (filler trains) (suc g) 0 xs f h.1)
spaced_start s o z g zero (filler nulls ∷ xs) f h =
    (h.0, spaced_start s o (filler nulls) (suc g) 0 xs f h.1)
spaced_start s o z g (suc j) (filler nulls ∷ xs) f h =
    (h.0, spaced_start s o (filler nulls) (suc g) 0 xs f h.1)
spaced_start s o z g zero (filler prets ∷ xs) f h =
    (h.0, spaced_start s o (filler prets) (suc g) 0 xs f h.1)
spaced_start s o z g (suc j) (filler prets ∷ xs) f h =
    (h.0, spaced_start s o (filler prets) (suc g) 0 xs f h.1)
spaced_start s o z g zero (cleared ∷ xs) f h = (h.0, spaced_start s o cleared (suc g) 0 xs f h.1)
spaced_start s o z g (suc j) (cleared ∷ xs) f h = (h.0, spaced_start s o cleared (suc g) 0 xs f h.1)
spaced_start s o z g zero (part n k more ∷ xs) f h =
    (h.0, spaced_start s o (part n k more) (suc g) 0 xs f h.1)
spaced_start s o z g (suc j) (part n k more ∷ xs) f h =
    (h.0, spaced_start s o (part n k more) (suc g) 0 xs f h.1)

spaced_last : (s o : ℕ) (z : Item) (g j : ℕ) (y : Item) → IsNotStart y → s % 32 ≡ 0 →
    Spaced s o z g j [] → Spaced s (o + 1) z g j (y ∷ [])
spaced_last s o z g zero (filler starts) n q h = absurd n
spaced_last s o z g (suc j) (filler starts) n q h = absurd n
spaced_last s o z g zero (filler trains) n q h = (refl, (sym q, omega (arith, h.1), λ l. tt))
spaced_last s o z g (suc j) (filler trains) n q h = absurd (omega (arith, q, h.0))
spaced_last s o z g zero (filler nulls) n q h = (refl, (sym q, omega (arith, h.1), λ l. tt))
spaced_last s o z g (suc j) (filler nulls) n q h = absurd (omega (arith, q, h.0))
spaced_last s o z g zero (filler prets) n q h = (refl, (sym q, omega (arith, h.1), λ l. tt))
spaced_last s o z g (suc j) (filler prets) n q h = absurd (omega (arith, q, h.0))
spaced_last s o z g zero cleared n q h = (refl, (sym q, omega (arith, h.1), λ l. tt))
spaced_last s o z g (suc j) cleared n q h = absurd (omega (arith, q, h.0))
spaced_last s o z g zero (part a k more) n q h = (refl, (sym q, omega (arith, h.1), λ l. tt))
spaced_last s o z g (suc j) (part a k more) n q h = absurd (omega (arith, q, h.0))

spaced_other : (s o : ℕ) (z : Item) (g j : ℕ) (xs : List Item) (y : Item) → IsNotStart y →
    s % 32 ≡ 0 → Spaced s o z g j xs → Spaced s (o + 1) z g j (xs ++ y ∷ [])
spaced_other s o z g j [] y n q h = spaced_last s o z g j y n q h
spaced_other s o z g zero (filler starts ∷ xs) y n q h =
    (h.0, spaced_other s o (filler starts) 0 1 xs y n q h.1)
spaced_other s o z g (suc j) (filler starts ∷ xs) y n q h =
    spaced_other s o (filler starts) 0 (suc (suc j) % 32) xs y n q h
spaced_other s o z g zero (filler trains ∷ xs) y n q h =
    (h.0, spaced_other s o (filler trains) (suc g) 0 xs y n q h.1)
spaced_other s o z g (suc j) (filler trains ∷ xs) y n q h =
    (h.0, spaced_other s o (filler trains) (suc g) 0 xs y n q h.1)
spaced_other s o z g zero (filler nulls ∷ xs) y n q h =
    (h.0, spaced_other s o (filler nulls) (suc g) 0 xs y n q h.1)
spaced_other s o z g (suc j) (filler nulls ∷ xs) y n q h =
    (h.0, spaced_other s o (filler nulls) (suc g) 0 xs y n q h.1)
spaced_other s o z g zero (filler prets ∷ xs) y n q h =
    (h.0, spaced_other s o (filler prets) (suc g) 0 xs y n q h.1)
spaced_other s o z g (suc j) (filler prets ∷ xs) y n q h =
    (h.0, spaced_other s o (filler prets) (suc g) 0 xs y n q h.1)
spaced_other s o z g zero (cleared ∷ xs) y n q h =
    (h.0, spaced_other s o cleared (suc g) 0 xs y n q h.1)
spaced_other s o z g (suc j) (cleared ∷ xs) y n q h =
    (h.0, spaced_other s o cleared (suc g) 0 xs y n q h.1)
spaced_other s o z g zero (part a k more ∷ xs) y n q h =
    (h.0, spaced_other s o (part a k more) (suc g) 0 xs y n q h.1)
spaced_other s o z g (suc j) (part a k more ∷ xs) y n q h =
    (h.0, spaced_other s o (part a k more) (suc g) 0 xs y n q h.1)

pub long_if_zero : (c : Setup) (own other : Side) → Chosen (sight c own other) start →
    own.starts % 32 ≡ 0 → 64 ≤ own.others
long_if_zero c own other h q = by_why h.why
  where
    by_why : (own.starts % 32 ≢ 0)
        ⊎ ((own.starts % 32 ≡ 0) × (own.go_back ≡ false)
        × ((is_abort (mode_of (wire other).far) && nat_le 64 own.others) ≡ true)) → 64 ≤ own.others
    by_why (inl n) = absurd (n q)
    by_why (inr z) =
        most_le 64 own.others
        (and_true (is_abort (mode_of (wire other).far)) (nat_le 64 own.others) z.2).1

abbrev pub IsSpaced : Side → ℕ → ℕ → Type 0
IsSpaced x g j = Spaced x.starts x.others (wire x).before g j (wire x).line

pub spaced_sent : (c : Setup) (own other : Side) (x : Choice) (g j : ℕ) →
    Chosen (sight c own other) x → SideFacts c own other → IsSpaced own g j →
    IsSpaced (sent_by c own other x) g j
spaced_sent c own other starved g j h f s = absurd (cc h)
spaced_sent c own other start g j h f s =
    spaced_start own.starts own.others (wire own).before g j (wire own).line
    (long_if_zero c own other h) s
spaced_sent c own other train g j h f s =
    spaced_other own.starts own.others (wire own).before g j (wire own).line (filler trains) tt
    (train_none c own other h f).2 s
spaced_sent c own other next g j h f s =
    spaced_other own.starts own.others (wire own).before g j (wire own).line (part _ _ _) tt
    (f.whole h.1).1 s
spaced_sent c own other clear g j h f s =
    spaced_other own.starts own.others (wire own).before g j (wire own).line cleared tt
    (no_starts c own other h f) s
spaced_sent c own other again g j h f s =
    spaced_other own.starts own.others (wire own).before g j (wire own).line (part _ _ _) tt
    h.0.starts s
spaced_sent c own other (new n) g j h f s =
    spaced_other own.starts own.others (wire own).before g j (wire own).line (part _ _ _) tt
    h.new.calm.starts s
spaced_sent c own other tret g j h f s =
    spaced_other own.starts own.others (wire own).before g j (wire own).line (part _ _ _) tt
    h.new.calm.starts s
spaced_sent c own other pret g j h f s =
    spaced_other own.starts own.others (wire own).before g j (wire own).line (filler prets) tt
    h.0.new.calm.starts s
spaced_sent c own other null g j h f s =
    spaced_other own.starts own.others (wire own).before g j (wire own).line (filler nulls) tt
    h.0.new.calm.starts s

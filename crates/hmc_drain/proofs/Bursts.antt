-- How much of a burst is still owed, and what a sender in a burst sends.
use Rattle.std.proofs.Common.{◌≡◌, ◌≢◌, ℕ, zero, suc, ◌+◌, ◌-◌, ◌%◌, ◌<◌, ◌≤◌, ◌==◌, nat_le, ◌&&◌, Bool, true, false, if◌then◌else◌, ◌⊎◌, inl, inr, refl, sym, ◌∙◌, ap, arith}
use Rattle.std.proofs.lemmas.Grind.{common_steps}
use Rattle.hmc_numbers.specs.Direction.{Reached}
use Rattle.hmc_numbers.specs.Direction.Reached.{training, aborting, between, inside, spoilt}
use Rattle.hmc_link_state.specs.Choice.{Choice, choice, is_abort, is_training}
use Rattle.hmc_link_state.specs.Choice.Choice.{train, starved, next, clear, start, again, new, tret, pret, null}
use Rattle.hmc_link_state.specs.Sees.{mode_of}
use Rattle.hmc_link_state.specs.State.{Setup, Side, wire}
use Rattle.hmc_link_state.specs.Round.{sight, sent_by}
use Rattle.hmc_link_state.specs.Facts.{SideFacts}
use Rattle.hmc_drain.proofs.Backlog.{zero_or_more}
use Rattle.hmc_link_state.proofs.Chosen.{Chosen, chosen, most_le, and_true}
use Rattle.hmc_drain.proofs.RunEnds.{IsCleanFar}
use Rattle.hmc_drain.proofs.Settling.{eq_zero, eq_not}
use Rattle.hmc_link_state.proofs.SentFields.{no_starts}

-- Numbers of bursts

abbrev more_of : Bool → ℕ
more_of true = 32
more_of false = 0

-- Clears owed: the rest of a burst, and a burst where a go-back is due
abbrev pub owed_of : ℕ → Bool → ℕ
owed_of zero b = more_of b
owed_of (suc r) b = (31 - r) + more_of b

abbrev pub owed : Side → ℕ
owed x = owed_of ((wire x).clears % 32) x.go_back

more_most : (b : Bool) → more_of b ≤ 32
more_most true = omega arith
more_most false = omega arith

pub owed_most : (r : ℕ) (b : Bool) → owed_of r b ≤ 63
owed_most zero b = let z = more_most b in omega (arith, z)
owed_most (suc r) b = let z = more_most b in omega (arith, z)

pub owed_next : (n : ℕ) (b : Bool) → (n % 32 ≢ 0) ⊎ ((n % 32 ≡ 0) × (b ≡ true)) →
    suc (owed_of ((n + 1) % 32) (if n % 32 == 0 then false else b)) ≤ owed_of (n % 32) b
owed_next n b w = by_rest (n % 32) refl w
  where
    Goal : Type 0
    Goal = suc (owed_of ((n + 1) % 32) (if n % 32 == 0 then false else b)) ≤ owed_of (n % 32) b

    by_next : (s : ℕ) → n % 32 ≡ suc s → ((n + 1) % 32 ≡ 0) ⊎ (1 ≤ (n + 1) % 32) →
        suc (owed_of ((n + 1) % 32) (if n % 32 == 0 then false else b)) ≤ owed_of (n % 32) b
    by_next s q (inl t) =
        let e : (if n % 32 == 0 then false else b) ≡ b =
        ap (λ d. if d then false else b)
        (eq_not (n % 32) (λ z. absurd (omega (arith, z, q)))) in
        let u : owed_of ((n + 1) % 32) (if n % 32 == 0 then false else b) ≡ more_of b =
        ap (λ d. owed_of ((n + 1) % 32) d) e ∙ ap (λ r. owed_of r b) t in
        let v : owed_of (n % 32) b ≡ (31 - s) + more_of b = ap (λ r. owed_of r b) q in
        omega (arith, u, v, q, t)
    by_next s q (inr t) =
        let e : (if n % 32 == 0 then false else b) ≡ b =
        ap (λ d. if d then false else b)
        (eq_not (n % 32) (λ z. absurd (omega (arith, z, q)))) in
        let r : (n + 1) % 32 ≡ suc (suc s) = omega (arith, q, t) in
        let u : owed_of ((n + 1) % 32) (if n % 32 == 0 then false else b) ≡ (31 - suc s)
        + more_of b = ap (λ d. owed_of ((n + 1) % 32) d) e ∙ ap (λ k. owed_of k b) r in
        let v : owed_of (n % 32) b ≡ (31 - s) + more_of b = ap (λ k. owed_of k b) q in
        omega (arith, u, v, q, r)

    by_rest : (r : ℕ) → n % 32 ≡ r → (n % 32 ≢ 0) ⊎ ((n % 32 ≡ 0) × (b ≡ true)) →
        suc (owed_of ((n + 1) % 32) (if n % 32 == 0 then false else b)) ≤ owed_of (n % 32) b
    by_rest zero q (inl t) = absurd (t q)
    by_rest zero q (inr t) =
        let e : (if n % 32 == 0 then false else b) ≡ false =
        ap (λ d. if d then false else b) (eq_zero (n % 32) q) in
        let r : (n + 1) % 32 ≡ 1 = omega (arith, q) in
        let u : owed_of ((n + 1) % 32) (if n % 32 == 0 then false else b) ≡ 31 =
        ap (λ d. owed_of ((n + 1) % 32) d) e ∙ ap (λ k. owed_of k false) r in
        let v : owed_of (n % 32) b ≡ 32 = ap (λ k. owed_of k b) q ∙ ap more_of t.1 in
        omega (arith, u, v)
    by_rest (suc s) q t = by_next s q (zero_or_more ((n + 1) % 32))

-- the rest of a burst
abbrev pub rest_of : ℕ → ℕ
rest_of zero = 0
rest_of (suc r) = 31 - r

pub rest_most : (r : ℕ) → rest_of r ≤ 31
rest_most zero = omega arith
rest_most (suc r) = omega arith

pub rest_next : (n : ℕ) → n % 32 ≢ 0 → suc (rest_of ((n + 1) % 32)) ≤ rest_of (n % 32)
rest_next n h = by_rest (n % 32) refl
  where
    by_rest : (r : ℕ) → n % 32 ≡ r → suc (rest_of ((n + 1) % 32)) ≤ rest_of (n % 32)
    by_rest zero q = absurd (h q)
    by_rest (suc s) q = by_next (zero_or_more ((n + 1) % 32))
      where
        v : rest_of (n % 32) ≡ 31 - s
        v = ap rest_of q

        by_next : ((n + 1) % 32 ≡ 0) ⊎ (1 ≤ (n + 1) % 32) →
            suc (rest_of ((n + 1) % 32)) ≤ rest_of (n % 32)
        by_next (inl t) =
            let u : rest_of ((n + 1) % 32) ≡ 0 = ap rest_of t in omega (arith, u, v, q, t)
        by_next (inr t) =
            let r : (n + 1) % 32 ≡ suc (suc s) = omega (arith, q, t) in
            let u : rest_of ((n + 1) % 32) ≡ 31 - suc s =
            ap rest_of r in omega (arith, u, v, q, r)

rest_zero : (r : ℕ) → r ≡ 0 → rest_of r ≡ 0
rest_zero r q = ap rest_of q

-- What is sent

abort_mode : (far : Reached) → far ≡ aborting → is_abort (mode_of far) ≡ true
abort_mode far q = ap (λ f. is_abort (mode_of f)) q

abort_train : (far : Reached) → far ≡ aborting → is_training (mode_of far) ≡ true → ⊥
abort_train far q h =
    let z : is_training (mode_of far) ≡ false = ap (λ f. is_training (mode_of f)) q in
    let y : true ≡ false = sym h ∙ z in cc y

pub clean_train : (far : Reached) → IsCleanFar far → is_training (mode_of far) ≡ true → ⊥
clean_train training g h = g
clean_train spoilt g h = g
clean_train aborting g h = cc h
clean_train between g h = cc h
clean_train (inside n k) g h = cc h

pub long_choice : (m l : Bool) → m ≡ true → l ≡ true → (m && l) ≡ false → ⊥
long_choice true l p q h = let z : true ≡ false = sym q ∙ h in cc z
long_choice false l p q h = cc p

not_calm_abort : (far : Reached) (n : ℕ) → far ≡ aborting → 64 ≤ n →
    (is_abort (mode_of far) && nat_le 64 n) ≡ false → ⊥
not_calm_abort far n q l h =
    long_choice (is_abort (mode_of far)) (nat_le 64 n) (abort_mode far q)
    (grind (arith, common_steps)) h

-- a burst of Starts that isn't whole goes on
pub forced_start : (c : Setup) (y x : Side) → SideFacts c y x → IsCleanFar (wire x).far →
    y.starts % 32 ≢ 0 → choice (sight c y x) ≡ start
forced_start c y x f g n = by_choice (choice (sight c y x)) refl (chosen (sight c y x))
  where
    by_choice : (z : Choice) → choice (sight c y x) ≡ z → Chosen (sight c y x) z →
        choice (sight c y x) ≡ start
    by_choice train e h = absurd (clean_train (wire x).far g h)
    by_choice starved e h = absurd (cc h)
    by_choice next e h = absurd (n (f.whole h.1).1)
    by_choice clear e h = absurd (n (no_starts c y x h f))
    by_choice start e h = e
    by_choice again e h = absurd (n h.0.starts)
    by_choice (new m) e h = absurd (n h.new.calm.starts)
    by_choice tret e h = absurd (n h.new.calm.starts)
    by_choice pret e h = absurd (n h.0.new.calm.starts)
    by_choice null e h = absurd (n h.0.new.calm.starts)

pub forced_clear : (c : Setup) (x y : Side) → SideFacts c x y → IsCleanFar (wire y).far →
    (wire x).clears % 32 ≢ 0 → choice (sight c x y) ≡ clear
forced_clear c x y f g n = by_choice (choice (sight c x y)) refl (chosen (sight c x y))
  where
    by_choice : (z : Choice) → choice (sight c x y) ≡ z → Chosen (sight c x y) z →
        choice (sight c x y) ≡ clear
    by_choice train e h = absurd (clean_train (wire y).far g h)
    by_choice starved e h = absurd (cc h)
    by_choice next e h = absurd (n (f.whole h.1).0)
    by_choice clear e h = e
    by_choice start e h = absurd (n h.clears)
    by_choice again e h = absurd (n h.0.clears)
    by_choice (new m) e h = absurd (n h.new.calm.clears)
    by_choice tret e h = absurd (n h.new.calm.clears)
    by_choice pret e h = absurd (n h.0.new.calm.clears)
    by_choice null e h = absurd (n h.0.new.calm.clears)

-- a sender in Abort whose last Start is long ago
pub data Long (c : Setup) (y x : Side) : Type 0 where
  long_next : 1 ≤ (wire y).left → choice (sight c y x) ≡ next → Long c y x
  long_clear : choice (sight c y x) ≡ clear → ((wire y).clears % 32 ≢ 0)
      ⊎ (((wire y).clears % 32 ≡ 0) × (y.go_back ≡ true)) → Long c y x
  long_start : choice (sight c y x) ≡ start → Long c y x

pub long_is : (c : Setup) (y x : Side) → (wire x).far ≡ aborting → 64 ≤ y.others → Long c y x
long_is c y x q l = by_choice (choice (sight c y x)) refl (chosen (sight c y x))
  where
    never : (is_abort (mode_of (wire x).far) && nat_le 64 y.others) ≡ false → ⊥
    never h = not_calm_abort (wire x).far y.others q l h

    by_choice : (z : Choice) → choice (sight c y x) ≡ z → Chosen (sight c y x) z → Long c y x
    by_choice train e h = absurd (abort_train (wire x).far q h)
    by_choice starved e h = absurd (cc h)
    by_choice next e h = long_next h.1 e
    by_choice clear e h = long_clear e (by_why h.why)
      where
        by_why : ((wire y).clears % 32 ≢ 0)
            ⊎ (((wire y).clears % 32 ≡ 0) × (y.starts % 32 ≡ 0) × (y.go_back ≡ true)) →
            ((wire y).clears % 32 ≢ 0) ⊎ (((wire y).clears % 32 ≡ 0) × (y.go_back ≡ true))
        by_why (inl n) = inl n
        by_why (inr z) = inr (z.0, z.2)
    by_choice start e h = long_start e
    by_choice again e h = absurd (never h.0.abort)
    by_choice (new m) e h = absurd (never h.new.calm.abort)
    by_choice tret e h = absurd (never h.new.calm.abort)
    by_choice pret e h = absurd (never h.0.new.calm.abort)
    by_choice null e h = absurd (never h.0.new.calm.abort)

-- a sender that isn't to begin a burst of Starts sends something else
pub no_start_yet : (c : Setup) (y x : Side) → y.starts % 32 ≡ 0 → y.others < 64 →
    Chosen (sight c y x) start → ⊥
no_start_yet c y x z l h = by_why h.why
  where
    by_why : (y.starts % 32 ≢ 0)
        ⊎ ((y.starts % 32 ≡ 0) × (y.go_back ≡ false)
        × ((is_abort (mode_of (wire x).far) && nat_le 64 y.others) ≡ true)) → ⊥
    by_why (inl n) = n z
    by_why (inr a) =
        let v : 64 ≤ y.others =
        most_le 64 y.others
        (and_true (is_abort (mode_of (wire x).far)) (nat_le 64 y.others) a.2).1 in
        omega (arith, v, l)

pub other_sent : (c : Setup) (y x : Side) (z : Choice) → (Chosen (sight c y x) start → ⊥) →
    Chosen (sight c y x) z → ((sent_by c y x z).starts ≡ y.starts)
    × ((sent_by c y x z).others ≡ y.others + 1)
other_sent c y x start n h = absurd (n h)
other_sent c y x train n h = (refl, refl)
other_sent c y x z n h = (refl, refl)

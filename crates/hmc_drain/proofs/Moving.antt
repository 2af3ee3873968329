-- Where nothing crosses, a round makes the weight less, or nothing moves and its end is quiet.
use Rattle.std.proofs.Common.{◌≡◌, ℕ, zero, suc, ◌+◌, ◌-◌, ◌*◌, ◌≤◌, false, ◌⊎◌, inl, inr, sym, ap, subst, arith}
use Rattle.hmc_codes.specs.declared.profile.Profile.{Profile}
use Rattle.hmc_link_state.specs.State.{Setup, State, wire, under_way, weight}
use Rattle.hmc_link_state.specs.Round.{link_round, IsStuck, IsIdle, CubeRound, IsRound}
use Rattle.hmc_link_state.specs.Facts.{Facts}
use Rattle.hmc_link_state.specs.EachRound.{IsFit}
use Rattle.hmc_drain.specs.Stages.{MovesOrRests, IsLighterBy, IsQuiet, CrossesNot}
use Rattle.hmc_drain.proofs.Weight.{little, under_way_weighs}
use Rattle.hmc_link_state.proofs.Counts.{begun_count, accepted_count, Progress}
use Rattle.hmc_link_state.proofs.Keeps.{round_keeps, link_keeps, lighter_by}

pub less_or_more : (m n : ℕ) → (suc m ≤ n) ⊎ (n ≤ m)
less_or_more m zero = inr (omega arith)
less_or_more zero (suc n) = inl (omega arith)
less_or_more (suc m) (suc n) = by_less (less_or_more m n)
  where
    by_less : (suc m ≤ n) ⊎ (n ≤ m) → (suc (suc m) ≤ suc n) ⊎ (suc n ≤ suc m)
    by_less (inl h) = inl (omega (arith, h))
    by_less (inr h) = inr (omega (arith, h))

-- no request or response was begun or accepted
pub record Unchanged (s t : State) : Type 0 where
  pub forth_begun : begun_count (wire t.forth) ≡ begun_count (wire s.forth)
  pub back_begun : begun_count (wire t.back) ≡ begun_count (wire s.back)
  pub forth_accepted : accepted_count (wire t.forth) ≡ accepted_count (wire s.forth)
  pub back_accepted : accepted_count (wire t.back) ≡ accepted_count (wire s.back)

pub unchanged : (s t : State) → Progress s t → weight s ≤ weight t → Unchanged s t
unchanged s t p h =
    let z =
    by_sums (weight s) (weight t) (begun_count (wire s.forth)) (begun_count (wire t.forth))
    (begun_count (wire s.back)) (begun_count (wire t.back)) (accepted_count (wire s.forth))
    (accepted_count (wire t.forth)) (accepted_count (wire s.back))
    (accepted_count (wire t.back))
    p.weight p.begun.0 p.begun.1 p.accepted.0 p.accepted.1 h in
    record { forth_begun = z.0; back_begun = z.1; forth_accepted = z.2; back_accepted = z.3 }
  where
    by_sums : (w w' b b' g g' a a' h h' : ℕ) → w' + (800 * (b' + g') + 100 * (a' + h')) ≤ w
        + (800 * (b + g) + 100 * (a + h)) → b ≤ b' → g ≤ g' → a ≤ a' → h ≤ h' → w ≤ w' → (b' ≡ b)
        × (g' ≡ g) × (a' ≡ a) × (h' ≡ h)
    by_sums w w' b b' g g' a a' h h' l p q r t u =
        (omega arith, omega arith, omega arith, omega arith)

pub crossing_same : (b b' a a' : ℕ) → b' ≡ b → a' ≡ a → b - a ≡ 0 → b' - a' ≡ 0
crossing_same b b' a a' p q h = omega arith

quiet : (s t : State) → Progress s t → weight s ≤ weight t → CrossesNot s → 1 ≤ under_way s →
    IsStuck t → t.can_move ≡ false → IsQuiet t × (weight t ≡ weight s)
quiet s t p w h u k m =
    let z = unchanged s t p w in
    let l : weight t ≤ weight s = lighter_by s t p in
    let q : 1 ≤ weight s = under_way_weighs s u in
    let y : weight t ≤ 1805 * under_way t = little t in (
      (
        crossing_same (begun_count (wire s.forth)) (begun_count (wire t.forth))
            (accepted_count (wire s.forth)) (accepted_count (wire t.forth)) z.forth_begun
            z.forth_accepted h.0,
        crossing_same (begun_count (wire s.back)) (begun_count (wire t.back))
            (accepted_count (wire s.back)) (accepted_count (wire t.back)) z.back_begun
            z.back_accepted h.1,
        k,
        some (weight s) (weight t) (under_way t) w q y,
        m,
      ),
      same (weight s) (weight t) w l,
    )
  where
    some : (w w' u : ℕ) → w ≤ w' → 1 ≤ w → w' ≤ 1805 * u → 1 ≤ u
    some w w' u a b d = omega arith

    same : (w w' : ℕ) → w ≤ w' → w' ≤ w → w' ≡ w
    same w w' a b = omega arith

pub idle_stuck : (s t : State) → IsIdle s t → IsStuck s → IsStuck t
idle_stuck s t i k = subst IsStuck (sym i) (record { taken = k.taken; full = k.full })

round_moves : (p : Profile) (c : Setup) (s t : State) → IsFit p c → Facts c s → IsRound c s t →
    CrossesNot s → 1 ≤ under_way s → IsLighterBy 1 s t ⊎ (IsQuiet t × (weight t ≡ weight s))
round_moves p c s t f h r x u = by_weight (less_or_more (weight t) (weight s))
  where
    pr : Progress s t
    pr = (round_keeps p c s t f h r).1

    by_cube : CubeRound (link_round c r.0 r.1 s) t → weight s ≤ weight t → IsLighterBy 1 s t
        ⊎ (IsQuiet t × (weight t ≡ weight s))
    by_cube (inl m) w =
        let l : weight (link_round c r.0 r.1 s) ≤ weight s =
        lighter_by s (link_round c r.0 r.1 s) (link_keeps p c r.0 r.1 s f h r.2 r.3).1 in
        inl (lessen (weight s) (weight (link_round c r.0 r.1 s)) (weight t) l m.lighter)
      where
        lessen : (a b d : ℕ) → b ≤ a → suc d ≤ b → d + 1 ≤ a
        lessen a b d l m = omega arith
    by_cube (inr i) w =
        inr (quiet s t pr w x u (idle_stuck (link_round c r.0 r.1 s) t i.0 i.1)
        (ap (λ z. z.can_move) i.0))

    by_weight : (suc (weight t) ≤ weight s) ⊎ (weight s ≤ weight t) → IsLighterBy 1 s t
        ⊎ (IsQuiet t × (weight t ≡ weight s))
    by_weight (inl l) = inl (plus (weight s) (weight t) l)
      where
        plus : (a d : ℕ) → suc d ≤ a → d + 1 ≤ a
        plus a d l = omega arith
    by_weight (inr l) = by_cube r.4 l

pub moves : (p : Profile) (c : Setup) → MovesOrRests p c
moves p c = λ f run r a h. round_moves p c (run 0) (run 1) f a (r 0 (omega arith)) h.1 h.2

-- Tries in order make one round of the cube.
use Rattle.std.proofs.Common.{◌≡◌, ℕ, zero, suc, ◌<◌, Bool, true, false, ◌++◌, ◌⊎◌, inl, inr, refl, sym, ◌∙◌, ap, subst, arith, append_assoc}
use Rattle.hmc_link_state.specs.State.{Side, State}
use Rattle.hmc_link_state.specs.Round.{Moves, IsStuck, CubeRound}
use Rattle.hmc_link_state.specs.Tries.{Tries}
use Rattle.hmc_link_state.proofs.Keeps.{fair_append}

pub moves_on : (s t u : State) → Moves s t → Moves t u → Moves s u
moves_on s t u a b = record {
  lighter = omega (arith, a.lighter, b.lighter);
  fewer = omega (arith, a.fewer, b.fewer);
  rises = (omega (arith, a.rises, b.rises), omega (arith, a.rises, b.rises));
  forth =
      b.forth ∙ ap
      (λ (x : Side). record x {
        half = record x.half { moved = u.forth.half.moved };
        buffer = u.forth.buffer;
      }) a.forth;
  back =
      b.back ∙ ap
      (λ (x : Side). record x {
        half = record x.half { moved = u.back.half.moved };
        buffer = u.back.buffer;
        queue = u.back.queue;
      }) a.back;
  shifted = b.shifted ∙ a.shifted;
  taken = b.taken ∙ a.taken;
  lifted = (
    a.lifted.0 ++ b.lifted.0,
    fair_append a.lifted.0 b.lifted.0 a.lifted.1 b.lifted.1,
    b.lifted.2
        ∙ ap (λ q. q ++ b.lifted.0) a.lifted.2 ∙ append_assoc s.back.queue a.lifted.0 b.lifted.0,
  );
}

moves_flag : (s t : State) (b : Bool) → Moves s t → Moves s (record t { can_move = b })
moves_flag s t b m =
    record {
      lighter = m.lighter;
      fewer = m.fewer;
      rises = m.rises;
      forth = m.forth;
      back = m.back;
      shifted = m.shifted;
      taken = m.taken;
      lifted = m.lifted;
    }

tried : (n : ℕ) (R : ℕ → State → Type 0) (at : ℕ → State) → Tries n R at → Moves (at 0) (at n)
    ⊎ ((at n ≡ at 0) × ((i : ℕ) → i < n → R i (at 0)))
tried zero R at t = inr (refl, λ i h. absurd (omega (arith, h)))
tried (suc n) R at t = by_first (tried n R at (λ i h. t i (omega (arith, h)))) (t n (omega arith))
  where
    by_first : Moves (at 0) (at n) ⊎ ((at n ≡ at 0) × ((i : ℕ) → i < n → R i (at 0))) →
        Moves (at n) (at (suc n)) ⊎ ((at (suc n) ≡ at n) × R n (at n)) → Moves (at 0) (at (suc n))
        ⊎ ((at (suc n) ≡ at 0) × ((i : ℕ) → i < suc n → R i (at 0)))
    by_first (inl a) (inl b) = inl (moves_on (at 0) (at n) (at (suc n)) a b)
    by_first (inl a) (inr b) = inl (subst (Moves (at 0)) (sym b.0) a)
    by_first (inr a) (inl b) = inl (subst (λ s. Moves s (at (suc n))) a.0 b)
    by_first (inr a) (inr b) = inr (b.0 ∙ a.0, λ i h. by_last i (last_or i n h))
      where
        last_or : (i m : ℕ) → i < suc m → (i < m) ⊎ (i ≡ m)
        last_or zero zero h = inr refl
        last_or zero (suc m) h = inl (omega arith)
        last_or (suc i) zero h = absurd (omega (arith, h))
        last_or (suc i) (suc m) h = by_less (last_or i m (omega (arith, h)))
          where
            by_less : (i < m) ⊎ (i ≡ m) → (suc i < suc m) ⊎ (suc i ≡ suc m)
            by_less (inl l) = inl (omega (arith, l))
            by_less (inr q) = inr (ap suc q)

        by_last : (i : ℕ) → (i < n) ⊎ (i ≡ n) → R i (at 0)
        by_last i (inl l) = a.1 i l
        by_last i (inr q) = subst (λ j. R j (at 0)) (sym q) (subst (R n) a.0 b.1)

-- the flag after the tries: true after a move, false where each try was refused
pub tries_make_rounds : (n : ℕ) (R : ℕ → State → Type 0) (at : ℕ → State) → Tries n R at →
    (((i : ℕ) → i < n → R i (at 0)) → IsStuck (at 0)) →
    Moves (at 0) (record (at n) { can_move = true })
    ⊎ ((at n ≡ at 0) × ((i : ℕ) → i < n → R i (at 0))
    × CubeRound (at 0) (record (at 0) { can_move = false }))
tries_make_rounds n R at t k = by_tried (tried n R at t)
  where
    by_tried : Moves (at 0) (at n) ⊎ ((at n ≡ at 0) × ((i : ℕ) → i < n → R i (at 0))) →
        Moves (at 0) (record (at n) { can_move = true })
        ⊎ ((at n ≡ at 0) × ((i : ℕ) → i < n → R i (at 0))
        × CubeRound (at 0) (record (at 0) { can_move = false }))
    by_tried (inl m) = inl (moves_flag (at 0) (at n) true m)
    by_tried (inr m) = inr (m.0, m.1, inr (refl, k m.1))

-- All that is begun is acknowledged within 163 rounds of a ready link.
use Rattle.std.proofs.Common.{◌≡◌, ℕ, suc, ◌+◌, ◌≤◌, ◌⊎◌, inl, inr, subst, arith}
use Rattle.hmc_codes.specs.declared.profile.Profile.{Profile}
use Rattle.hmc_numbers.specs.Direction.{begun}
use Rattle.hmc_numbers.proofs.DirectionLaws.{unfinished}
use Rattle.hmc_link_state.specs.State.{Setup, Side, State, wire, IsSteady}
use Rattle.hmc_link_state.specs.Round.{IsRound, Rounds}
use Rattle.hmc_link_state.specs.Facts.{SideFacts, Facts}
use Rattle.hmc_link_state.specs.EachRound.{IsFit}
use Rattle.hmc_drain.proofs.Arriving.{arrive}
use Rattle.hmc_drain.proofs.Backlog.{zero_or_more}
use Rattle.hmc_link_state.proofs.Falls.{falls, facts_along, AreReady, ready_stays}
use Rattle.hmc_link_state.proofs.Turning.{stays_round, forth_turns, back_turns}
use Rattle.hmc_drain.proofs.Acking.{AcksSoon, Acking, acking_turns}
use Rattle.hmc_drain.proofs.AckCounting.{Counting, counting_turns, counting_first, counting_last}

-- Acknowledging: 82 rounds for the line and the packet begun, 17 to tell, 64 to count

record AreAcking (nf nb i : ℕ) (s : State) : Type 0 where
  ready : AreReady s.forth s.back
  forth : Acking nf i s.forth s.back
  back : Acking nb i s.back s.forth

acking_falls : (p : Profile) (c : Setup) → IsFit p c → (nf nb i : ℕ) (s t : State) → Facts c s →
    IsSteady c s → IsRound c s t → AreAcking nf nb (suc i) s → AreAcking nf nb i t
acking_falls p c f nf nb i s t h b r z = record {
  ready = stays_round p c AreReady (ready_stays c) f s t h r z.ready;
  forth =
      forth_turns p c AreReady (Acking nf (suc i)) (Acking nf i) (Acking nf i) (ready_stays c)
      (acking_turns c nf i) f s t h b r z.ready z.forth;
  back =
      back_turns p c AreReady (Acking nb (suc i)) (Acking nb i) (Acking nb i) (ready_stays c)
      (acking_turns c nb i) f s t h b r z.ready z.back;
}

acking_first : (c : Setup) (n : ℕ) (x y : Side) → SideFacts c x y → n ≤ (wire y).accepted →
    Acking n 17 x y
acking_first c n x y f h = record { accepted = h; sent = by_left (zero_or_more (wire x).left) }
  where
    by_left : ((wire x).left ≡ 0) ⊎ (1 ≤ (wire x).left) → AcksSoon n 17 x.ack_sent (wire x).left
    by_left (inl q) = inr (inr (q, omega arith))
    by_left (inr q) =
        let u =
        unfinished c.retry (wire x) (wire x).left f.joined.order.valid_sizes f.joined.order.last
        f.joined.order.unfinished q in inr (inl (q, omega (arith, u.2, u.3)))

acking_last : (n : ℕ) (x y : Side) → Acking n 0 x y → n ≤ x.ack_sent
acking_last n x y h = by_ack h.sent
  where
    by_ack : AcksSoon n 0 x.ack_sent (wire x).left → n ≤ x.ack_sent
    by_ack (inl t) = t
    by_ack (inr (inl t)) = absurd (omega (arith, t.0, t.1))
    by_ack (inr (inr t)) = absurd (omega (arith, t.1))

record AreCounting (nf nb i : ℕ) (s : State) : Type 0 where
  ready : AreReady s.forth s.back
  forth : Counting nf i s.forth s.back
  back : Counting nb i s.back s.forth

counting_falls : (p : Profile) (c : Setup) → IsFit p c → (nf nb i : ℕ) (s t : State) → Facts c s →
    IsSteady c s → IsRound c s t → AreCounting nf nb (suc i) s → AreCounting nf nb i t
counting_falls p c f nf nb i s t h b r z = record {
  ready = stays_round p c AreReady (ready_stays c) f s t h r z.ready;
  forth =
      forth_turns p c AreReady (Counting nf (suc i)) (Counting nf (suc i)) (Counting nf i)
      (ready_stays c) (counting_turns c nf i) f s t h b r z.ready z.forth;
  back =
      back_turns p c AreReady (Counting nb (suc i)) (Counting nb (suc i)) (Counting nb i)
      (ready_stays c) (counting_turns c nb i) f s t h b r z.ready z.back;
}

pub record Acknowledged (s t : State) : Type 0 where
  pub ready : AreReady t.forth t.back
  pub forth : begun (wire s.forth) ≤ (wire t.forth).acked
  pub back : begun (wire s.back) ≤ (wire t.back).acked

-- all that is begun now is acknowledged 163 rounds later
pub acknowledge : (p : Profile) (c : Setup) → IsFit p c → (run : ℕ → State) (k n : ℕ) →
    Rounds c run n → 163 + k ≤ n → Facts c (run k) → IsSteady c (run k) →
    AreReady (run k).forth (run k).back → Acknowledged (run k) (run (163 + k))
acknowledge p c f run k n r h a b y =
    let s : State = run k in
    let nf : ℕ = begun (wire s.forth) in
    let nb : ℕ = begun (wire s.back) in
    let z = arrive p c f run k n r (omega (arith, h)) a b y in
    let fa = facts_along p c f run 82 k n r (omega (arith, h)) a b in
    let t : AreAcking nb nf 0 (run (17 + (82 + k))) =
    falls p c (AreAcking nb nf) (acking_falls p c f nb nf) f run 17 (82 + k) n r
    (omega (arith, h)) fa.0 fa.1
    (record {
      ready = z.ready;
      forth = acking_first c nb (run (82 + k)).forth (run (82 + k)).back
          fa.0.forth z.back.0;
      back =
          acking_first c nf (run (82 + k)).back (run (82 + k)).forth fa.0.back z.forth.0;
    }) in
    let fb = facts_along p c f run 17 (82 + k) n r (omega (arith, h)) fa.0 fa.1 in
    let u : State = run (17 + (82 + k)) in
    let v : AreCounting nb nf 0 (run (64 + (17 + (82 + k)))) =
    falls p c (AreCounting nb nf) (counting_falls p c f nb nf) f run 64 (17 + (82 + k)) n r
    (omega (arith, h)) fb.0 fb.1
    (record {
      ready = t.ready;
      forth = counting_first c nb u.forth u.back f.line.1 fb.0.forth
          t.ready.settled.0 (acking_last nb u.forth u.back t.forth);
      back =
          counting_first c nf u.back u.forth f.line.1 fb.0.back t.ready.settled.1
          (acking_last nf u.back u.forth t.back);
    }) in
    let q : 64 + (17 + (82 + k)) ≡ 163 + k = omega arith in
    subst (λ j. Acknowledged s (run j)) q (record {
      ready = v.ready;
      forth =
          counting_last nf (run (64 + (17 + (82 + k)))).back (run (64 + (17 + (82 + k)))).forth
          v.back;
      back =
          counting_last nb (run (64 + (17 + (82 + k)))).forth (run (64 + (17 + (82 + k)))).back
          v.forth;
    })

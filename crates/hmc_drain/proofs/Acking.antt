-- A ready link sends the acknowledgement of what it has accepted within 17 rounds.
use Rattle.std.proofs.Common.{◌≡◌, ℕ, zero, suc, ◌-◌, ◌≤◌, nat_lt, Bool, true, false, if◌then◌else◌, List, [], ◌∷◌, length, ◌⊎◌, inl, inr, refl, sym, subst, arith}
use Rattle.hmc_numbers.specs.Events.{Reading}
use Rattle.hmc_link_state.specs.Choice.{Choice, choice}
use Rattle.hmc_link_state.specs.Choice.Choice.{train, starved, next, clear, start, again, new, tret, pret, null}
use Rattle.hmc_link_state.specs.State.{Setup, Side, wire, front_of, AreFairSizes}
use Rattle.std.specs.Prelude.{Some}
use Rattle.hmc_link_state.specs.Round.{sight, sent, sent_by, ack_after, front, event_here, is_counted_at, landed_own, costs_next}
use Rattle.hmc_link_state.proofs.Calm.{own_wire}
use Rattle.hmc_drain.proofs.Backlog.{sent_if_room, sends_next}
use Rattle.hmc_link_state.proofs.Chosen.{Chosen, chosen, eq_same}
use Rattle.hmc_link_state.proofs.Falls.{landed_sender, took_keeps, AreReady}
use Rattle.hmc_link_state.proofs.Keeps.{Both}
use Rattle.hmc_link_state.proofs.Lines.{far_lands}
use Rattle.hmc_link_state.proofs.SentFields.{accepted_same}
use Rattle.hmc_link_state.proofs.Turning.{Turning}
use Rattle.hmc_link_state.proofs.LandedFacts.{lands_up}
use Rattle.hmc_drain.proofs.ReadyChoice.{Newer, newer_is}
use Rattle.hmc_drain.proofs.ReadyChoice.Newer.{goes, begins_new, returns, points, rests_now}

-- n is acknowledged, or is within i sends
abbrev pub AcksSoon : (n i : ℕ) → (ack left : ℕ) → Type 0
AcksSoon n i ack left = (n ≤ ack) ⊎ (((1 ≤ left) × (left ≤ i)) ⊎ ((left ≡ 0) × (17 ≤ i)))

pub record Acking (n i : ℕ) (x y : Side) : Type 0 where
  pub accepted : n ≤ (wire y).accepted
  pub sent : AcksSoon n i x.ack_sent (wire x).left

ack_kept : (x : Choice) (n left ack a : ℕ) → n ≤ ack → n ≤ a → n ≤ ack_after x left ack a
ack_kept train n left ack a h k = h
ack_kept starved n left ack a h k = h
ack_kept clear n left ack a h k = k
ack_kept start n left ack a h k = k
ack_kept pret n left ack a h k = k
ack_kept null n left ack a h k = h
ack_kept next n zero ack a h k = k
ack_kept next n (suc l) ack a h k = h
ack_kept again n zero ack a h k = k
ack_kept again n (suc l) ack a h k = h
ack_kept (new m) n zero ack a h k = k
ack_kept (new m) n (suc l) ack a h k = h
ack_kept tret n zero ack a h k = k
ack_kept tret n (suc l) ack a h k = h

soon_next : (n i left ack a : ℕ) → n ≤ a → left ≤ i → AcksSoon n i (ack_after next left ack a) left
soon_next n i zero ack a h l = inl h
soon_next n i (suc k) ack a h l = inr (inl (omega arith, l))

soon_new : (m n i left ack a : ℕ) → n ≤ a → left ≤ i →
    AcksSoon n i (ack_after (new m) left ack a) left
soon_new m n i zero ack a h l = inl h
soon_new m n i (suc k) ack a h l = inr (inl (omega arith, l))

front_size : (ps : List ℕ) (n : ℕ) → AreFairSizes ps → front_of ps ≡ Some n → n ≤ 17
front_size [] n f q = absurd (cc q)
front_size (p ∷ ps) n f q = let z : p ≡ n = cc q in omega (arith, f.1, z)

acking_sent_by : (c : Setup) (n i : ℕ) (x y : Side) → Both c x y → AreReady x y →
    Acking n (suc i) x y →
    AcksSoon n i (sent_by c x y (choice (sight c x y))).ack_sent
    (wire (sent_by c x y (choice (sight c x y)))).left
acking_sent_by c n i x y b k h = by_ack h.sent
  where
    Goal : Choice → Type 0
    Goal z = AcksSoon n i (sent_by c x y z).ack_sent (wire (sent_by c x y z)).left

    by_ack : AcksSoon n (suc i) x.ack_sent (wire x).left →
        AcksSoon n i (sent_by c x y (choice (sight c x y))).ack_sent
        (wire (sent_by c x y (choice (sight c x y)))).left
    by_ack (inl t) =
        inl (ack_kept (choice (sight c x y)) n (wire (sent_by c x y (choice (sight c x y)))).left
        x.ack_sent (wire y).accepted t h.accepted)
    by_ack (inr (inl l)) =
        subst (λ z. AcksSoon n i (sent_by c x y z).ack_sent (wire (sent_by c x y z)).left)
        (sym (sends_next c x y k.settled.0 k.settled.1.good l.0))
        (soon_next n i ((wire x).left - 1) x.ack_sent (wire y).accepted h.accepted
        (omega (arith, l.1)))
    by_ack (inr (inr l)) = by_newer (newer_is c x y k)
      where
        by_newer : Newer c x y →
            AcksSoon n i (sent_by c x y (choice (sight c x y))).ack_sent
            (wire (sent_by c x y (choice (sight c x y)))).left
        by_newer (goes q e) = absurd (omega (arith, q, l.0))
        by_newer (begins_new m q e) =
            let u : Chosen (sight c x y) (new m) =
            subst (Chosen (sight c x y)) e (chosen (sight c x y)) in
            let v : m ≤ 17 = front_size x.queue m b.0.queue u.front in
            subst (λ z. AcksSoon n i (sent_by c x y z).ack_sent (wire (sent_by c x y z)).left)
            (sym e)
            (soon_new m n i (m - 1) x.ack_sent (wire y).accepted h.accepted (omega (arith, v, l.1)))
        by_newer (returns q e) =
            subst (λ z. AcksSoon n i (sent_by c x y z).ack_sent (wire (sent_by c x y z)).left)
            (sym e)
            (inl h.accepted)
        by_newer (points q e) =
            subst (λ z. AcksSoon n i (sent_by c x y z).ack_sent (wire (sent_by c x y z)).left)
            (sym e)
            (inl h.accepted)
        by_newer (rests_now q e) =
            let u : Chosen (sight c x y) null =
            subst (Chosen (sight c x y)) e (chosen (sight c x y)) in
            let v : x.ack_sent ≡ (wire y).accepted = eq_same x.ack_sent (wire y).accepted u.1 in
            subst (λ z. AcksSoon n i (sent_by c x y z).ack_sent (wire (sent_by c x y z)).left)
            (sym e)
            (inl (omega (arith, v, h.accepted)))

pub sent_accepted : (c : Setup) (x y : Side) → (wire (sent c x y)).accepted ≡ (wire x).accepted
sent_accepted c x y = by_full (nat_lt (length (wire x).line) c.line)
  where
    by_full : (b : Bool) →
        (wire (if b then sent_by c x y (choice (sight c x y)) else x)).accepted
        ≡ (wire x).accepted
    by_full true = accepted_same c x y (choice (sight c x y))
    by_full false = refl

pub landed_accepted : (x : Side) (costs : Bool) (look : Reading) →
    (wire x).accepted ≤ (wire (landed_own x costs look)).accepted
landed_accepted x costs look =
    subst (λ w. (wire x).accepted ≤ w.accepted)
    (sym (own_wire x.half 0 (is_counted_at x (wire x).far (event_here x look))
    (event_here x look)))
    (lands_up (wire x) (event_here x look) (far_lands x look (front x) (wire x).far))

pub acking_turns : (c : Setup) (n i : ℕ) →
    Turning c AreReady (Acking n (suc i)) (Acking n i) (Acking n i)
acking_turns c n i = record {
  link = record {
    send =
        λ x y b k l h.
        record {
          accepted = h.accepted;
          sent =
              subst (λ s. AcksSoon n i s.ack_sent (wire s).left) (sym (sent_if_room c x y l))
              (acking_sent_by c n i x y b k h);
        };
    send_before =
        λ x y b k h. record {
          accepted = omega (arith, h.accepted, sent_accepted c y x);
          sent = h.sent;
        };
    send_after =
        λ x y b k h. record {
          accepted = omega (arith, h.accepted, sent_accepted c y x);
          sent = h.sent;
        };
    land =
        λ x y look b k l h.
        record {
          accepted = took_keeps (λ w. n ≤ w.accepted) (λ w a z. z) x y look h.accepted;
          sent =
              subst (λ m. AcksSoon n i x.ack_sent m) (sym
              (landed_sender x (costs_next x) look).left)
              h.sent;
        };
    land_before =
        λ x y look b k l h.
        record {
          accepted = omega (arith, h.accepted, landed_accepted y (costs_next y) look);
          sent = took_keeps (λ w. AcksSoon n i x.ack_sent w.left) (λ w a z. z) y x look h.sent;
        };
    land_after =
        λ x y look b k l h.
        record {
          accepted = omega (arith, h.accepted, landed_accepted y (costs_next y) look);
          sent = took_keeps (λ w. AcksSoon n i x.ack_sent w.left) (λ w a z. z) y x look h.sent;
        };
  };
  moved = λ x y a e bx by qx qy h. record { accepted = h.accepted; sent = h.sent };
}

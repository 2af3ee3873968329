-- A settled sender that is behind catches up.
use Rattle.std.proofs.Common.{◌≡◌, ℕ, suc, ◌+◌, ◌-◌, ◌<◌, ◌≤◌, max, Bool, true, false, if◌then◌else◌, List, length, ◌⊎◌, inl, inr, sym, subst, arith}
use Rattle.hmc_codes.specs.declared.profile.Profile.{Profile}
use Rattle.hmc_numbers.specs.Weights.{Weight, flits_to}
use Rattle.hmc_numbers.specs.Direction.{Direction, begun, position}
use Rattle.hmc_numbers.specs.Events.{Reading}
use Rattle.hmc_numbers.specs.Pair.{other_after, front_stamp}
use Rattle.hmc_numbers.specs.Pair.Move.{does, counts}
use Rattle.hmc_numbers.proofs.DirectionLaws.{unfinished, position_begun}
use Rattle.hmc_numbers.proofs.Sums.{upto-up, flits-less}
use Rattle.hmc_link_state.specs.State.{Setup, Side, State, wire, IsSteady}
use Rattle.hmc_link_state.specs.Round.{sent, landed_own, landed_other, event_here, is_counted_at, costs_next, IsRound}
use Rattle.hmc_link_state.specs.Facts.{SideFacts, Facts}
use Rattle.hmc_link_state.specs.EachRound.{IsFit}
use Rattle.hmc_drain.specs.Stages.{CatchesUp}
use Rattle.hmc_drain.proofs.Backlog.{sent_gains, zero_or_more}
use Rattle.hmc_link_state.proofs.Falls.{falls, facts_along, landed_sender, AreSettled, settled_stays, stamp_between}
use Rattle.hmc_link_state.proofs.Keeps.{Both}
use Rattle.hmc_link_state.proofs.LandedEvents.{SameSender}
use Rattle.hmc_drain.proofs.Moving.{less_or_more}
use Rattle.hmc_link_state.proofs.Ready.{sent_caught, higher_caught}
use Rattle.hmc_link_state.proofs.Turning.{Turning, stays_round, forth_turns, back_turns}

-- caught up, or at most n flits behind
abbrev Behind : ℕ → (acked last left : ℕ) → List Weight → Type 0
Behind n acked last left first =
    (max acked last ≡ length first)
    ⊎ (left + (flits_to first (length first) - flits_to first (max acked last)) ≤ n)

abbrev pub IsBehind : ℕ → Side → Side → Type 0
IsBehind n x y = Behind n (wire x).acked (wire x).last (wire x).left (wire x).first

same_backlog : (n : ℕ) (w v : Direction) → SameSender w v → Behind n w.acked w.last w.left w.first →
    Behind n v.acked v.last v.left v.first
same_backlog n w v s h =
    subst (λ a. Behind n a v.last v.left v.first) (sym s.acked)
    (subst (λ a. Behind n w.acked a v.left v.first) (sym s.last)
    (subst (λ a. Behind n w.acked w.last a v.first) (sym s.left)
    (subst (λ a. Behind n w.acked w.last w.left a) (sym s.first) h)))

backlog_sent : (c : Setup) (n : ℕ) (x y : Side) → Both c x y → AreSettled x y →
    suc (length (wire x).line) ≤ c.line → IsBehind (suc n) x y → IsBehind n (sent c x y) y
backlog_sent c n x y b k l (inl h) =
    inl (sent_caught c x y k.0 k.1.good
    (h, omega (arith, b.0.joined.order.acked, b.0.joined.order.accepted))).0
backlog_sent c n x y b k l (inr h) = by_less (less_or_more (position (wire x)) (begun (wire x)))
  where
    by_less : (position (wire x) < begun (wire x)) ⊎ (begun (wire x) ≤ position (wire x)) →
        IsBehind n (sent c x y) y
    by_less (inl q) =
        inr (omega (arith, sent_gains c x y k.0 k.1.good l b.0.joined.order.valid_sizes q, h))
    by_less (inr q) = let z = position_begun c.retry (wire x) b.0.joined.order in
        inl (sent_caught c x y k.0 k.1.good (
          omega (arith, q, z),
          omega (arith, b.0.joined.order.acked, b.0.joined.order.accepted),
        )).0

acked_later : (n a m last left : ℕ) (first : List Weight) → a ≤ m → m ≤ length first →
    a ≤ length first → Behind n a last left first → Behind n m last left first
acked_later n a m last left first l u v (inl h) =
    inl (higher_caught a m last (length first) (h, v) l u).0
acked_later n a m last left first l u v (inr h) =
    let z = upto-up (λ s. s.flits) first (max a last) (max m last) (omega (arith, l)) in
    inr (omega (arith, z, h))

backlog_took : (c : Setup) (n : ℕ) (x y : Side) (look : Reading) → Both c x y → IsBehind n x y →
    IsBehind n (landed_other y x look) (landed_own y (costs_next y) look)
backlog_took c n x y look b h = by_count (is_counted_at y (wire y).far (event_here y look))
  where
    by_count : (d : Bool) →
        Behind n
        (other_after y.half x.half (if d then counts (event_here y look)
        else does (event_here y look))).direction.acked
        (other_after y.half x.half (if d then counts (event_here y look)
        else does (event_here y look))).direction.last
        (other_after y.half x.half (if d then counts (event_here y look)
        else does (event_here y look))).direction.left
        (other_after y.half x.half (if d then counts (event_here y look)
        else does (event_here y look))).direction.first
    by_count true =
        let z = stamp_between c y x (b.1, b.0) in
        acked_later n (wire x).acked (front_stamp (wire x).acked y.half.stamps) (wire x).last
        (wire x).left (wire x).first z.0 (omega (arith, z.1, b.0.joined.order.accepted))
        (omega (arith, b.0.joined.order.acked, b.0.joined.order.accepted)) h
    by_count false = h

behind_turns : (c : Setup) (n : ℕ) →
    Turning c AreSettled (IsBehind (suc n)) (IsBehind n) (IsBehind n)
behind_turns c n = record {
  link = record {
    send = backlog_sent c n;
    send_before = λ x y b k h. h;
    send_after = λ x y b k h. h;
    land =
        λ x y look b k l h. same_backlog n (wire x) (wire (landed_own x (costs_next x) look))
        (landed_sender x (costs_next x) look) h;
    land_before = λ x y look b k l h. backlog_took c n x y look b h;
    land_after = λ x y look b k l h. backlog_took c n x y look b h;
  };
  moved = λ x y m i bx by qx qy h. h;
}

record AreBehind (n : ℕ) (s : State) : Type 0 where
  settled : AreSettled s.forth s.back
  forth : IsBehind n s.forth s.back
  back : IsBehind n s.back s.forth

backlog_falls : (p : Profile) (c : Setup) → IsFit p c → (n : ℕ) (s t : State) → Facts c s →
    IsSteady c s → IsRound c s t → AreBehind (suc n) s → AreBehind n t
backlog_falls p c f n s t h b r z = record {
  settled = stays_round p c AreSettled (settled_stays c) f s t h r z.settled;
  forth =
      forth_turns p c AreSettled (IsBehind (suc n)) (IsBehind n) (IsBehind n) (settled_stays c)
      (behind_turns c n) f s t h b r z.settled z.forth;
  back =
      back_turns p c AreSettled (IsBehind (suc n)) (IsBehind n) (IsBehind n) (settled_stays c)
      (behind_turns c n) f s t h b r z.settled z.back;
}

little_backlog : (c : Setup) (x y : Side) → SideFacts c x y → c.retry ≤ 1024 → IsBehind 1500 x y
little_backlog c x y f r = inr (by_left (zero_or_more (wire x).left))
  where
    w : Direction
    w = wire x

    by_left : (w.left ≡ 0) ⊎ (1 ≤ w.left) →
        w.left + (flits_to w.first (length w.first) - flits_to w.first (max w.acked w.last)) ≤ 1500
    by_left (inl l) =
        let z = upto-up (λ s. s.flits) w.first w.acked (max w.acked w.last) (omega arith) in
        omega (arith, l, z, f.joined.order.room, r)
    by_left (inr l) =
        let z = upto-up (λ s. s.flits) w.first w.acked (max w.acked w.last) (omega arith) in
        let u =
        unfinished c.retry w w.left f.joined.order.valid_sizes f.joined.order.last
        f.joined.order.unfinished l in
        omega (arith, u.2, u.3, z, f.joined.order.room, r)

caught : (c : Setup) (x y : Side) → SideFacts c x y → IsBehind 0 x y →
    position (wire x) ≡ begun (wire x)
caught c x y f (inl h) = h
caught c x y f (inr h) = by_less (less_or_more (position (wire x)) (begun (wire x)))
  where
    by_less : (position (wire x) < begun (wire x)) ⊎ (begun (wire x) ≤ position (wire x)) →
        position (wire x) ≡ begun (wire x)
    by_less (inl q) =
        let z =
        flits-less (wire x).first (position (wire x)) (begun (wire x)) f.joined.order.valid_sizes
        q (omega arith) in absurd (omega (arith, z, h))
    by_less (inr q) = let z = position_begun c.retry (wire x) f.joined.order in omega (arith, q, z)

pub catches : (p : Profile) (c : Setup) → CatchesUp p c
catches p c = λ f run r a h.
    let z : AreBehind 0 (run (1500 + 0)) =
    falls p c AreBehind (backlog_falls p c f) f run 1500 0 1500 r (omega arith) a h.0
    (record {
      settled = h.1;
      forth = little_backlog c (run 0).forth (run 0).back a.forth
          f.retry.2;
      back = little_backlog c (run 0).back (run 0).forth a.back f.retry.2;
    }) in
    let y = facts_along p c f run 1500 0 1500 r (omega arith) a h.0 in (
      y.1,
      z.settled,
      (
        caught c (run 1500).forth (run 1500).back y.0.forth z.forth,
        caught c (run 1500).back (run 1500).forth y.0.back z.back,
      ),
    )

-- What falls by one in each round is 0 in as many rounds. What a landing leaves of a sender.
use Rattle.std.proofs.Common.{◌≡◌, ℕ, zero, suc, ◌+◌, ◌≤◌, Bool, true, false, if◌then◌else◌, List, sym, subst, arith}
use Rattle.hmc_codes.specs.declared.profile.Profile.{Profile}
use Rattle.hmc_numbers.specs.Direction.{Direction}
use Rattle.hmc_numbers.specs.Events.{Reading}
use Rattle.hmc_numbers.specs.Pair.{other_after}
use Rattle.hmc_numbers.specs.Pair.Move.{does, counts}
use Rattle.hmc_link_state.specs.State.{Setup, Side, State, wire, IsSteady, IsSettledSide}
use Rattle.hmc_link_state.specs.Round.{front, landed_own, landed_other, event_here, is_counted_at, costs_next, IsRound, Rounds}
use Rattle.hmc_link_state.specs.Facts.{Facts}
use Rattle.hmc_link_state.specs.EachRound.{IsFit}
use Rattle.hmc_link_state.proofs.Along.{along}
use Rattle.hmc_link_state.proofs.Calm.{sent_settled, landed_own_settled, landed_other_settled, own_wire}
use Rattle.hmc_link_state.proofs.Keeps.{Both, round_keeps, with_moved}
use Rattle.hmc_link_state.proofs.Lines.{far_lands}
use Rattle.hmc_link_state.proofs.LandedEvents.{SameSender, lands_same}
use Rattle.hmc_link_state.proofs.Ready.{IsCaught, sent_caught, own_caught, other_caught}
use Rattle.hmc_link_state.proofs.Steady.{stays_steady}
use Rattle.hmc_link_state.proofs.Turning.{Stays}
use Rattle.hmc_numbers.proofs.Rising.{rising_front}

-- one round from a state with facts
pub one_round : (p : Profile) (c : Setup) → IsFit p c → (run : ℕ → State) (k n : ℕ) →
    Rounds c run n → suc k ≤ n → Facts c (run k) → IsSteady c (run k) → Facts c (run (suc k))
    × IsSteady c (run (suc k))
one_round p c f run k n r h a b =
    let q : 1 + k ≡ suc k = omega arith in (
      (round_keeps p c (run k) (run (suc k)) f a (r k h)).0,
      subst (λ j. IsSteady c (run j)) q
          (along p c 1 (IsSteady c) (λ s t. IsSteady c t) (stays_steady p c) f run k n r
          (omega (arith, h)) a b),
    )

pub falls : (p : Profile) (c : Setup) (G : ℕ → State → Type 0) →
    ((n : ℕ) (s t : State) → Facts c s → IsSteady c s → IsRound c s t → G (suc n) s → G n t) →
    IsFit p c → (run : ℕ → State) (m k n : ℕ) → Rounds c run n → m + k ≤ n → Facts c (run k) →
    IsSteady c (run k) → G m (run k) → G 0 (run (m + k))
falls p c G g f run zero k n r h a b d =
    let q : k ≡ 0 + k = omega arith in subst (λ j. G 0 (run j)) q d
falls p c G g f run (suc m) k n r h a b d =
    let l : suc k ≤ n = omega (arith, h) in
    let z = one_round p c f run k n r l a b in
    let y : G m (run (suc k)) = g m (run k) (run (suc k)) a b (r k l) d in
    let q : m + suc k ≡ suc m + k = omega arith in
    subst (λ j. G 0 (run j)) q (falls p c G g f run m (suc k) n r (omega (arith, h)) z.0 z.1 y)

pub facts_along : (p : Profile) (c : Setup) → IsFit p c → (run : ℕ → State) (m k n : ℕ) →
    Rounds c run n → m + k ≤ n → Facts c (run k) → IsSteady c (run k) → Facts c (run (m + k))
    × IsSteady c (run (m + k))
facts_along p c f run zero k n r h a b =
    let q : k ≡ 0 + k = omega arith in subst (λ j. Facts c (run j) × IsSteady c (run j)) q (a, b)
facts_along p c f run (suc m) k n r h a b =
    let z = facts_along p c f run m k n r (omega (arith, h)) a b in
    let q : suc (m + k) ≡ suc m + k = omega arith in
    subst (λ j. Facts c (run j) × IsSteady c (run j)) q
    (one_round p c f run (m + k) n r (omega (arith, h)) z.0 z.1)

-- Landings

pub landed_sender : (x : Side) (costs : Bool) (look : Reading) →
    SameSender (wire x) (wire (landed_own x costs look))
landed_sender x costs look =
    subst (SameSender (wire x))
    (sym (own_wire x.half 0 (is_counted_at x (wire x).far (event_here x look))
    (event_here x look)))
    (lands_same (wire x) (event_here x look) (far_lands x look (front x) (wire x).far))

-- what doesn't read how many are acknowledged
pub took_keeps : (P : Direction → Type 0) →
    ((w : Direction) (n : ℕ) → P w → P (record w { acked = n })) → (y x : Side) (look : Reading) →
    P (wire x) → P (wire (landed_other y x look))
took_keeps P k y x look h = by_count (is_counted_at y (wire y).far (event_here y look))
  where
    by_count : (b : Bool) →
        P (other_after y.half x.half (if b then counts (event_here y look)
        else does (event_here y look))).direction
    by_count true = k (wire x) _ h
    by_count false = h

-- Contexts

abbrev pub AreSettled : Side → Side → Type 0
AreSettled x y = IsSettledSide x × IsSettledSide y

settled_moved : (x : Side) (n : ℕ) (bf q : List ℕ) → IsSettledSide x →
    IsSettledSide (with_moved x n bf q)
settled_moved x n bf q h =
    record {
      good = h.good;
      opened = h.opened;
      clears = h.clears;
      starts = h.starts;
      back = h.back;
      line = h.line;
    }

pub settled_stays : (c : Setup) → Stays c AreSettled
settled_stays c = record {
  swap = λ x y h. (h.1, h.0);
  send = λ x y b h. (sent_settled c x y h.0 h.1.good, h.1);
  land =
      λ x y look b l h. (
        landed_own_settled x (costs_next x) look h.0,
        landed_other_settled x y look h.0 l.some h.1,
      );
  moved = λ x y m n bx by qx qy h. (settled_moved x m bx qx h.0, settled_moved y n by qy h.1);
}

-- settled and caught up
pub record AreReady (x y : Side) : Type 0 where
  pub settled : AreSettled x y
  pub one : IsCaught x
  pub two : IsCaught y

pub stamp_between : (c : Setup) (x y : Side) → Both c x y →
    ((wire y).acked ≤ Rattle.hmc_numbers.specs.Pair.front_stamp (wire y).acked x.half.stamps)
    × (Rattle.hmc_numbers.specs.Pair.front_stamp (wire y).acked x.half.stamps ≤ (wire y).accepted)
stamp_between c x y b =
    rising_front (wire y).acked (wire y).accepted x.half.stamps b.0.joined.stamps

pub ready_stays : (c : Setup) → Stays c AreReady
ready_stays c = record {
  swap = λ x y h. record { settled = (h.settled.1, h.settled.0); one = h.two; two = h.one };
  send =
      λ x y b h. record {
        settled = (settled_stays c).send x y b h.settled;
        one = sent_caught c x y h.settled.0 h.settled.1.good h.one;
        two = h.two;
      };
  land = λ x y look b l h. let z = stamp_between c x y b in
      record {
        settled = (settled_stays c).land x y look b l h.settled;
        one =
            own_caught x (costs_next x) look h.settled.0 h.one;
        two =
            other_caught x y look h.two z.0 (omega (arith, z.1, b.1.joined.order.accepted));
      };
  moved =
      λ x y m n bx by qx qy h.
      record {
        settled = (settled_stays c).moved x y m n bx by qx qy h.settled;
        one = h.one;
        two = h.two;
      };
}

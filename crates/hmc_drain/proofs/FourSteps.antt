-- A round by four steps, each of which may be the one that makes progress: y sends, x sends, y's
-- line lands, x's line lands.
use Rattle.std.proofs.Common.{ℕ, suc, ◌+◌, ◌≤◌, List, length}
use Rattle.hmc_codes.specs.declared.profile.Profile.{Profile}
use Rattle.hmc_numbers.specs.Events.{Reading}
use Rattle.hmc_link_state.specs.State.{Setup, Side, State, wire, IsSteady}
use Rattle.hmc_link_state.specs.Round.{sent, landed_own, landed_other, link_round, costs_next, IsRound, Rounds}
use Rattle.hmc_link_state.specs.Facts.{Facts}
use Rattle.hmc_link_state.specs.EachRound.{IsFit}
use Rattle.hmc_link_state.proofs.Falls.{falls}
use Rattle.hmc_link_state.proofs.Keeps.{Both, within, with_moved}
use Rattle.hmc_link_state.proofs.Turning.{Landing, Stays, contexts, by_moves, swap_both, stays_round}

-- a, b, d, e: the limits of what y's send, x's send, y's landing and x's landing bring forward
pub record FourSteps (c : Setup) (K : Side → Side → Type 0)
    (S : ℕ → ℕ → ℕ → ℕ → Side → Side → Type 0) :
    Type 0 where
  pub y_send : (m b : ℕ) (x y : Side) → Both c x y → K x y → suc (length (wire y).line) ≤ c.line →
      S (suc m) b (suc m) (suc m) x y → S m b (suc m) (suc m) x (sent c y x)
  pub x_send : (m a : ℕ) (x y : Side) → Both c x y → K x y → suc (length (wire x).line) ≤ c.line →
      S a (suc m) (suc m) (suc m) x y → S a m (suc m) (suc m) (sent c x y) y
  pub y_land : (m e : ℕ) (x y : Side) (look : Reading) → Both c x y → K x y → Landing y look →
      S m m (suc m) e x y → S m m m e (landed_other y x look) (landed_own y (costs_next y) look)
  pub x_land : (m d : ℕ) (x y : Side) (look : Reading) → Both c x y → K x y → Landing x look →
      S m m d (suc m) x y → S m m d m (landed_own x (costs_next x) look) (landed_other x y look)
  pub moved : (m : ℕ) (x y : Side) (n i : ℕ) (bx by qx qy : List ℕ) → S m m m m x y →
      S m m m m (with_moved x n bx qx) (with_moved y i by qy)

pub forth_four : (p : Profile) (c : Setup) (K : Side → Side → Type 0) (S : ℕ → ℕ → ℕ → ℕ → Side →
    Side → Type 0) → Stays c K → FourSteps c K S → IsFit p c → (m : ℕ) (s t : State) → Facts c s →
    IsSteady c s → IsRound c s t → K s.forth s.back →
    S (suc m) (suc m) (suc m) (suc m) s.forth s.back → S m m m m t.forth t.back
forth_four p c K S k u f m s t h n r x z =
    let w = within p c r.0 r.1 s f h r.2 r.3 in
    let v = contexts p c K r.0 r.1 s k h w r.2 r.3 x in
    let a : Side = sent c s.forth s.back in
    let d : Side = sent c s.back a in
    let e : Side = landed_own a (costs_next a) r.0 in
    let g : Side = landed_other a d r.0 in
    let q1 : S (suc m) m (suc m) (suc m) a s.back =
    u.x_send m (suc m) s.forth s.back (h.forth, h.back) x n.0 z in
    let q2 : S m m (suc m) (suc m) a d = u.y_send m m a s.back w.sent_one v.one n.1 q1 in
    let q3 : S m m (suc m) m e g =
    u.x_land m (suc m) a d r.0 (swap_both c d a w.sent_two) v.two
    (record { some = w.half_one.1; reads = r.2 }) q2 in
    by_moves (S m m m m) (u.moved m) (link_round c r.0 r.1 s) t r.4
    (u.y_land m m e g r.1 w.landed_one v.three (record { some = w.some; reads = r.3 }) q3)

pub back_four : (p : Profile) (c : Setup) (K : Side → Side → Type 0) (S : ℕ → ℕ → ℕ → ℕ → Side →
    Side → Type 0) → Stays c K → FourSteps c K S → IsFit p c → (m : ℕ) (s t : State) → Facts c s →
    IsSteady c s → IsRound c s t → K s.forth s.back →
    S (suc m) (suc m) (suc m) (suc m) s.back s.forth → S m m m m t.back t.forth
back_four p c K S k u f m s t h n r x z =
    let w = within p c r.0 r.1 s f h r.2 r.3 in
    let v = contexts p c K r.0 r.1 s k h w r.2 r.3 x in
    let a : Side = sent c s.forth s.back in
    let d : Side = sent c s.back a in
    let e : Side = landed_own a (costs_next a) r.0 in
    let g : Side = landed_other a d r.0 in
    let q1 : S m (suc m) (suc m) (suc m) s.back a =
    u.y_send m (suc m) s.back s.forth (h.back, h.forth) (k.swap s.forth s.back x) n.0 z in
    let q2 : S m m (suc m) (suc m) d a =
    u.x_send m m s.back a (swap_both c a s.back w.sent_one) (k.swap a s.back v.one) n.1 q1 in
    let q3 : S m m m (suc m) g e =
    u.y_land m (suc m) d a r.0 w.sent_two (k.swap a d v.two)
    (record { some = w.half_one.1; reads = r.2 }) q2 in
    let q4 : S m m m m (link_round c r.0 r.1 s).back (link_round c r.0 r.1 s).forth =
    u.x_land m m g e r.1 (swap_both c e g w.landed_one) (k.swap e g v.three)
    (record { some = w.some; reads = r.3 }) q3 in
    by_moves (λ y b. S m m m m b y) (λ y b i n by bx qy qx. u.moved m b y n i bx by qx qy)
    (link_round c r.0 r.1 s) t r.4 q4

record Stages (K : Side → Side → Type 0) (S : ℕ → ℕ → ℕ → ℕ → Side → Side → Type 0) (m : ℕ)
    (s : State) : Type 0 where
  context : K s.forth s.back
  forth : S m m m m s.forth s.back
  back : S m m m m s.back s.forth

pub four_falls : (p : Profile) (c : Setup) (K : Side → Side → Type 0) (S : ℕ → ℕ → ℕ → ℕ → Side →
    Side → Type 0) → Stays c K → FourSteps c K S → IsFit p c → (run : ℕ → State) (m k n : ℕ) →
    Rounds c run n → m + k ≤ n → Facts c (run k) → IsSteady c (run k) →
    K (run k).forth (run k).back → S m m m m (run k).forth (run k).back →
    S m m m m (run k).back (run k).forth → S 0 0 0 0 (run (m + k)).forth (run (m + k)).back
    × S 0 0 0 0 (run (m + k)).back (run (m + k)).forth
four_falls p c K S st u f run m k n r h a b x y z =
    let w : Stages K S 0 (run (m + k)) = falls p c (Stages K S)
    (λ i s t fa sa ro v. record {
      context = stays_round p c K st f s t fa ro v.context;
      forth = forth_four p c K S st u f i s t fa sa ro v.context v.forth;
      back = back_four p c K S st u f i s t fa sa ro v.context v.back;
    }) f run m k n r h a b (record { context = x; forth = y; back = z }) in
    (w.forth, w.back)

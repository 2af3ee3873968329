-- A round by its steps: both send, both lines land, the cube and the host move. What each step
-- keeps, a round keeps.
use Rattle.std.proofs.Common.{ℕ, suc, ◌≤◌, List, length, inl, inr, sym, subst}
use Rattle.hmc_codes.specs.declared.profile.Profile.{Profile}
use Rattle.hmc_numbers.specs.Events.{Reading}
use Rattle.hmc_link_state.specs.State.{Setup, Side, State, wire, IsSteady}
use Rattle.hmc_link_state.specs.Round.{Reads, front, sent, sent_both, landed_own, landed_other, landed_forth, link_round, costs_next, CubeRound, IsRound}
use Rattle.hmc_link_state.specs.Facts.{Facts}
use Rattle.hmc_link_state.specs.EachRound.{IsFit}
use Rattle.hmc_link_state.proofs.Keeps.{Both, Within, within, with_moved}

-- a landing of x's line has something to land
pub record Landing (x : Side) (look : Reading) : Type 0 where
  pub some : 1 ≤ length (wire x).line
  pub reads : Reads (front x) look

-- K holds of both sides at each step
pub record Stays (c : Setup) (K : Side → Side → Type 0) : Type 0 where
  pub swap : (x y : Side) → K x y → K y x
  pub send : (x y : Side) → Both c x y → K x y → K (sent c x y) y
  pub land : (x y : Side) (look : Reading) → Both c x y → Landing x look → K x y →
      K (landed_own x (costs_next x) look) (landed_other x y look)
  pub moved : (x y : Side) (m n : ℕ) (bx by qx qy : List ℕ) → K x y →
      K (with_moved x m bx qx) (with_moved y n by qy)

-- P before x sends, Q until its line has landed, R then
pub record Linking (c : Setup) (K P Q R : Side → Side → Type 0) : Type 0 where
  pub send : (x y : Side) → Both c x y → K x y → suc (length (wire x).line) ≤ c.line → P x y →
      Q (sent c x y) y
  pub send_before : (x y : Side) → Both c x y → K x y → P x y → P x (sent c y x)
  pub send_after : (x y : Side) → Both c x y → K x y → Q x y → Q x (sent c y x)
  pub land : (x y : Side) (look : Reading) → Both c x y → K x y → Landing x look → Q x y →
      R (landed_own x (costs_next x) look) (landed_other x y look)
  pub land_before : (x y : Side) (look : Reading) → Both c x y → K x y → Landing y look → Q x y →
      Q (landed_other y x look) (landed_own y (costs_next y) look)
  pub land_after : (x y : Side) (look : Reading) → Both c x y → K x y → Landing y look → R x y →
      R (landed_other y x look) (landed_own y (costs_next y) look)

pub record Turning (c : Setup) (K P Q R : Side → Side → Type 0) : Type 0 where
  pub link : Linking c K P Q R
  pub moved : (x y : Side) (m n : ℕ) (bx by qx qy : List ℕ) → R x y →
      R (with_moved x m bx qx) (with_moved y n by qy)

-- with the moves of the cube and the host, or none
pub by_moves : (R : Side → Side → Type 0) →
    ((x y : Side) (m n : ℕ) (bx by qx qy : List ℕ) → R x y →
    R (with_moved x m bx qx) (with_moved y n by qy)) → (s t : State) → CubeRound s t →
    R s.forth s.back → R t.forth t.back
by_moves R k s t (inl m) h =
    subst (λ x. R x t.back) (sym m.forth)
    (subst (λ y. R (with_moved s.forth t.forth.half.moved t.forth.buffer s.forth.queue) y)
    (sym m.back)
    (k s.forth s.back t.forth.half.moved t.back.half.moved t.forth.buffer t.back.buffer
    s.forth.queue t.back.queue h))
by_moves R k s t (inr i) h = subst (λ z. R z.forth z.back) (sym i.0) h

pub swap_both : (c : Setup) (x y : Side) → Both c x y → Both c y x
swap_both c x y b = (b.1, b.0)

-- the context at each step
pub record Contexts (c : Setup) (K : Side → Side → Type 0) (l m : Reading) (s : State) :
    Type 0 where
  pub one : K (sent c s.forth s.back) s.back
  pub two : K (sent c s.forth s.back) (sent c s.back (sent c s.forth s.back))
  pub three : K (landed_forth l (sent_both c s)).forth (landed_forth l (sent_both c s)).back
  pub four : K (link_round c l m s).forth (link_round c l m s).back

pub contexts : (p : Profile) (c : Setup) (K : Side → Side → Type 0) (l m : Reading) (s : State) →
    Stays c K → Facts c s → Within p c l m s → Reads (front (sent_both c s).forth) l →
    Reads (front (landed_forth l (sent_both c s)).back) m → K s.forth s.back → Contexts c K l m s
contexts p c K l m s k f w rl rm h =
    let a : Side = sent c s.forth s.back in
    let d : Side = sent c s.back a in
    let e : Side = landed_own a (costs_next a) l in
    let g : Side = landed_other a d l in
    let k1 : K a s.back = k.send s.forth s.back (f.forth, f.back) h in
    let k2 : K a d =
    k.swap d a (k.send s.back a (swap_both c a s.back w.sent_one) (k.swap a s.back k1)) in
    let k3 : K e g =
    k.land a d l (swap_both c d a w.sent_two) (record { some = w.half_one.1; reads = rl }) k2 in
    record {
      one = k1;
      two = k2;
      three = k3;
      four =
          k.swap (link_round c l m s).back (link_round c l m s).forth
          (k.land g e m (swap_both c e g w.landed_one) (record { some = w.some; reads = rm })
          (k.swap e g k3));
    }

pub stays_round : (p : Profile) (c : Setup) (K : Side → Side → Type 0) → Stays c K → IsFit p c →
    (s t : State) → Facts c s → IsRound c s t → K s.forth s.back → K t.forth t.back
stays_round p c K k f s t h r x =
    let w = within p c r.0 r.1 s f h r.2 r.3 in
    by_moves K k.moved (link_round c r.0 r.1 s) t r.4
    (contexts p c K r.0 r.1 s k h w r.2 r.3 x).four

pub forth_links : (p : Profile) (c : Setup) (K P Q R : Side → Side → Type 0) → Stays c K →
    Linking c K P Q R → IsFit p c → (s t : State) → Facts c s → IsSteady c s → (r : IsRound c s t) →
    K s.forth s.back → P s.forth s.back →
    R (link_round c r.0 r.1 s).forth (link_round c r.0 r.1 s).back
forth_links p c K P Q R k u f s t h n r x z =
    let w = within p c r.0 r.1 s f h r.2 r.3 in
    let v = contexts p c K r.0 r.1 s k h w r.2 r.3 x in
    let a : Side = sent c s.forth s.back in
    let d : Side = sent c s.back a in
    let e : Side = landed_own a (costs_next a) r.0 in
    let g : Side = landed_other a d r.0 in
    let q1 : Q a s.back = u.send s.forth s.back (h.forth, h.back) x n.0 z in
    let q2 : Q a d = u.send_after a s.back w.sent_one v.one q1 in
    let q3 : R e g =
    u.land a d r.0 (swap_both c d a w.sent_two) v.two
    (record { some = w.half_one.1; reads = r.2 }) q2 in
    u.land_after e g r.1 w.landed_one v.three (record { some = w.some; reads = r.3 }) q3

pub forth_turns : (p : Profile) (c : Setup) (K P Q R : Side → Side → Type 0) → Stays c K →
    Turning c K P Q R → IsFit p c → (s t : State) → Facts c s → IsSteady c s → IsRound c s t →
    K s.forth s.back → P s.forth s.back → R t.forth t.back
forth_turns p c K P Q R k u f s t h n r x z =
    by_moves R u.moved (link_round c r.0 r.1 s) t r.4
    (forth_links p c K P Q R k u.link f s t h n r x z)

pub back_links : (p : Profile) (c : Setup) (K P Q R : Side → Side → Type 0) → Stays c K →
    Linking c K P Q R → IsFit p c → (s t : State) → Facts c s → IsSteady c s → (r : IsRound c s t) →
    K s.forth s.back → P s.back s.forth →
    R (link_round c r.0 r.1 s).back (link_round c r.0 r.1 s).forth
back_links p c K P Q R k u f s t h n r x z =
    let w = within p c r.0 r.1 s f h r.2 r.3 in
    let v = contexts p c K r.0 r.1 s k h w r.2 r.3 x in
    let a : Side = sent c s.forth s.back in
    let d : Side = sent c s.back a in
    let e : Side = landed_own a (costs_next a) r.0 in
    let g : Side = landed_other a d r.0 in
    let q1 : P s.back a =
    u.send_before s.back s.forth (h.back, h.forth) (k.swap s.forth s.back x) z in
    let q2 : Q d a =
    u.send s.back a (swap_both c a s.back w.sent_one) (k.swap a s.back v.one) n.1 q1 in
    let q3 : Q g e =
    u.land_before d a r.0 w.sent_two (k.swap a d v.two)
    (record { some = w.half_one.1; reads = r.2 }) q2 in
    u.land g e r.1 (swap_both c e g w.landed_one) (k.swap e g v.three)
    (record { some = w.some; reads = r.3 }) q3

pub back_turns : (p : Profile) (c : Setup) (K P Q R : Side → Side → Type 0) → Stays c K →
    Turning c K P Q R → IsFit p c → (s t : State) → Facts c s → IsSteady c s → IsRound c s t →
    K s.forth s.back → P s.back s.forth → R t.back t.forth
back_turns p c K P Q R k u f s t h n r x z =
    by_moves (λ y b. R b y) (λ y b m n by bx qy qx. u.moved b y n m bx by qx qy)
    (link_round c r.0 r.1 s) t r.4 (back_links p c K P Q R k u.link f s t h n r x z)

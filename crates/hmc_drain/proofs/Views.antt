-- Predicates that read a sender and what has left the buffer at its own end.
use Rattle.std.proofs.Common.{◌≡◌, ℕ, suc, ◌-◌, ◌≤◌, nat_lt, Bool, true, false, if◌then◌else◌, List, [], ◌∷◌, ◌++◌, length, inl, inr, refl, sym, ◌∙◌, ap, subst, arith}
use Rattle.hmc_numbers.specs.Weights.{Weight, upto}
use Rattle.hmc_numbers.specs.Direction.{Direction}
use Rattle.hmc_numbers.specs.Events.{Reading}
use Rattle.hmc_numbers.specs.Pair.{own_after, other_after}
use Rattle.hmc_numbers.specs.Pair.Move.{does, counts}
use Rattle.hmc_numbers.specs.Tokens.{due_tokens}
use Rattle.hmc_numbers.proofs.Effect.{begun_one}
use Rattle.hmc_link_state.specs.Choice.{choice}
use Rattle.hmc_link_state.specs.Choice.Choice.{tret, pret, null}
use Rattle.hmc_link_state.specs.Sees.{new_slot, tret_slot}
use Rattle.hmc_link_state.specs.State.{Setup, Side, wire, count_of}
use Rattle.hmc_link_state.specs.Round.{sight, sent, sent_by, event_here, is_counted_at, landed_own, landed_other, costs_next}
use Rattle.hmc_drain.proofs.Backlog.{sent_if_room}
use Rattle.hmc_link_state.proofs.Chosen.{Chosen, chosen, IsIdle}
use Rattle.hmc_link_state.proofs.Counts.{begun_count, sent_counts}
use Rattle.hmc_link_state.proofs.Falls.{landed_sender, took_keeps, AreReady, stamp_between}
use Rattle.hmc_link_state.proofs.Keeps.{Both}
use Rattle.hmc_drain.proofs.Quiet.{Until}
use Rattle.hmc_drain.proofs.ReadyChoice.{Newer, newer_is}
use Rattle.hmc_drain.proofs.ReadyChoice.Newer.{goes, begins_new, returns, points, rests_now}
use Rattle.hmc_link_state.proofs.Turning.{Linking}

abbrev pub View : (List Weight → ℕ → ℕ → ℕ → Type 0) → Side → Side → Type 0
View N x y = N (wire x).first (wire x).left (wire x).acked y.half.moved

abbrev pub due_of : Setup → Side → Side → ℕ
due_of c x y = due_tokens c.tokens y.half x.half

pub record Views (c : Setup) (N M : List Weight → ℕ → ℕ → ℕ → Type 0) : Type 0 where
  pub up : (ps : List Weight) (l a b m : ℕ) → a ≤ b → N ps l a m → N ps l b m
  pub up_after : (ps : List Weight) (l a b m : ℕ) → a ≤ b → M ps l a m → M ps l b m
  pub goes : (ps : List Weight) (l a m : ℕ) → 1 ≤ l → N ps l a m → M ps (l - 1) a m
  pub returns : (x y : Side) → Both c x y → (wire x).left ≡ 0 → Chosen (sight c x y) tret →
      View N x y →
      M ((wire x).first ++ tret_slot (due_of c x y) ∷ []) 0 (wire x).acked y.half.moved
  pub still : (x y : Side) → Both c x y → AreReady x y → (wire x).left ≡ 0 → IsIdle (sight c x y) →
      View N x y → View M x y

pub sent_moved : (c : Setup) (x y : Side) → (sent c x y).half.moved ≡ x.half.moved
sent_moved c x y = by_full (nat_lt (length (wire x).line) c.line)
  where
    by_full : (b : Bool) →
        (if b then sent_by c x y (choice (sight c x y)) else x).half.moved ≡ x.half.moved
    by_full true = refl
    by_full false = refl

landed_moved : (x : Side) (costs : Bool) (look : Reading) →
    (landed_own x costs look).half.moved ≡ x.half.moved
landed_moved x costs look = by_count (is_counted_at x (wire x).far (event_here x look))
  where
    by_count : (b : Bool) →
        (own_after x.half 0 (if b then counts (event_here x look)
        else does (event_here x look))).moved ≡ x.half.moved
    by_count true = refl
    by_count false = refl

took_moved : (y x : Side) (look : Reading) → (landed_other y x look).half.moved ≡ x.half.moved
took_moved y x look = by_count (is_counted_at y (wire y).far (event_here y look))
  where
    by_count : (b : Bool) →
        (other_after y.half x.half (if b then counts (event_here y look)
        else does (event_here y look))).moved ≡ x.half.moved
    by_count true = refl
    by_count false = refl

took_view : (c : Setup) (N : List Weight → ℕ → ℕ → ℕ → Type 0) →
    ((ps : List Weight) (l a b m : ℕ) → a ≤ b → N ps l a m → N ps l b m) →
    (x y : Side) (look : Reading) → Both c x y → View N x y →
    View N (landed_other y x look) (landed_own y (costs_next y) look)
took_view c N up x y look b h =
    subst (λ m. N (wire (landed_other y x look)).first (wire (landed_other y x look)).left
    (wire (landed_other y x look)).acked m) (sym (landed_moved y (costs_next y) look))
    (by_count (is_counted_at y (wire y).far (event_here y look)))
  where
    by_count : (d : Bool) →
        N (other_after y.half x.half (if d then counts (event_here y look)
        else does (event_here y look))).direction.first
        (other_after y.half x.half (if d then counts (event_here y look)
        else does (event_here y look))).direction.left
        (other_after y.half x.half (if d then counts (event_here y look)
        else does (event_here y look))).direction.acked y.half.moved
    by_count true =
        up (wire x).first (wire x).left (wire x).acked _ y.half.moved
        (stamp_between c y x (b.1, b.0)).0 h
    by_count false = h

landed_view : (M : List Weight → ℕ → ℕ → ℕ → Type 0) (x y : Side) (look : Reading) → View M x y →
    View M (landed_own x (costs_next x) look) (landed_other x y look)
landed_view M x y look h =
    let s = landed_sender x (costs_next x) look in
    let v = wire (landed_own x (costs_next x) look) in
    subst (λ m. M v.first v.left v.acked m) (sym (took_moved x y look))
    (subst (λ a. M v.first v.left a y.half.moved) (sym s.acked)
    (subst (λ l. M v.first l (wire x).acked y.half.moved) (sym s.left)
    (subst (λ ps. M ps (wire x).left (wire x).acked y.half.moved) (sym s.first) h)))

pub until_kept : (b : ℕ) (P Q : Side → Side → Type 0) (x y x' y' : Side) →
    begun_count (wire x') ≡ begun_count (wire x) → (P x y → Q x' y') → Until b P x y →
    Until b Q x' y'
until_kept b P Q x y x' y' q g (inl h) = inl (omega (arith, h, q))
until_kept b P Q x y x' y' q g (inr h) = inr (q ∙ h.0, g h.1)

pub counts_first : (v w : Direction) → v.first ≡ w.first → begun_count v ≡ begun_count w
counts_first v w q = ap (λ ps. upto count_of ps (length ps)) q

pub took_first : (y x : Side) (look : Reading) →
    (wire (landed_other y x look)).first ≡ (wire x).first
took_first y x look = took_keeps (λ w. w.first ≡ (wire x).first) (λ w n h. h) y x look refl

view_sent : (c : Setup) (b : ℕ) (N M : List Weight → ℕ → ℕ → ℕ → Type 0) → Views c N M →
    (x y : Side) → Both c x y → AreReady x y → suc (length (wire x).line) ≤ c.line →
    Until b (View N) x y → Until b (View M) (sent c x y) y
view_sent c b N M v x y h k l (inl z) =
    inl (let u = (sent_counts c x y h.0.joined.order.accepted).begun in omega (arith, z, u))
view_sent c b N M v x y h k l (inr z) =
    subst (λ s. Until b (View M) s y) (sym (sent_if_room c x y l)) (by_newer (newer_is c x y k))
  where
    ch : Chosen (sight c x y) (choice (sight c x y))
    ch = chosen (sight c x y)

    by_newer : Newer c x y → Until b (View M) (sent_by c x y (choice (sight c x y))) y
    by_newer (goes q e) =
        subst (λ w. Until b (View M) (sent_by c x y w) y) (sym e)
        (inr (z.0, v.goes (wire x).first (wire x).left (wire x).acked y.half.moved q z.1))
    by_newer (begins_new n q e) =
        let u = begun_one count_of (wire x).first (new_slot n (due_of c x y)) in
        subst (λ w. Until b (View M) (sent_by c x y w) y) (sym e) (inl (omega (arith, u, z.0)))
    by_newer (returns q e) =
        let u = begun_one count_of (wire x).first (tret_slot (due_of c x y)) in
        subst (λ w. Until b (View M) (sent_by c x y w) y) (sym e)
        (inr (omega (arith, u, z.0), v.returns x y h q (subst (Chosen (sight c x y)) e ch) z.1))
    by_newer (points q e) = let u : Chosen (sight c x y) pret = subst (Chosen (sight c x y)) e ch in
        subst (λ w. Until b (View M) (sent_by c x y w) y) (sym e)
        (inr (z.0, v.still x y h k q u.0 z.1))
    by_newer (rests_now q e) =
        let u : Chosen (sight c x y) null = subst (Chosen (sight c x y)) e ch in
        subst (λ w. Until b (View M) (sent_by c x y w) y) (sym e)
        (inr (z.0, v.still x y h k q u.0 z.1))

pub view_links : (c : Setup) (b : ℕ) (N M : List Weight → ℕ → ℕ → ℕ → Type 0) → Views c N M →
    Linking c AreReady (Until b (View N)) (Until b (View M)) (Until b (View M))
view_links c b N M v = record {
  send = view_sent c b N M v;
  send_before =
      λ x y h k z. until_kept b (View N) (View N) x y x (sent c y x) refl
      (λ w. subst (λ m. N (wire x).first (wire x).left (wire x).acked m) (sym (sent_moved c y x))
      w) z;
  send_after =
      λ x y h k z. until_kept b (View M) (View M) x y x (sent c y x) refl
      (λ w. subst (λ m. M (wire x).first (wire x).left (wire x).acked m) (sym (sent_moved c y x))
      w) z;
  land =
      λ x y look h k l z. until_kept b (View M) (View M) x y (landed_own x (costs_next x) look)
      (landed_other x y look)
      (counts_first (wire (landed_own x (costs_next x) look)) (wire x)
      (landed_sender x (costs_next x) look).first) (landed_view M x y look) z;
  land_before =
      λ x y look h k l z. until_kept b (View M) (View M) x y (landed_other y x look)
      (landed_own y (costs_next y) look)
      (counts_first (wire (landed_other y x look)) (wire x) (took_first y x look))
      (took_view c M v.up_after x y look h) z;
  land_after =
      λ x y look h k l z. until_kept b (View M) (View M) x y (landed_other y x look)
      (landed_own y (costs_next y) look)
      (counts_first (wire (landed_other y x look)) (wire x) (took_first y x look))
      (took_view c M v.up_after x y look h) z;
}

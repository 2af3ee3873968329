-- Two sends of opposite ways commute, and so do two landings.
use Rattle.std.proofs.Common.{◌≡◌, ◌∙◌, ◌≤◌, ◌+◌, ◌-◌, ◌==◌, ℕ, nat_lt, nat_le, Bool, true, false, if◌then◌else◌, [], ◌∷◌, ◌++◌, length, refl, sym, ap}
use Rattle.hmc_numbers.specs.Weights.{Weight, upto}
use Rattle.hmc_numbers.specs.Direction.{Direction, begun, position}
use Rattle.hmc_numbers.specs.Events.{Reading, Event}
use Rattle.hmc_numbers.specs.Events.Event.{drops, trains, opens, passes, gathers, accepts, repeats, spoils, breaks}
use Rattle.hmc_numbers.specs.Pair.{Half, Move as moves, front_stamp, own_after, other_after}
use Rattle.hmc_numbers.specs.Tokens.{cost_begun, tokens_begun, tokens_accepted}
use Rattle.hmc_numbers.proofs.Sums.{upto-append}
use Rattle.hmc_link_state.specs.Choice.{Mode, Sight, Choice, Choice as choices, choice}
use Rattle.hmc_link_state.specs.Landing.{IsLanding}
use Rattle.hmc_link_state.specs.Round.{sight, sent, sent_by, starts_after, others_after, go_back_after, ack_after, queue_after, front, event_here, is_counted_at, is_ran_start_at, landed_own, landed_other, costs_next}
use Rattle.hmc_link_state.proofs.Lines.{far_lands}
use Rattle.hmc_link_state.specs.Sees.{mode_of, event_of}
use Rattle.hmc_link_state.specs.State.{Setup, Side, wire, front_of, room}

-- ---- sends

-- a send by what it sees of the other direction
abbrev sight_of : Setup → Side → (m : Mode) → (credited moved accepted : ℕ) → Sight
sight_of c own m credited moved accepted = record {
  mode = m;
  left = (wire own).left;
  is_there = true;
  clears = (wire own).clears;
  starts = own.starts;
  go_back = own.go_back;
  is_long_ago = nat_le 64 own.others;
  position = position (wire own);
  begun = begun (wire own);
  is_open = own.is_open;
  front = front_of own.queue;
  held = credited - cost_begun (wire own);
  room = room c own;
  due = c.tokens + moved - tokens_begun (wire own);
  is_acknowledged = own.ack_sent == accepted;
}

abbrev sent_half : Setup → Side → (moved accepted : ℕ) → Choice → Half
sent_half c own moved accepted x =
    own_after own.half accepted
    (moves.does (event_of (c.tokens + moved - tokens_begun (wire own)) x))

abbrev sent_as : Setup → Side → (moved accepted : ℕ) → Choice → Side
sent_as c own moved accepted x = record own {
  half = sent_half c own moved accepted x;
  starts = starts_after x own.starts;
  others = others_after x own.others;
  go_back = go_back_after x (wire own).clears own.go_back;
  ack_sent = ack_after x (sent_half c own moved accepted x).direction.left own.ack_sent accepted;
  queue = queue_after x own.queue;
}

abbrev sent_seeing : Setup → Side → (m : Mode) → (credited moved accepted : ℕ) → Side
sent_seeing c own m credited moved accepted =
    if nat_lt (length (wire own).line) c.line then sent_as c own moved accepted
    (choice (sight_of c own m credited moved accepted)) else own

seeing : (c : Setup) (own other : Side) →
    sent c own other ≡ sent_seeing c own (mode_of (wire other).far) (tokens_accepted (wire other))
    other.half.moved (wire other).accepted
seeing c own other = refl

-- what a send leaves of what the other one sees
record Seen (x y : Side) : Type 0 where
  mode : mode_of (wire y).far ≡ mode_of (wire x).far
  credited : tokens_accepted (wire y) ≡ tokens_accepted (wire x)
  moved : y.half.moved ≡ x.half.moved
  accepted : (wire y).accepted ≡ (wire x).accepted

more_first : (w : Direction) (s : Weight) → w.accepted ≤ begun w →
    upto (λ (p : Weight). p.returns) (w.first ++ s ∷ []) w.accepted ≡ tokens_accepted w
more_first w s le = upto-append (λ (p : Weight). p.returns) w.first (s ∷ []) w.accepted le

seen_by : (c : Setup) (x other : Side) (ch : Choice) → (wire x).accepted ≤ begun (wire x) →
    Seen x (sent_by c x other ch)
seen_by c x other choices.train le =
    record { mode = refl; credited = refl; moved = refl; accepted = refl }
seen_by c x other choices.starved le =
    record { mode = refl; credited = refl; moved = refl; accepted = refl }
seen_by c x other choices.next le =
    record { mode = refl; credited = refl; moved = refl; accepted = refl }
seen_by c x other choices.clear le =
    record { mode = refl; credited = refl; moved = refl; accepted = refl }
seen_by c x other choices.start le =
    record { mode = refl; credited = refl; moved = refl; accepted = refl }
seen_by c x other choices.again le =
    record { mode = refl; credited = refl; moved = refl; accepted = refl }
seen_by c x other (choices.new n) le =
    record { mode = refl; credited = more_first (wire x) _ le; moved = refl; accepted = refl }
seen_by c x other choices.tret le =
    record { mode = refl; credited = more_first (wire x) _ le; moved = refl; accepted = refl }
seen_by c x other choices.pret le =
    record { mode = refl; credited = refl; moved = refl; accepted = refl }
seen_by c x other choices.null le =
    record { mode = refl; credited = refl; moved = refl; accepted = refl }

seen_if : (b : Bool) (x y : Side) → Seen x y → Seen x (if b then y else x)
seen_if true x y s = s
seen_if false x y s = record { mode = refl; credited = refl; moved = refl; accepted = refl }

-- a send is the same after one of the other direction
pub sends-commute : (c : Setup) (own other : Side) → (wire other).accepted ≤ begun (wire other) →
    sent c own (sent c other own) ≡ sent c own other
sends-commute c own other le =
    let s =
    seen_if (nat_lt (length (wire other).line) c.line) other
    (sent_by c other own (choice (sight c other own)))
    (seen_by c other own (choice (sight c other own)) le) in
    λ i. sent_seeing c own (s.mode i) (s.credited i) (s.moved i) (s.accepted i)

-- ---- landings

here_landing : (x : Side) (look : Reading) → IsLanding (event_here x look)
here_landing x look = far_lands x look (front x) (wire x).far

-- a pointer for this direction is counted, or not
abbrev acknowledged : Half → ℕ → Half
acknowledged h n = record h { direction = record h.direction { acked = n } }

land_acked : (h : Half) (n : ℕ) (b : Bool) (e : Event) → IsLanding e →
    own_after (acknowledged h n) 0 (if b then moves.counts e else moves.does e) ≡ acknowledged
    (own_after h 0 (if b then moves.counts e else moves.does e)) n
land_acked h n true (drops r) l = refl
land_acked h n true trains l = refl
land_acked h n true opens l = refl
land_acked h n true (passes r) l = refl
land_acked h n true gathers l = refl
land_acked h n true accepts l = refl
land_acked h n true repeats l = refl
land_acked h n true (spoils c) l = refl
land_acked h n true (breaks c) l = refl
land_acked h n false (drops r) l = refl
land_acked h n false trains l = refl
land_acked h n false opens l = refl
land_acked h n false (passes r) l = refl
land_acked h n false gathers l = refl
land_acked h n false accepts l = refl
land_acked h n false repeats l = refl
land_acked h n false (spoils c) l = refl
land_acked h n false (breaks c) l = refl
land_acked h n b e l = absurd l

acked_kept : (h : Half) (b : Bool) (e : Event) → IsLanding e →
    (own_after h 0 (if b then moves.counts e else moves.does e)).direction.acked ≡ h.direction.acked
acked_kept h true (drops r) l = refl
acked_kept h true trains l = refl
acked_kept h true opens l = refl
acked_kept h true (passes r) l = refl
acked_kept h true gathers l = refl
acked_kept h true accepts l = refl
acked_kept h true repeats l = refl
acked_kept h true (spoils c) l = refl
acked_kept h true (breaks c) l = refl
acked_kept h false (drops r) l = refl
acked_kept h false trains l = refl
acked_kept h false opens l = refl
acked_kept h false (passes r) l = refl
acked_kept h false gathers l = refl
acked_kept h false accepts l = refl
acked_kept h false repeats l = refl
acked_kept h false (spoils c) l = refl
acked_kept h false (breaks c) l = refl
acked_kept h b e l = absurd l

-- what a landing of the other direction changes
abbrev notified_side : Side → (acked : ℕ) → (go_back is_open : Bool) → Side
notified_side y n g o = record y { half = acknowledged y.half n; go_back = g; is_open = o }

abbrev acked_from : (x y : Side) → Reading → ℕ
acked_from x y look =
    if is_counted_at x (wire x).far (event_here x look) then front_stamp (wire y).acked
    x.half.stamps else (wire y).acked

abbrev back_from : (x y : Side) → Reading → Bool
back_from x y look = if is_ran_start_at x (wire x).far look then true else y.go_back

abbrev open_from : (x y : Side) → Reading → Bool
open_from x y look = if is_ran_start_at x (wire x).far look then true else y.is_open

other_half : (b : Bool) (e : Event) (h k : Half) →
    other_after h k (if b then moves.counts e else moves.does e) ≡ acknowledged k
    (if b then front_stamp k.direction.acked h.stamps else k.direction.acked)
other_half true e h k = refl
other_half false e h k = refl

other_notified : (x y : Side) (look : Reading) →
    landed_other x y look ≡ notified_side y (acked_from x y look) (back_from x y look)
    (open_from x y look)
other_notified x y look = λ i. record y {
  half =
      other_half (is_counted_at x (wire x).far (event_here x look)) (event_here x look) x.half
      y.half i;
  go_back = back_from x y look;
  is_open = open_from x y look;
}

own_notified : (y : Side) (n : ℕ) (g o : Bool) (look : Reading) →
    landed_own (notified_side y n g o) (costs_next (notified_side y n g o)) look ≡ notified_side
    (landed_own y (costs_next y) look) n g o
own_notified y n g o look = λ i. record (landed_own y (costs_next y) look) {
  half =
      land_acked y.half n (is_counted_at y (wire y).far (event_here y look)) (event_here y look)
      (here_landing y look) i;
  go_back = g;
  is_open = o;
}

from_notified : (x y : Side) (n : ℕ) (g o : Bool) (look m : Reading) →
    landed_other (notified_side x n g o) (landed_own y (costs_next y) m) look ≡ notified_side
    (landed_own y (costs_next y) m) (acked_from x y look) (back_from x y look) (open_from x y look)
from_notified x y n g o look m =
    other_notified (notified_side x n g o) (landed_own y (costs_next y) m) look
    ∙ ap (λ (a : ℕ). notified_side (landed_own y (costs_next y) m)
    (if is_counted_at x (wire x).far (event_here x look) then front_stamp a x.half.stamps else a)
    (back_from x y look) (open_from x y look))
    (acked_kept y.half (is_counted_at y (wire y).far (event_here y m)) (event_here y m)
    (here_landing y m))

-- a landing in direction y after one in direction x, and the other way round
pub lands-commute : (x y : Side) (look m : Reading) →
    landed_own (landed_other x y look) (costs_next (landed_other x y look)) m ≡ landed_other
    (landed_other y x m) (landed_own y (costs_next y) m) look
lands-commute x y look m =
    ap (λ (z : Side). landed_own z (costs_next z) m) (other_notified x y look)
    ∙ own_notified y (acked_from x y look) (back_from x y look) (open_from x y look) m
    ∙ sym (from_notified x y (acked_from y x m) (back_from y x m) (open_from y x m) look m)
    ∙ ap (λ (z : Side). landed_other z (landed_own y (costs_next y) m) look)
    (sym (other_notified y x m))

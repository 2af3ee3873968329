-- A whole round with zero masks and an idle give: both send, both land, the cube and the host move.
use Rattle.std.specs.Prelude.{◌≡◌, ℕ, zero, suc, ◌+◌, ◌-◌, ◌%◌, ◌≤◌, ◌<◌, ◌==◌, nat_lt, nat_le, Bool, true, false, ◌&&◌, if◌then◌else◌, List, [], ◌∷◌, ◌++◌, length, ◌⊎◌}
use Rattle.hmc_numbers.specs.Weights.{size}
use Rattle.hmc_numbers.specs.Direction.{Filler as fill, Item, Reached, Direction, begun, position, front_or}
use Rattle.hmc_numbers.specs.Direction.Item.{filler, clear, part}
use Rattle.hmc_numbers.specs.Direction.Reached.{training, aborting, spoilt}
use Rattle.hmc_numbers.specs.Events.{Reading, Event}
use Rattle.hmc_numbers.specs.Events.Reading.{plain, as_start, as_clear}
use Rattle.hmc_numbers.specs.Events.Event.{drops, trains, opens, passes, gathers, accepts, repeats, spoils, breaks}
use Rattle.hmc_numbers.specs.Places.{is_token}
use Rattle.hmc_numbers.specs.Pair.{Half, Move, own_after, other_after}
use Rattle.hmc_numbers.specs.Pair.Move.{does, counts}
use Rattle.hmc_numbers.specs.Tokens.{held_tokens, due_tokens}
use Rattle.hmc_link_state.specs.Choice.{Sight, Choice, Choice as choices, choice}
use Rattle.hmc_link_state.specs.Sees.{mode_of, event_of}
use Rattle.hmc_link_state.specs.State.{Setup, Side, State, wire, front_of, room, inside_cube, weight, under_way, flits_of, AreFairSizes}

-- Sending

abbrev pub sight : Setup → (own other : Side) → Sight
sight c own other =
    record {
      mode = mode_of (wire other).far;
      left = (wire own).left;
      is_there = true;
      clears = (wire own).clears;
      starts = own.starts;
      go_back = own.go_back;
      is_long_ago = nat_le 64 own.others;
      position = position (wire own);
      begun = begun (wire own);
      is_open = own.is_open;
      front = front_of own.queue;
      held = held_tokens own.half other.half;
      room = room c own;
      due = due_tokens c.tokens other.half own.half;
      is_acknowledged = own.ack_sent == (wire other).accepted;
    }

abbrev pub others_after : Choice → ℕ → ℕ
others_after choices.start n = 0
others_after c n = n + 1

abbrev pub starts_after : Choice → ℕ → ℕ
starts_after choices.start n = n + 1
starts_after c n = n

-- a Clear that begins a burst answers a ran start; one that comes during a burst is answered by a
-- burst of its own
abbrev pub go_back_after : Choice → (clears : ℕ) → Bool → Bool
go_back_after choices.clear n b = if n % 32 == 0 then false else b
go_back_after c n b = b

abbrev pub queue_after : Choice → List ℕ → List ℕ
queue_after (choices.new n) (p ∷ ps) = ps
queue_after c ps = ps

-- a return pointer goes with each IRTRY, PRET and last flit of a packet
abbrev pub ack_after : Choice → (left ack accepted : ℕ) → ℕ
ack_after choices.clear left ack a = a
ack_after choices.start left ack a = a
ack_after choices.pret left ack a = a
ack_after choices.train left ack a = ack
ack_after choices.null left ack a = ack
ack_after choices.starved left ack a = ack
ack_after c zero ack a = a
ack_after c (suc left) ack a = ack

abbrev pub half_sent : Setup → (own other : Side) → Choice → Half
half_sent c own other x =
    own_after own.half (wire other).accepted
    (does (event_of (due_tokens c.tokens other.half own.half) x))

abbrev pub sent_by : Setup → (own other : Side) → Choice → Side
sent_by c own other x =
    record own {
      half = half_sent c own other x;
      starts = starts_after x own.starts;
      others = others_after x own.others;
      go_back = go_back_after x (wire own).clears own.go_back;
      ack_sent = ack_after x (half_sent c own other x).direction.left own.ack_sent
          (wire other).accepted;
      queue = queue_after x own.queue;
    }

abbrev pub sent : Setup → (own other : Side) → Side
sent c own other =
    if nat_lt (length (wire own).line) c.line then sent_by c own other (choice (sight c own other))
    else own

-- Landing of a flit as it was sent.  Flits of a packet after its first may read alone as an IRTRY.

abbrev pub Reads : Item → Reading → Type 0
Reads (filler fill.start) look = look ≡ as_start
Reads (filler f) look = look ≡ plain
Reads clear look = look ≡ as_clear
Reads (part n zero more) look = look ≡ plain
Reads (part n (suc k) more) look = Unit {0}

abbrev pub is_steady : Item → Reading → Bool
is_steady (filler fill.train) look = true
is_steady x plain = false
is_steady x look = true

abbrev pub event_in_good : Direction → Item → Event
event_in_good w (filler fill.start) = passes as_start
event_in_good w (filler f) = passes plain
event_in_good w clear = passes as_clear
event_in_good w (part n k (suc more)) = gathers
event_in_good w (part n k zero) = if n == w.accepted + 1 then accepts else repeats

abbrev pub event_in_abort : (clear_run : ℕ) → Reading → Event
event_in_abort run as_clear = if run == 23 then opens else drops as_clear
event_in_abort run look = drops look

abbrev pub event_at_far : Side → Reading → Item → Reached → Event
event_at_far x look i training = if is_steady i look && (x.steady == 7) then trains else drops look
event_at_far x look i aborting = event_in_abort (wire x).clear_run look
event_at_far x look i spoilt = if nat_le x.missing 1 then breaks false else spoils false
event_at_far x look i far = event_in_good (wire x) i

abbrev pub front : Side → Item
front x = front_or (wire x).before (wire x).line

abbrev pub event_here : Side → Reading → Event
event_here x look = event_at_far x look (front x) (wire x).far

abbrev pub is_long : Side → Reading → Bool
is_long x plain = false
is_long x as_start = nat_le 23 (wire x).start_run
is_long x as_clear = nat_le 23 (wire x).clear_run

abbrev pub is_pret : Item → Bool
is_pret (filler fill.pret) = true
is_pret i = false

abbrev pub is_counted_at : Side → Reached → Event → Bool
is_counted_at x aborting (drops look) = is_long x look
is_counted_at x far opens = true
is_counted_at x far (passes plain) = is_pret (front x)
is_counted_at x far (passes look) = is_long x look
is_counted_at x far accepts = true
is_counted_at x far repeats = true
is_counted_at x far e = false

abbrev pub move_here : Side → Event → Move
move_here x e = if is_counted_at x (wire x).far e then counts e else does e

abbrev pub is_start_item : Item → Bool
is_start_item (filler fill.start) = true
is_start_item i = false

abbrev pub is_start_look : Reading → Bool
is_start_look as_start = true
is_start_look look = false

-- alone in Abort, as a packet in Good
abbrev pub is_ran_start_at : Side → Reached → Reading → Bool
is_ran_start_at x training look = false
is_ran_start_at x spoilt look = false
is_ran_start_at x aborting look = is_start_look look && ((wire x).start_run == 23)
is_ran_start_at x far look = is_start_item (front x) && ((wire x).start_run == 23)

abbrev pub steady_after : Side → Reading → ℕ
steady_after x look = if is_steady (front x) look then x.steady + 1 else 0

abbrev pub token_flits : Side → Event → List ℕ
token_flits x accepts = size (wire x).first ((wire x).accepted + 1) ∷ []
token_flits x e = []

-- `costs` says whether the packet that is accepted is a token packet
abbrev pub landed_own : Side → (costs : Bool) → Reading → Side
landed_own x costs look =
    record x {
      half = own_after x.half 0 (move_here x (event_here x look));
      steady = steady_after x look;
      missing = x.missing - 1;
      buffer = if costs then x.buffer ++ token_flits x (event_here x look) else x.buffer;
    }

abbrev pub landed_other : (own other : Side) → Reading → Side
landed_other own other look =
    record other {
      half = other_after own.half other.half (move_here own (event_here own look));
      go_back = if is_ran_start_at own (wire own).far look then true else other.go_back;
      is_open = if is_ran_start_at own (wire own).far look then true else other.is_open;
    }

abbrev pub costs_next : Side → Bool
costs_next x = is_token (wire x).first ((wire x).accepted + 1)

abbrev pub sent_both : Setup → State → State
sent_both c s =
    record s { forth = sent c s.forth s.back; back = sent c s.back (sent c s.forth s.back) }

abbrev pub landed_forth : Reading → State → State
landed_forth look s =
    record s {
      forth = landed_own s.forth (costs_next s.forth) look;
      back = landed_other s.forth s.back look;
    }

abbrev pub landed_back : Reading → State → State
landed_back look s =
    record s {
      back = landed_own s.back (costs_next s.back) look;
      forth = landed_other s.back s.forth look;
    }

abbrev pub link_round : Setup → (l m : Reading) → State → State
link_round c l m s = landed_back m (landed_forth l (sent_both c s))

-- The cube and the host.  Only what the bound needs of them: moves lower the weight, and where none
-- is made nothing can be.

abbrev pub IsIdle : (s t : State) → Type 0
IsIdle s t = t ≡ record s { can_move = false }

-- What leaves a buffer is counted as moved; what is lifted goes after the replies that wait.
-- Nothing else of a side changes.
pub record Moves (s t : State) : Type 0 where
  pub lighter : suc (weight t) ≤ weight s
  pub fewer : under_way t ≤ under_way s
  pub rises : (s.forth.half.moved ≤ t.forth.half.moved) × (s.back.half.moved ≤ t.back.half.moved)
  pub forth : t.forth ≡ record s.forth {
    half = record s.forth.half { moved = t.forth.half.moved };
    buffer = t.forth.buffer;
  }
  pub back : t.back ≡ record s.back {
    half = record s.back.half { moved = t.back.half.moved };
    buffer = t.back.buffer;
    queue = t.back.queue;
  }
  pub shifted : t.forth.half.moved + flits_of t.forth.buffer ≡ s.forth.half.moved
      + flits_of s.forth.buffer
  pub taken : t.back.half.moved + flits_of t.back.buffer ≡ s.back.half.moved
      + flits_of s.back.buffer
  pub lifted : (more : List ℕ) × AreFairSizes more × (t.back.queue ≡ s.back.queue ++ more)

pub record IsStuck (s : State) : Type 0 where
  pub taken : s.back.buffer ≡ []
  pub full : (1 ≤ length s.back.queue) ⊎ (inside_cube s ≡ 0)

abbrev pub CubeRound : (s t : State) → Type 0
CubeRound s t = Moves s t ⊎ (IsIdle s t × IsStuck s)

-- Where nothing could move after the round before, and the link's part of this one took no reply
-- from its queue and put nothing into a buffer, nothing moves now either.
abbrev pub StaysIdle : (before s t : State) → Type 0
StaysIdle z s t =
    z.can_move ≡ false → s.back.queue ≡ z.back.queue → s.forth.buffer ≡ z.forth.buffer →
    s.back.buffer ≡ z.back.buffer → IsIdle s t

abbrev pub IsRound : Setup → (s t : State) → Type 0
IsRound c s t =
    (l : Reading) × (m : Reading) × Reads (front (sent_both c s).forth) l
    × Reads (front (landed_forth l (sent_both c s)).back) m
    × CubeRound (link_round c l m s) t
    × StaysIdle s (link_round c l m s) t

abbrev pub Rounds : Setup → (ℕ → State) → ℕ → Type 0
Rounds c run n = (i : ℕ) → i < n → IsRound c (run i) (run (suc i))

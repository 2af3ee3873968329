-- A landing in one direction beside the other one, whatever the masks.
use Rattle.std.specs.Prelude.{◌≡◌, ◌≢◌, ℕ, ◌≤◌, Bool, true, if◌then◌else◌, List, ◌⊎◌}
use Rattle.hmc_numbers.specs.Direction.{Item, Direction, front_or}
use Rattle.hmc_numbers.specs.Direction.Item.{filler, clear}
use Rattle.hmc_numbers.specs.Direction.Filler.{start}
use Rattle.hmc_numbers.specs.Direction.Reached.{aborting, spoilt}
use Rattle.hmc_numbers.specs.Events.{Reading, Event, happens}
use Rattle.hmc_numbers.specs.Events.Reading.{plain, as_start, as_clear}
use Rattle.hmc_numbers.specs.Events.Event.{rests, sends_filler, sends_clear, begins, begins_through, begins_again, goes_on, acknowledges, drops, opens, passes, accepts, repeats, unlocks}
use Rattle.hmc_numbers.specs.Pair.{Move, event_at, other_after}
use Rattle.hmc_numbers.specs.Pair.Move.{does, counts}
use Rattle.hmc_numbers.specs.Tokens.{used_tokens}
use Rattle.hmc_numbers.specs.Turns.{MayMove, IsLong, IsPret}
use Rattle.hmc_link_state.specs.State.{Setup, Side, wire, flits_of}

-- the events of a landing
abbrev pub IsLanding : Event → Type 0
IsLanding rests = ⊥
IsLanding (sends_filler f) = ⊥
IsLanding sends_clear = ⊥
IsLanding (begins s) = ⊥
IsLanding (begins_through s) = ⊥
IsLanding begins_again = ⊥
IsLanding goes_on = ⊥
IsLanding (acknowledges n) = ⊥
IsLanding unlocks = ⊥
IsLanding e = Unit {0}

abbrev pub move_of : Bool → Event → Move
move_of b e = if b then counts e else does e

-- in Good an IRTRY reads as what it is
abbrev pub reading_of : Item → Reading
reading_of (filler start) = as_start
reading_of clear = as_clear
reading_of x = plain

abbrev pub IsProper : Item → Event → Type 0
IsProper x (passes reading) = reading ≡ reading_of x
IsProper x e = Unit {0}

-- in Good, and where it opens, the pointer of a whole flit is taken
abbrev pub MustCount : Direction → Event → Type 0
MustCount w opens = Unit {0}
MustCount w (passes reading) = IsLong w reading ⊎ IsPret (front_or w.before w.line)
MustCount w accepts = Unit {0}
MustCount w repeats = Unit {0}
MustCount w e = ⊥

-- a run of Starts is counted by the 24th
abbrev pub Ran : Direction → Event → Type 0
Ran w (drops as_start) = w.start_run ≡ 23
Ran w (passes as_start) = w.start_run ≡ 23
Ran w e = ⊥

-- a landing in direction own: its pointer is taken or not, and it ends a run of Starts or not
pub record Lands (c : Setup) (own other : Side) (e : Event) (b ran : Bool) (missing : ℕ)
    (buffer : List ℕ) : Type 0 where
  pub landing : IsLanding e
  pub may : MayMove c.retry c.tokens own.half other.half (move_of b e)
  pub proper : IsProper (front_or (wire own).before (wire own).line) e
  pub counted : MustCount (wire own) e → b ≡ true
  pub ended : ran ≡ true → Ran (wire own) e
  pub few : e ≡ drops as_clear → (wire own).far ≡ aborting → (wire own).clear_run ≢ 23
  pub lacks : (happens (wire own) e).far ≡ spoilt → (1 ≤ missing) × (missing ≤ 16)
  pub fills : flits_of buffer ≡ used_tokens (event_at own.half 0 e)

abbrev pub land : (own : Side) → Event → (steady missing : ℕ) → (buffer : List ℕ) → Side
land own e st ms bf =
    record own { half = event_at own.half 0 e; steady = st; missing = ms; buffer = bf }

abbrev pub took : (own other : Side) → Event → (b ran : Bool) → Side
took own other e b ran =
    record other {
      half = other_after own.half other.half (move_of b e);
      go_back = if ran then true
          else other.go_back;
      is_open = if ran then true else other.is_open;
    }

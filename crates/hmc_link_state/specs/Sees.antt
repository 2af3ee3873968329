-- What a sender sees is what the pair of directions is, and what it sends is an event.
use Rattle.std.specs.Prelude.{◌≡◌, ℕ, ◌-◌, ◌≤◌, true, false, Option, Some, None}
use Rattle.hmc_numbers.specs.Weights.{Weight, flits_to}
use Rattle.hmc_numbers.specs.Direction.{Reached, Reached as far, Filler as fill, begun, position}
use Rattle.hmc_numbers.specs.Events.{Event}
use Rattle.hmc_numbers.specs.Events.Event.{rests, sends_filler, sends_clear, begins, begins_again, goes_on}
use Rattle.hmc_numbers.specs.Pair.{Half}
use Rattle.hmc_numbers.specs.Tokens.{held_tokens, due_tokens}
use Rattle.hmc_link_state.specs.Choice.{Mode, Sight, Choice, Choice as choices, tokens_for}
use Rattle.hmc_link_state.specs.Choice.Mode.{training, abort, good}

abbrev pub mode_of : Reached → Mode
mode_of far.training = training
mode_of far.aborting = abort
mode_of far = good

-- the packets that a sender begins
abbrev pub new_slot : (flits due : ℕ) → Weight
new_slot n due = record { flits = n; token = true; returns = tokens_for due }

abbrev pub tret_slot : (due : ℕ) → Weight
tret_slot due = record { flits = 1; token = false; returns = tokens_for due }

abbrev pub event_of : (due : ℕ) → Choice → Event
event_of due choices.train = sends_filler fill.train
event_of due choices.starved = rests
event_of due choices.next = goes_on
event_of due choices.clear = sends_clear
event_of due choices.start = sends_filler fill.start
event_of due choices.again = begins_again
event_of due (choices.new n) = begins (new_slot n due)
event_of due choices.tret = begins (tret_slot due)
event_of due choices.pret = sends_filler fill.pret
event_of due choices.null = sends_filler fill.null

-- a front has 1 to 17 flits
abbrev pub IsFairFront : Option ℕ → Type 0
IsFairFront None = Unit {0}
IsFairFront (Some n) = (1 ≤ n) × (n ≤ 17)

pub record Sees (retry advertised : ℕ) (own other : Half) (s : Sight) : Type 0 where
  pub mode : s.mode ≡ mode_of other.direction.far
  pub left : s.left ≡ own.direction.left
  pub clears : s.clears ≡ own.direction.clears
  pub front : IsFairFront s.front
  pub held : s.held ≡ held_tokens own other
  pub room :
      s.room ≡ retry - (flits_to own.direction.first (begun own.direction) - flits_to
      own.direction.first own.direction.acked)
  pub due : s.due ≡ due_tokens advertised other own
  pub position : s.position ≡ position own.direction
  pub begun : s.begun ≡ begun own.direction

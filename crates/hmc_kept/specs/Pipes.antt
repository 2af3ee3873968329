-- The pipes of a network.
use Rattle.std.specs.Prelude.{◌≡◌, ◌<◌, ◌+◌, ℕ, Bool, true, false, List, length, slice_set, slice_index_or, Option, Some, None, option_map}
use Rattle.hmc_packet.specs.declared.outcome.Outcome.{Outcome}
use Rattle.hmc_packet.specs.declared.outcome.Outcome.TheVariants as outcomes
use Rattle.hmc_through.specs.Pipe.{PipeFields}
use Rattle.hmc_journal.specs.Piped.{PipeFrom, while_gathered, with_landing, with_unlock}

-- By each direction, onto which one the packet is forwarded that is gathered at its end, if it is
-- forwarded; and the pipe of the latest packet that was forwarded onto the direction.
pub record PipesHeld : Type 0 where
  pub forwarded : List (Option ℕ)
  pub pipes : List (Option PipeFrom)

-- no packet was forwarded
pub record AreUnused (held : PipesHeld) : Type 0 where
  pub forwarded : (direction : ℕ) → slice_index_or held.forwarded direction None ≡ None
  pub pipes : (direction : ℕ) → slice_index_or held.pipes direction None ≡ None

-- there are this many directions
pub record AreCounted (directions : ℕ) (held : PipesHeld) : Type 0 where
  pub forwarded : length held.forwarded ≡ directions
  pub pipes : length held.pipes ≡ directions

-- the direction onto which the packet at the end of one is forwarded
abbrev pub forwarded_at : PipesHeld → (direction : ℕ) → Option ℕ
forwarded_at held direction = slice_index_or held.forwarded direction None

-- the pipe of a direction
abbrev pub pipe_at : PipesHeld → (direction : ℕ) → Option PipeFrom
pipe_at held direction = slice_index_or held.pipes direction None

-- a packet that is gathered at the end of a direction is forwarded
abbrev pub after_begin : (onto : ℕ) → PipeFrom → PipesHeld → PipesHeld
after_begin onto p held = record {
  forwarded = slice_set held.forwarded p.from (Some onto);
  pipes = slice_set held.pipes onto (Some p);
}

-- a pipe with its flits changed
abbrev pub changed_pipe : (PipeFields → PipeFields) → PipeFrom → PipeFrom
changed_pipe changed p = record p { pipe = changed p.pipe }

-- the gathering at the end of a direction continues, or ends; the pipe changes of the packet that
-- is forwarded
abbrev pub after_change : (onto : Option ℕ) → (Option ℕ → Option ℕ) → (PipeFields → PipeFields) →
    (direction : ℕ) → PipesHeld → PipesHeld
after_change None goes_on changed direction held = held
after_change (Some onto) goes_on changed direction held = record {
  forwarded = slice_set held.forwarded direction (goes_on (Some onto));
  pipes = slice_set held.pipes onto (option_map (changed_pipe changed) (pipe_at held onto));
}

-- a flit lands with an outcome
abbrev pub after_flit : (direction : ℕ) → (flit : List ℕ) → Outcome → PipesHeld → PipesHeld
after_flit direction flit outcome held =
    after_change (forwarded_at held direction) (while_gathered outcome) (with_landing flit outcome)
    direction held

-- the framing is lost
abbrev pub after_loss : (direction : ℕ) → PipesHeld → PipesHeld
after_loss direction held =
    after_change (forwarded_at held direction) (λ onto. None) with_unlock direction held

-- a packet that came whole
abbrev pub is_whole_outcome : Outcome → Bool
is_whole_outcome outcomes.Accepted = true
is_whole_outcome outcomes.Poisoned = true
is_whole_outcome outcomes.Repeat = true
is_whole_outcome _ = false

-- the pipe of the packet that is gathered at the end of a direction, if it is forwarded: it is
-- there, its gathering has not ended, and flits of its packet are still to come
pub record IsGathering (held : PipesHeld) (direction onto : ℕ) : Type 0 where
  pub there : onto < length held.pipes
  pub p : PipeFrom
  pub pipe : pipe_at held onto ≡ Some p
  pub unended : p.pipe.good ≡ None
  pub more : length p.pipe.came < p.pipe.flits

-- all packets that are forwarded are gathered so
abbrev pub AreGathering : PipesHeld → (direction : ℕ) → Type 0
AreGathering held direction = (onto : ℕ) → forwarded_at held direction ≡ Some onto →
    IsGathering held direction onto

-- where the packet came whole with a flit, no flit is missing
abbrev pub IsLastOf : PipesHeld → (direction : ℕ) → Outcome → Type 0
IsLastOf held direction outcome = (onto : ℕ) (p : PipeFrom) →
    forwarded_at held direction ≡ Some onto → pipe_at held onto ≡ Some p →
    is_whole_outcome outcome ≡ true → length p.pipe.came + 1 ≡ p.pipe.flits

-- flits of a packet are still to come
abbrev pub is_gathered : Outcome → Bool
is_gathered outcomes.Gathered = true
is_gathered _ = false

-- the place, if there is one, is one of the packet of the pipe
abbrev pub IsPlace : Option PipeFrom → (place : Option ℕ) → Type 0
IsPlace None place = Unit {0}
IsPlace (Some p) None = Unit {0}
IsPlace (Some p) (Some at) = at < p.pipe.flits

-- a flit may land with an outcome that belongs to the packet of this pipe
abbrev pub MayLand : Option PipeFrom → Outcome → Type 0
MayLand None outcome = Unit {0}
MayLand (Some p) outcome = (p.pipe.good ≡ None) × (length p.pipe.came < p.pipe.flits)
    × (is_whole_outcome outcome ≡ true → length p.pipe.came + 1 ≡ p.pipe.flits)

-- the framing may be lost before the packet of this pipe has come whole
abbrev pub MayLose : Option PipeFrom → Type 0
MayLose None = Unit {0}
MayLose (Some p) = p.pipe.good ≡ None

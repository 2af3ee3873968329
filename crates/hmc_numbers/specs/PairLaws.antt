-- What holds of every pair of directions that turns lead to, where each of them might come.
use Rattle.std.specs.Prelude.{◌≡◌, ℕ, suc, ◌+◌, ◌≤◌, List, [], ◌∷◌, length}
use Rattle.hmc_codes.specs.declared.profile.Profile.{Profile}
use Rattle.hmc_numbers.specs.Direction.{Item}
use Rattle.hmc_numbers.specs.Direction.Filler.{null, train}
use Rattle.hmc_numbers.specs.Direction.Item.{filler, part}
use Rattle.hmc_numbers.specs.Direction.Reached.{training}
use Rattle.hmc_numbers.specs.Events.{Event}
use Rattle.hmc_numbers.specs.May.{IsShut}
use Rattle.hmc_numbers.specs.DirectionLaws.{DirectionLaws}
use Rattle.hmc_numbers.specs.Pair.{Half, Pair}
use Rattle.hmc_numbers.specs.Tokens.{cost_begun, cost_accepted, tokens_begun, tokens_accepted, held_tokens, transit_tokens, used_tokens, due_tokens, returning_tokens}
use Rattle.hmc_numbers.specs.Turns.{MayHere, MayCount}

-- the flit has a return pointer: it is a PRET, an IRTRY or the last of a sequenced packet
abbrev pub Points : Item → Type 0
Points (filler null) = ⊥
Points (filler train) = ⊥
Points (part n k (suc more)) = ⊥
Points x = Unit {0}

-- the numbers are at least low and at most high, and none is less than the one before it
abbrev pub Rising : (low : ℕ) → List ℕ → (high : ℕ) → Type 0
Rising low [] high = low ≤ high
Rising low (s ∷ ss) high = (low ≤ s) × Rising s ss high

-- the laws of direction own beside the other one
pub record HalfLaws (p : Profile) (retry advertised : ℕ) (own other : Half) : Type 0 where
  pub laws : DirectionLaws p retry own.direction
  -- while the receiver at its end is in Train, a sender is sending no packet and has sent no Clear,
  -- and the far receiver is in Train or Abort
  pub trains :
      other.direction.far ≡ training →
      (own.direction.left ≡ 0) × (own.direction.clears ≡ 0) × IsShut own.direction.far
  -- each flit on the line has its stamp; stamps are between what is acknowledged of the other
  -- direction and what is accepted of it, and do not fall
  pub stamped : length own.stamps ≡ length own.direction.line
  pub stamps : Rising other.direction.acked own.stamps other.direction.accepted
  -- a return pointer that is taken was sent as one
  pub points :
      (e : Event) → MayHere retry advertised own other e → MayCount own.direction e →
      (x : Item) (xs : List Item) → own.direction.line ≡ x ∷ xs → Points x
  -- none of the five numbers of tokens is below zero
  pub held : cost_begun own.direction ≤ tokens_accepted other.direction
  pub transit : cost_accepted own.direction ≤ cost_begun own.direction
  pub used : own.moved ≤ cost_accepted own.direction
  pub due : tokens_begun other.direction ≤ advertised + own.moved
  pub returning : tokens_accepted other.direction ≤ tokens_begun other.direction
  -- the input buffer has room for every packet that is accepted
  pub fits : used_tokens own ≤ advertised
  -- no token is lost, and none is made
  pub sum :
      held_tokens own other + transit_tokens own + used_tokens own +
      due_tokens advertised own other + returning_tokens other ≡ advertised

-- the laws of each direction beside the other one
pub record PairLaws (p : Profile) (retry advertised : ℕ) (pair : Pair) : Type 0 where
  pub forth : HalfLaws p retry advertised pair.forth pair.back
  pub back : HalfLaws p retry advertised pair.back pair.forth

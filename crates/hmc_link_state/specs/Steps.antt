-- All that can happen to a link by numbers, with any masks, and what its packets' queues and
-- buffers do.
use Rattle.std.specs.Prelude.{◌≡◌, ℕ, ◌+◌, ◌≤◌, Bool, false, List, [], ◌∷◌, ◌++◌}
use Rattle.hmc_numbers.specs.Direction.Reached.{training}
use Rattle.hmc_numbers.specs.Events.{Event, happens}
use Rattle.hmc_numbers.specs.Pair.{half_opening, event_at}
use Rattle.hmc_link_state.specs.State.{Setup, Side, wire, flits_of, IsSettledSide}
use Rattle.hmc_link_state.specs.Round.{sent}
use Rattle.hmc_link_state.specs.Landing.{Lands, land, took}

-- what can happen to a direction
pub data Step : Type 0 where
  sends : Step  -- its sender takes the first case that fits, where the line isn't full
  lands : Event → (counted ran : Bool) → (steady missing : ℕ) → (buffer : List ℕ) → Step
  unlocks : Step  -- its receiver
  leaves : (moved : ℕ) → (buffer : List ℕ) → Step  -- packets leave the input buffer of its receiver
  queues : (flits : ℕ) → Step  -- a packet enters the output queue of its sender

abbrev pub own_step : Setup → (own other : Side) → Step → Side
own_step c own other Step.sends = sent c own other
own_step c own other (Step.lands e b ran st ms bf) = land own e st ms bf
own_step c own other Step.unlocks =
    record own { half = event_at own.half 0 Event.unlocks; steady = 0 }
own_step c own other (Step.leaves n bf) =
    record own { half = record own.half { moved = n }; buffer = bf }
own_step c own other (Step.queues n) = record own { queue = own.queue ++ n ∷ [] }

abbrev pub other_step : (own other : Side) → Step → Side
other_step own other (Step.lands e b ran st ms bf) = took own other e b ran
other_step own other x = other

abbrev pub MayStep : Setup → (own other : Side) → Step → Type 0
MayStep c own other (Step.lands e b ran st ms bf) =
    Lands c own other e b ran ms bf × ((happens (wire own) e).far ≡ training → st ≤ 7)
MayStep c own other (Step.leaves n bf) =
    (own.half.moved ≤ n) × (n + flits_of bf ≡ own.half.moved + flits_of own.buffer)
MayStep c own other (Step.queues n) = (1 ≤ n) × (n ≤ 17)
MayStep c own other x = Unit {0}

-- a step of one of the directions
pub data Doing : Type 0 where
  forth : Step → Doing
  back : Step → Doing

pub record Link : Type 0 where
  pub forth : Side
  pub back : Side

abbrev pub side_opening : Side
side_opening =
    record {
      half = half_opening;
      starts = 0;
      others = 64;
      go_back = false;
      is_open = false;
      ack_sent = 0;
      steady = 0;
      missing = 0;
      queue = [];
      buffer = [];
    }

abbrev pub link_after : Setup → List Doing → Link
link_after c [] = record { forth = side_opening; back = side_opening }
link_after c (Doing.forth s ∷ past) =
    let l = link_after c past in
    record { forth = own_step c l.forth l.back s; back = other_step l.forth l.back s }
link_after c (Doing.back s ∷ past) =
    let l = link_after c past in
    record { forth = other_step l.back l.forth s; back = own_step c l.back l.forth s }

abbrev pub MayDoing : Setup → Link → Doing → Type 0
MayDoing c l (Doing.forth s) = MayStep c l.forth l.back s
MayDoing c l (Doing.back s) = MayStep c l.back l.forth s

-- each step of a list, the newest first, may come after those before it
abbrev pub MayAll : Setup → List Doing → Type 0
MayAll c [] = Unit {0}
MayAll c (d ∷ past) = MayDoing c (link_after c past) d × MayAll c past

abbrev pub IsSettledLink : Link → Type 0
IsSettledLink l = IsSettledSide l.forth × IsSettledSide l.back

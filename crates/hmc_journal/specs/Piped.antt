-- Packets that are forwarded before they have come whole: which packet that is, onto which
-- direction, and what its copy is fed.
use Rattle.std.specs.Prelude.{ℕ, Bool, true, false, ◌==◌, ◌&&◌, if◌then◌else◌, List, [], ◌∷◌, ◌++◌, Option, Some, None, is_none, option_map, slice_index_or}
use Rattle.hmc_codes.specs.Places.{same_place}
use Rattle.hmc_codes.specs.declared.place.Place.TheVariants as places
use Rattle.hmc_packet.specs.declared.feed.Feed.{Feed}
use Rattle.hmc_packet.specs.declared.feed.Feed.TheVariants.{Waiting}
use Rattle.hmc_packet.specs.declared.outcome.Outcome.{Outcome}
use Rattle.hmc_packet.specs.declared.outcome.Outcome.TheVariants as outcomes
use Rattle.hmc_packet.specs.Landings.{pending}
use Rattle.hmc_packet.specs.Parts.{lng_of}
use Rattle.hmc_through.specs.Pipe.{PipeFields, feed_at}
use Rattle.hmc_journal.specs.Choice.{choose}
use Rattle.hmc_entries.specs.declared.entry.Entry.{Entry}
use Rattle.hmc_entries.specs.declared.entry.Entry.TheVariants.{Landed, Through, Unlocked}
use Rattle.hmc_journal.specs.Directions.{receiver_of, profile_of}
use Rattle.hmc_journal.specs.Setup.{Topology, end_of, direction_to}

-- a direction lands at this port
abbrev pub lands_at : Topology → (direction cube port : ℕ) → Bool
lands_at topology direction cube port =
    same_place (end_of topology direction) (places.Port cube port)

-- only the outcome `gathered` continues a gathering
abbrev pub while_gathered : Outcome → Option ℕ → Option ℕ
while_gathered outcomes.Gathered onto = onto
while_gathered _ onto = None

-- the direction onto which the packet is forwarded that is being gathered at the end of a
-- direction, if it is forwarded
unfoldable pub forwarded_onto : Topology → (direction : ℕ) → List Entry → Option ℕ
forwarded_onto topology d [] = None
forwarded_onto topology d (Through cube port direction ∷ past) =
    choose (lands_at topology d cube port) (Some direction) (forwarded_onto topology d past)
forwarded_onto topology d (Landed direction flit outcome ∷ past) =
    choose (direction == d) (while_gathered outcome (forwarded_onto topology d past))
    (forwarded_onto topology d past)
forwarded_onto topology d (Unlocked direction ∷ past) =
    choose (direction == d) None (forwarded_onto topology d past)
forwarded_onto topology d (_ ∷ past) = forwarded_onto topology d past

-- a packet that is accepted while it is forwarded enters no buffer
abbrev pub goes_on : Outcome → (onto : Option ℕ) → Bool
goes_on outcomes.Accepted (Some direction) = true
goes_on _ onto = false

-- a pipe, and the direction at whose end its packet is gathered
pub record PipeFrom : Type 0 where
  pub from : ℕ
  pub pipe : PipeFields

-- a pipe of the flits that are gathered there
abbrev pub pipe_of : Topology → (from : ℕ) → (came : List (List ℕ)) → PipeFrom
pipe_of topology from came = record {
  from = from;
  pipe = record {
    flits = lng_of (slice_index_or came 0 []);
    profile = profile_of topology from;
    came = came;
    good = None;
  };
}

-- the copy is good only where the packet was accepted
abbrev pub is_accepted_outcome : Outcome → Bool
is_accepted_outcome outcomes.Accepted = true
is_accepted_outcome _ = false

-- a flit comes; any outcome but `gathered` ends the gathering
abbrev pub with_landing : (flit : List ℕ) → Outcome → PipeFields → PipeFields
with_landing flit outcomes.Gathered pipe = record pipe { came = pipe.came ++ flit ∷ [] }
with_landing flit outcome pipe =
    record pipe { came = pipe.came ++ flit ∷ []; good = Some (is_accepted_outcome outcome) }

-- an unlock ends it without a flit
abbrev pub with_unlock : PipeFields → PipeFields
with_unlock pipe = record pipe { good = Some false }

-- only what happens where the packet is gathered, and until its gathering has ended, changes a pipe
abbrev pub while_gathering : (direction : ℕ) → (PipeFields → PipeFields) → PipeFrom → PipeFrom
while_gathering direction change p =
    if (p.from == direction) && is_none p.pipe.good then record p { pipe = change p.pipe } else p

-- the pipe of the latest packet that was forwarded onto a direction
unfoldable pub pipe_onto : Topology → (direction : ℕ) → List Entry → Option PipeFrom
pipe_onto topology d [] = None
pipe_onto topology d (Through cube port direction ∷ past) =
    choose (direction == d)
    (option_map (λ from. pipe_of topology from (pending (receiver_of from past)))
    (direction_to topology (places.Port cube port)))
    (pipe_onto topology d past)
pipe_onto topology d (Landed direction flit outcome ∷ past) =
    option_map (while_gathering direction (with_landing flit outcome)) (pipe_onto topology d past)
pipe_onto topology d (Unlocked direction ∷ past) =
    option_map (while_gathering direction with_unlock) (pipe_onto topology d past)
pipe_onto topology d (_ ∷ past) = pipe_onto topology d past

-- what a send is fed: the flit of the pipe at the place of the copy, if one is begun and unfinished
abbrev pub fed : (place : Option ℕ) → Option PipeFrom → Feed
fed None pipe = Waiting
fed (Some at) None = Waiting
fed (Some at) (Some p) = feed_at p.pipe at

-- What a step sees of a lawful journal, by the queues and the link of each direction.
use Rattle.std.specs.Prelude.{◌≡◌, ◌<◌, ◌≤◌, ◌/◌, ℕ, true, List, All, [], ◌∷◌, length, slice_index_or, drop, filter, Option, Some, None}
use Rattle.hmc_codes.specs.declared.lift.Lift.{Lift}
use Rattle.hmc_codes.specs.Flit.{IsFlit}
use Rattle.hmc_packet.specs.declared.outcome.Outcome.TheVariants.{Accepted}
use Rattle.hmc_packet.specs.Landings.{mode, pending}
use Rattle.hmc_packet.specs.Parts.{lng_of}
use Rattle.hmc_packet.specs.Receptions.{reception_of}
use Rattle.hmc_send.specs.Entries.{under_way, through_at}
use Rattle.hmc_send.specs.IsSender.{IsFed}
use Rattle.hmc_send.specs.LinkEntries.{LinkEntry, takes, accepted_packets, receiver_entries}
use Rattle.hmc_send.specs.LinkCalls.{holds_packet}
use Rattle.hmc_send.specs.LinkSenders.{sender_entries, queue_in}
use Rattle.hmc_send.specs.Places.{is_token}
use Rattle.hmc_ends.specs.End.{flits_seen}
use Rattle.hmc_journal.specs.Links.{toward, sizes_on, fed_after}
use Rattle.hmc_journal.specs.Piped.{PipeFrom, pipe_of}
use Rattle.hmc_journal.specs.QueueInvariant.{IsOnItsWay, IsCubeRequest, IsHostAnswer, IsAnswerFor}
use Rattle.hmc_journal.specs.Queues.{landing_buffer}
use Rattle.hmc_journal.specs.Queues.QueueId.{Output, Port, Host, Bank, Registers, Answers}
use Rattle.hmc_journal.specs.Setup.{Topology, directions_in}
use Rattle.hmc_journal.specs.StepView.{StepView}
use Rattle.hmc_kept.specs.Pipes.{PipesHeld, AreCounted, IsPlace, forwarded_at, pipe_at}

-- the flits that are gathered at the end of a direction
abbrev pub gathered : StepView → (direction : ℕ) → List (List ℕ)
gathered view direction =
    pending (receiver_entries (toward direction) (view.entries (direction / 2)))

-- the flits, if there are any
abbrev pub some_flits : List (List ℕ) → Option (List (List ℕ))
some_flits [] = None
some_flits (first ∷ rest) = Some (first ∷ rest)

-- nothing, or fewer flits than the first one names, at most 17
abbrev pub AreShort : List (List ℕ) → Type 0
AreShort [] = Unit {0}
AreShort (first ∷ rest) = (length (first ∷ rest) < lng_of first) × (lng_of first ≤ 17)

-- What a direction's queues are to its link: the packets that its sender hasn't begun, and those
-- that were accepted at its end and not taken. What it is fed fits the packet that is forwarded
-- onto it. Flits are gathered where its receiver is Good, and fewer than the first one names.
pub record ShowsDirection (topology : Topology) (view : StepView) (direction : ℕ) : Type 0 where
  pub output : view.inside (Output direction)
      ≡ queue_in (sizes_on topology direction) (toward direction) (view.entries (direction / 2))
  pub buffer : view.inside (landing_buffer topology direction)
      ≡ drop (takes (toward direction) (view.entries (direction / 2)))
      (filter is_token (accepted_packets (sizes_on topology direction).profile
      (toward direction) (view.entries (direction / 2))))
  pub fed : IsFed (under_way (sizes_on topology direction).profile
      (sender_entries (sizes_on topology direction) (toward direction)
      (view.entries (direction / 2))))
      (fed_after (sizes_on topology direction) (toward direction) (view.entries (direction / 2))
      (view.pipe direction))
  pub gathers : flits_seen
      (mode (receiver_entries (toward direction) (view.entries (direction / 2))))
      (gathered view direction)
      ≡ some_flits (gathered view direction)
  pub short : AreShort (gathered view direction)

-- What a packet that is forwarded is: its pipe has the flits that were gathered, its gathering has
-- not ended, and flits are still to come. Accepted, it is the front of its buffer, which is empty.
pub record IsForwardedIn (topology : Topology) (view : StepView) (direction onto : ℕ) : Type 0 where
  pub there : onto < directions_in topology
  pub pipe : view.pipe onto ≡ Some (pipe_of topology direction (gathered view direction))
  pub some : 1 ≤ length (gathered view direction)
  pub more : length (gathered view direction)
      < lng_of (slice_index_or (gathered view direction) 0 [])
  pub front : (mask flit : List ℕ) → IsFlit flit →
      (reception_of (sizes_on topology direction).profile
      (receiver_entries (toward direction) (view.entries (direction / 2))) flit).outcome
      ≡ Accepted →
      holds_packet (sizes_on topology direction) (toward direction)
      (LinkEntry.landed (toward direction) mask flit Accepted ∷ view.entries (direction / 2))
      ≡ true

-- The place of the next flit of a packet that is forwarded onto a direction, if there is one, is
-- one of its pipe. A pipe whose gathering has not ended is that of a packet that is forwarded.
pub record IsOnward (topology : Topology) (view : StepView) (direction : ℕ) : Type 0 where
  pub place : IsPlace (view.pipe direction)
      (through_at (sizes_on topology direction).profile (sender_entries
      (sizes_on topology direction) (toward direction) (view.entries (direction / 2))))
  pub source : (p : PipeFrom) → view.pipe direction ≡ Some p → p.pipe.good ≡ None →
      (p.from < directions_in topology) × (view.forwarded p.from ≡ Some direction)

-- What the laws of journals promise of a view: the queues of directions are those of their links;
-- packets wait on their way at ports, requests in their cube, answers to a host that is there, and
-- answers at a host that awaits them.
pub record KeepsLaws (topology : Topology) (view : StepView) : Type 0 where
  pub directions : (direction : ℕ) → direction < directions_in topology →
      ShowsDirection topology view direction
  pub onward : (direction : ℕ) → direction < directions_in topology →
      IsOnward topology view direction
  pub forwarded : (direction onto : ℕ) → direction < directions_in topology →
      view.forwarded direction ≡ Some onto → IsForwardedIn topology view direction onto
  pub ports : (cube port : ℕ) → All (IsOnItsWay topology) (view.inside (Port cube port))
  pub banks : (cube vault bank : ℕ) →
      All (IsCubeRequest cube) (view.inside (Bank cube vault bank))
  pub registers : (cube : ℕ) → All (IsCubeRequest cube) (view.inside (Registers cube))
  pub answers : (cube : ℕ) (from : Lift) →
      All (IsHostAnswer topology) (view.inside (Answers cube from))
  pub hosts : (host : ℕ) → All (IsAnswerFor (view.host host)) (view.inside (Host host))
  pub numbers : (host : ℕ) → (view.host host).number ≡ host

-- The packets that are kept as forwarded are those of a view.
pub record ShowsPipes (topology : Topology) (view : StepView) (piped : PipesHeld) : Type 0 where
  pub counted : AreCounted (directions_in topology) piped
  pub forwarded : (direction : ℕ) → direction < directions_in topology →
      forwarded_at piped direction ≡ view.forwarded direction
  pub pipes : (direction : ℕ) → direction < directions_in topology →
      pipe_at piped direction ≡ view.pipe direction

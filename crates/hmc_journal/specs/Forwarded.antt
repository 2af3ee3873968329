-- What a lawful journal promises of packets that are forwarded while they are gathered.
use Rattle.std.specs.Prelude.{◌≡◌, ◌≤◌, ◌<◌, ℕ, true, false, Some, None, List, [], ◌∷◌, length, slice_index_or}
use Rattle.hmc_codes.specs.Flit.{IsFlit}
use Rattle.hmc_packet.specs.declared.feed.Feed.TheVariants.{Waiting}
use Rattle.hmc_packet.specs.declared.outcome.Outcome.TheVariants.{Accepted}
use Rattle.hmc_packet.specs.Landings.{pending}
use Rattle.hmc_packet.specs.Parts.{lng_of}
use Rattle.hmc_packet.specs.Receptions.{reception_of}
use Rattle.hmc_send.specs.Entries.{under_way, through_at}
use Rattle.hmc_send.specs.IsSender.{IsFed}
use Rattle.hmc_send.specs.LinkCalls.{holds_packet, may_pass_on, view_in}
use Rattle.hmc_send.specs.LinkEntries.{LinkEntry}
use Rattle.hmc_send.specs.LinkSenders.{sender_entries}
use Rattle.hmc_entries.specs.declared.entry.Entry.{Entry}
use Rattle.hmc_journal.specs.Directions.{receiver_of}
use Rattle.hmc_journal.specs.Links.{toward, entries_on, sizes_on, fed_after}
use Rattle.hmc_journal.specs.Piped.{PipeFrom, pipe_of, forwarded_onto, pipe_onto}
use Rattle.hmc_journal.specs.Queues.{landing_buffer, contents}
use Rattle.hmc_journal.specs.Setup.{Topology, Setup, directions_in}

-- The packet that is gathered at the end of a direction and forwarded onto another: its pipe has
-- the flits that were gathered, its gathering has not ended, and flits are still to come. Accepted,
-- it is the front of its buffer, which is empty.
pub record IsForwarded (topology : Topology) (past : List Entry) (from onto : ℕ) : Type 0 where
  pub there : onto < directions_in topology
  pub pipe : pipe_onto topology onto past
      ≡ Some (pipe_of topology from (pending (receiver_of from past)))
  pub some : 1 ≤ length (pending (receiver_of from past))
  pub more : length (pending (receiver_of from past))
      < lng_of (slice_index_or (pending (receiver_of from past)) 0 [])
  pub empty : contents topology past (landing_buffer topology from) ≡ []
  pub front : (mask flit : List ℕ) → IsFlit flit →
      (reception_of (sizes_on topology from).profile (receiver_of from past) flit).outcome
      ≡ Accepted →
      holds_packet (sizes_on topology from) (toward from)
      (LinkEntry.landed (toward from) mask flit Accepted ∷ entries_on topology from past)
      ≡ true

-- Each packet that is forwarded is such a one. A pipe whose gathering hasn't ended is that of a
-- packet that is forwarded, and what a direction is fed fits the packet under way there.
pub record AreForwarded (setup : Setup) (past : List Entry) : Type 0 where
  pub forwarded : (direction onto : ℕ) → direction < directions_in setup.topology →
      forwarded_onto setup.topology direction past ≡ Some onto →
      IsForwarded setup.topology past direction onto
  pub gathering : (onto : ℕ) (p : PipeFrom) →
      pipe_onto setup.topology onto past ≡ Some p → p.pipe.good ≡ None →
      (p.from < directions_in setup.topology)
      × (forwarded_onto setup.topology p.from past ≡ Some onto)
  -- nothing more is forwarded onto its direction
  pub free : (direction onto flits : ℕ) → direction < directions_in setup.topology →
      forwarded_onto setup.topology direction past ≡ Some onto →
      may_pass_on (view_in (sizes_on setup.topology onto) (toward onto)
      (entries_on setup.topology onto past) Waiting) flits ≡ false
  pub fed : (direction : ℕ) →
      IsFed (under_way (sizes_on setup.topology direction).profile
      (sender_entries (sizes_on setup.topology direction) (toward direction)
      (entries_on setup.topology direction past)))
      (fed_after (sizes_on setup.topology direction) (toward direction)
      (entries_on setup.topology direction past) (pipe_onto setup.topology direction past))
  pub at : (direction at : ℕ) →
      through_at (sizes_on setup.topology direction).profile
      (sender_entries (sizes_on setup.topology direction) (toward direction)
      (entries_on setup.topology direction past)) ≡ Some at →
      (p : PipeFrom) × (pipe_onto setup.topology direction past ≡ Some p) × (at < p.pipe.flits)

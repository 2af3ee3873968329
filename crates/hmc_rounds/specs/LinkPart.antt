-- What the cube's part of the bound takes from the link's part: a link's entries as steps by
-- numbers.
use Rattle.std.specs.Prelude.{◌≡◌, ℕ, false, List, [], ◌∷◌, ◌++◌, map, length, drop, filter, Option, Some, None}
use Rattle.hmc_codes.specs.Link.{LinkFields}
use Rattle.hmc_packet.specs.Packet.{PacketFields, flits_of}
use Rattle.hmc_schedule.specs.declared.step.Step.{Step as ScheduleStep}
use Rattle.hmc_send.specs.declared.toward.Toward.{Toward}
use Rattle.hmc_send.specs.declared.toward.Toward.TheVariants.{Forth, Back}
use Rattle.hmc_send.specs.LinkEntries.{LinkEntry, takes, accepted_packets}
use Rattle.hmc_send.specs.LinkEntries.LinkEntry.{handed, taken}
use Rattle.hmc_send.specs.LinkSenders.{places_in, queue_in, tokens}
use Rattle.hmc_send.specs.Places.{is_token, takes_tokens}
use Rattle.hmc_wire.specs.LinkLaws.{IsKept}
use Rattle.hmc_numbers.specs.Events.{Reading}
use Rattle.hmc_numbers.specs.Tokens.{transit_tokens}
use Rattle.hmc_link_state.specs.State as drain
use Rattle.hmc_link_state.specs.State.{Side, State}
use Rattle.hmc_link_state.specs.Round.{Reads, front, sent_both, landed_forth, link_round}
use Rattle.hmc_link_state.specs.Steps.{Step, Doing, Link, MayAll, link_after}
use Rattle.hmc_link_state.specs.Steps.Step.{leaves, queues}
use Rattle.hmc_entries.specs.declared.entry.Entry.{Entry}
use Rattle.hmc_journal.specs.Lawful.{Lawful, has_passed}
use Rattle.hmc_journal.specs.Links.{toward, sizes_on, entries_on}
use Rattle.hmc_codes.specs.declared.place.Place.TheVariants as places
use Rattle.hmc_journal.specs.Setup.{Setup, Topology, direction_from}
use Rattle.hmc_rounds.specs.Rounds.{journal_after, link_steps}
use Rattle.hmc_journal.specs.Settled.{IsSettledDirection}

-- the sizes by numbers
abbrev pub sizes_by : LinkFields → drain.Setup
sizes_by link = record { line = link.line; tokens = link.tokens; retry = link.retry }

-- a step of a direction, where requests go this way
abbrev pub doing_on : (requests way : Toward) → Step → Doing
doing_on Forth Forth step = Doing.forth step
doing_on Forth Back step = Doing.back step
doing_on Back Forth step = Doing.back step
doing_on Back Back step = Doing.forth step

abbrev pub side_on : (requests way : Toward) → Link → Side
side_on Forth Forth link = link.forth
side_on Forth Back link = link.back
side_on Back Forth link = link.back
side_on Back Back link = link.forth

-- Entries of a link that no packet is passed on from or to: with one link none is.
abbrev pub IsNoThrough : LinkEntry → Type 0
IsNoThrough (LinkEntry.through way head flits) = ⊥
IsNoThrough _ = Unit {0}

abbrev pub HaveNoThrough : List LinkEntry → Type 0
HaveNoThrough [] = Unit {0}
HaveNoThrough (entry ∷ past) = IsNoThrough entry × HaveNoThrough past

pub record IsPlain (link : LinkFields) (past : List LinkEntry) : Type 0 where
  pub kept : IsKept link past
  pub alone : HaveNoThrough past

-- the way of requests: that of the direction from host 0
abbrev pub way_of : Option ℕ → Toward
way_of None = Forth
way_of (Some direction) = toward direction

abbrev pub requests_of : Topology → Toward
requests_of topology = way_of (direction_from topology (places.Host 0))

-- Numbers of a link whose requests go this way: steps for each list of entries.
pub record LinkPart (link : LinkFields) (requests : Toward) (doings : List LinkEntry → List Doing) :
    Type 0 where
  pub may : (past : List LinkEntry) → IsPlain link past → MayAll (sizes_by link) (doings past)
  -- a packet that is handed or taken is one step of its direction
  pub handed_is : (way : Toward) (packet : PacketFields) (past : List LinkEntry) →
      IsPlain link (handed way packet ∷ past) →
      doings (handed way packet ∷ past) ≡ doing_on requests way (queues (flits_of packet))
      ∷ doings past
  pub taken_is : (way : Toward) (past : List LinkEntry) → IsPlain link (taken way ∷ past) →
      (moved : ℕ) × (buffer : List ℕ)
      × (doings (taken way ∷ past) ≡ doing_on requests way (leaves moved buffer) ∷ doings past)
  -- what queues and buffers hold
  pub queue : (way : Toward) (past : List LinkEntry) → IsPlain link past →
      (side_on requests way (link_after (sizes_by link) (doings past))).queue ≡ map flits_of
      (queue_in link way past)
  pub buffer : (way : Toward) (past : List LinkEntry) → IsPlain link past →
      (side_on requests way (link_after (sizes_by link) (doings past))).buffer
      ≡ map flits_of
      (drop (takes way past) (filter is_token (accepted_packets link.profile way past)))
  -- what was begun and not accepted
  pub crossing : (way : Toward) (past : List LinkEntry) → IsPlain link past →
      drain.crossing (side_on requests way (link_after (sizes_by link) (doings past)))
      ≡ length
      (filter takes_tokens
      (drop (length (accepted_packets link.profile way past)) (places_in link way past)))
  -- its tokens in transit
  pub transit : (way : Toward) (past : List LinkEntry) → IsPlain link past →
      transit_tokens (side_on requests way (link_after (sizes_by link) (doings past))).half
      ≡ (tokens link way past).transit
  -- a settled direction is settled by numbers
  pub settled : (way : Toward) (past : List LinkEntry) → IsPlain link past →
      IsSettledDirection link way past →
      drain.IsSettledSide (side_on requests way (link_after (sizes_by link) (doings past)))

-- the numbers of a journal's direction of the one link
abbrev pub link_of : Topology → (List LinkEntry → List Doing) → List Entry → Link
link_of topology doings past =
    link_after (sizes_by (sizes_on topology 0)) (doings (entries_on topology 0 past))

-- The link's steps of a whole round are the link's part of a round by numbers, whichever way it
-- sends first.
pub record LinkRounds (setup : Setup) (doings : List LinkEntry → List Doing) : Type 0 where
  pub round : (past : List Entry) (rest : List ScheduleStep) (s : State) → Lawful setup past →
      drop (length past) setup.schedule ≡ link_steps ++ rest →
      Lawful setup (journal_after setup past link_steps) →
      has_passed (journal_after setup past link_steps) ≡ false →
      s.forth ≡ (link_of setup.topology doings past).forth →
      s.back ≡ (link_of setup.topology doings past).back →
      let c = sizes_by (sizes_on setup.topology 0) in
      (l : Reading) × (m : Reading) × Reads (front (sent_both c s).forth) l
      × Reads (front (landed_forth l (sent_both c s)).back) m
      × ((link_round c l m s).forth ≡ (link_of setup.topology doings
      (journal_after setup past link_steps)).forth)
      × ((link_round c l m s).back ≡ (link_of setup.topology doings
      (journal_after setup past link_steps)).back)

-- A link's entries as turns of its two directions by numbers (hmc_numbers): what is sent, what
-- lands and what leaves a buffer, without a byte of a flit.
use Rattle.std.specs.Prelude.{ℕ, ◌-◌, Bool, ◌||◌, if◌then◌else◌, List, [], ◌∷◌, ◌++◌, length, Option, Some, None}
use Rattle.hmc_codes.specs.Link.{LinkFields}
use Rattle.hmc_codes.specs.declared.profile.Profile.{Profile}
use Rattle.hmc_packet.specs.declared.kind.Kind.{Kind}
use Rattle.hmc_packet.specs.declared.kind.Kind.TheVariants as kinds
use Rattle.hmc_packet.specs.declared.outcome.Outcome.{Outcome}
use Rattle.hmc_packet.specs.declared.outcome.Outcome.TheVariants as outcomes
use Rattle.hmc_packet.specs.declared.view.Mode.{Mode}
use Rattle.hmc_packet.specs.declared.view.Mode.TheVariants as modes
use Rattle.hmc_packet.specs.declared.what.What.{What}
use Rattle.hmc_packet.specs.declared.what.What.TheVariants as what
use Rattle.hmc_packet.specs.Irtry.{irtry_in}
use Rattle.hmc_packet.specs.Landings.{mode}
use Rattle.hmc_packet.specs.Packet.{PacketFields}
use Rattle.hmc_packet.specs.Receptions.{reception_of}
use Rattle.hmc_tokens.specs.Account.{tokens_of_code, code_for}
use Rattle.hmc_send.specs.declared.toward.Toward.{Toward}
use Rattle.hmc_send.specs.declared.toward.Toward.TheVariants.{Forth, Back}
use Rattle.hmc_send.specs.Entries.{SenderEntry, Given, Part, or_null, unfinished, places}
use Rattle.hmc_send.specs.LinkEntries.{LinkEntry, other, receiver_entries, accepted_packets, takes}
use Rattle.hmc_packet.specs.Masks.{changes}
use Rattle.hmc_send.specs.LinkLines.{is_pending_changed}
use Rattle.hmc_send.specs.LinkSenders.{sender_entries, places_in, given_in, due_after}
use Rattle.hmc_send.specs.LinkTokens.{flits_taken}
use Rattle.hmc_send.specs.Places.{Place, flits_at, numbers_at, takes_tokens, pointer_of, number_of, numbers_after, next_packet, tret_packet}
use Rattle.hmc_numbers.specs.Direction.{Filler as fillers}
use Rattle.hmc_numbers.specs.Events.{Reading, Reading as readings, Event, Event as events}
use Rattle.hmc_numbers.specs.Pair.{Move, Move as moves, Turn, Turn as turns}
use Rattle.hmc_numbers.specs.Weights.{Weight}

-- a place by numbers: its flits, whether it takes tokens, and the tokens that its packet returns
abbrev pub weight : Place → Weight
weight place = record {
  flits = flits_at place;
  token = takes_tokens place;
  returns = tokens_of_code (numbers_at place).rtc;
}

-- the flits of a packet under way that are left to send
abbrev pub left_of : Option Part → ℕ
left_of None = 0
left_of (Some part) = part.flits - length part.sent

-- ---- sends

-- the place that a packet is given after these, while so many tokens are due
abbrev pub next_place : Profile → (due : ℕ) → PacketFields → List Place → Place
next_place profile due packet before =
    Place.known
    (next_packet profile (pointer_of profile before) (number_of before) (code_for due) packet)

-- the place of a cut-through after these
abbrev pub through_place : Profile → (due : ℕ) → (head : List ℕ) → (flits : ℕ) → List Place → Place
through_place profile due head flits before =
    Place.awaited head flits
    (numbers_after profile (pointer_of profile before) (number_of before) flits (code_for due))

-- a flit goes on with the packet under way, if there is one
abbrev pub unless_begun : Option Part → Event → Event
unless_begun None event = event
unless_begun (Some part) event = events.goes_on

-- the event of a flit that is sent as this, after these entries of its sender
abbrev pub sent_event : Profile → List SenderEntry → Given → What → Event
sent_event profile past given what.Train = events.sends_filler fillers.train
sent_event profile past given what.Null = events.sends_filler fillers.null
sent_event profile past given what.Pret = events.sends_filler fillers.pret
sent_event profile past given what.Start = events.sends_filler fillers.start
sent_event profile past given what.Clear = events.sends_clear
sent_event profile past given what.New =
    unless_begun (unfinished past)
    (events.begins
    (weight (next_place profile given.due (or_null given.front) (places profile past))))
sent_event profile past given what.Tret =
    events.begins (weight (next_place profile given.due tret_packet (places profile past)))
sent_event profile past given what.Again = unless_begun (unfinished past) events.begins_again

-- ---- landings

-- how an IRTRY of a kind reads
abbrev pub reading_of_kind : Kind → Reading
reading_of_kind kinds.Start = readings.as_start
reading_of_kind kinds.Clear = readings.as_clear

-- an IRTRY that a flit reads as, or none
abbrev pub reading_of : Option (Kind × ℕ) → Reading
reading_of None = readings.plain
reading_of (Some irtry) = reading_of_kind irtry.0

-- The event of a landing, by the mode of the receiver before it, whether the flit or a pending one
-- is changed, whether the flit is, how it reads alone, and its outcome.
abbrev pub event_by : Mode → (touched changed : Bool) → Reading → Outcome → Event
event_by modes.Train touched changed reading outcomes.Trained = events.trains
event_by modes.Train touched changed reading _ = events.drops reading
event_by modes.Abort touched changed reading (outcomes.Ran kinds.Clear) = events.opens
event_by modes.Abort touched changed reading _ = events.drops reading
event_by modes.Good touched changed reading outcomes.Gathered =
    if touched then events.spoils changed else events.gathers
event_by modes.Good touched changed reading outcomes.Accepted = events.accepts
event_by modes.Good touched changed reading outcomes.Poisoned = events.accepts
event_by modes.Good touched changed reading outcomes.Repeat = events.repeats
event_by modes.Good touched changed reading (outcomes.AbortedBad bad) = events.breaks changed
event_by modes.Good touched changed reading outcomes.AbortedOrder = events.breaks changed
event_by modes.Good touched changed reading _ = events.passes reading

-- the event of the landing of this flit under this mask in a direction, after these entries
abbrev pub landed_event : LinkFields → Toward → List LinkEntry → (mask flit : List ℕ) → Outcome
    → Event
landed_event link d past mask flit outcome =
    event_by (mode (receiver_entries d past))
    (changes mask || is_pending_changed d past) (changes mask)
    (reading_of (irtry_in link.profile flit)) outcome

-- a landing whose return pointer is counted acknowledges packets of the other direction
abbrev pub counted_move : (rrp : Option ℕ) → Event → Move
counted_move None event = moves.does event
counted_move (Some rrp) event = moves.counts event

-- ---- turns

-- the flits that left the buffer of a direction
abbrev pub taken_in : Profile → Toward → List LinkEntry → ℕ
taken_in profile d past = flits_taken (takes d past) (accepted_packets profile d past)

-- a move in a direction
abbrev pub turn_in : Toward → Move → Turn
turn_in Forth move = turns.forth move
turn_in Back move = turns.back move

-- the turn of an entry; a packet that is handed to an output queue is none
abbrev pub turns_of_entry : LinkFields → List LinkEntry → LinkEntry → List Turn
turns_of_entry link past (LinkEntry.handed d packet) = []
turns_of_entry link past (LinkEntry.taken d) =
    turn_in d (moves.moves
    (taken_in link.profile d (LinkEntry.taken d ∷ past) - taken_in link.profile d past)) ∷ []
turns_of_entry link past (LinkEntry.sent d feed as_what flit) =
    turn_in d (moves.does
    (sent_event link.profile (sender_entries link d past) (given_in link d past feed) as_what))
    ∷ []
turns_of_entry link past (LinkEntry.landed d mask flit outcome) =
    turn_in d
    (counted_move (reception_of link.profile (receiver_entries d past) flit).rrp
    (landed_event link d past mask flit outcome)) ∷ []
turns_of_entry link past (LinkEntry.unlocked d) = turn_in d (moves.does events.unlocks) ∷ []
turns_of_entry link past (LinkEntry.through d head flits) =
    turn_in d (moves.does (events.begins_through (weight
    (through_place link.profile (due_after link (other d) past (sender_entries link d past))
    head flits (places_in link d past))))) ∷ []

-- the turns of a list, the newest first
unfoldable pub turns_of : LinkFields → List LinkEntry → List Turn
turns_of link [] = []
turns_of link (entry ∷ past) = turns_of_entry link past entry ++ turns_of link past

-- The turns of specs/EntryTurns.antt are those of a list's steps, so they may come, and the
-- numbers after them are what the list says. The function entries_are_events cites it.
use Rattle.std.proofs.Common.{◌≡◌, ◌∙◌, ℕ, Bool, true, false, ◌||◌, List, [], ◌∷◌, ◌++◌, Option, Some, None, refl, sym, ap, subst}
use Rattle.std.specs.Prelude.{if◌then◌else◌, slice_get}
use Rattle.hmc_codes.specs.Link.{LinkFields}
use Rattle.hmc_packet.specs.declared.kind.Kind as outer
use Rattle.hmc_packet.specs.declared.kind.Kind.TheVariants as outer_kinds
use Rattle.hmc_packet.specs.declared.outcome.Outcome as outer_outcome
use Rattle.hmc_packet.specs.declared.outcome.Outcome.TheVariants as out
use Rattle.hmc_packet.specs.declared.view.Mode as outer_mode
use Rattle.hmc_packet.specs.declared.view.Mode.TheVariants as outer_modes
use Rattle.hmc_packet.specs.Irtry.{irtry_in}
use Rattle.hmc_packet.specs.Landings.{mode}
use Rattle.hmc_packet.specs.Receptions.{reception_of}
use Rattle.hmc_send.specs.declared.toward.Toward.{Toward}
use Rattle.hmc_send.specs.declared.toward.Toward.TheVariants.{Forth, Back}
use Rattle.hmc_send.specs.Entries.{SenderEntry}
use Rattle.hmc_send.specs.LinkCalls.{IsLawful}
use Rattle.hmc_send.specs.LinkEntries.{LinkEntry, LinkEntry as entry, receiver_entries}
use Rattle.hmc_packet.specs.Masks.{changes}
use Rattle.hmc_send.specs.LinkLines.{line, is_pending_changed}
use Rattle.hmc_send.specs.LinkSenders.{sender_entries, given_in, due_after}
use Rattle.hmc_send.proofs.LinkLawful.{lawful-landed}
use Rattle.hmc_numbers.specs.Events.{Reading, Event}
use Rattle.hmc_numbers.specs.Pair.{Turn, Turn as turned, pair_after}
use Rattle.hmc_numbers.specs.Turns.{MayTurns}
use Rattle.hmc_wire.specs.Conditions.{AreHanded, AreFed}
use Rattle.hmc_wire.specs.EntryTurns.{reading_of, event_by, landed_event, counted_move, turns_of_entry, turns_of}
use Rattle.hmc_wire.specs.FieldsAre.{FieldsAre, half_on, half_after}
use Rattle.hmc_wire.specs.LinkLaws.{IsKept}
use Rattle.hmc_wire.proofs.GrammarLandings as inner
use Rattle.hmc_wire.proofs.GrammarCounted.{counted}
use Rattle.hmc_wire.proofs.Actions.{SideOf, counts_or_does, landing_event, link_after}
use Rattle.hmc_wire.proofs.Matches as matches
use Rattle.hmc_wire.proofs.PacketGrammar.{grammar, alone}
use Rattle.hmc_wire.proofs.Words.{mode_as, outcome_as}
use Rattle.hmc_wire.proofs.Readings.{pair_of, alone-same}
use Rattle.hmc_wire.proofs.Mirrors.{mirrored}
use Rattle.hmc_wire.proofs.Steps as steps
use Rattle.hmc_wire.proofs.Steps.{landings_on, steps_of}
use Rattle.hmc_wire.proofs.Agreements.{fed-turn, landed-fed}
use Rattle.hmc_wire.proofs.Joins.{WayAt}
use Rattle.hmc_wire.proofs.Turns.{own-joins, lawful-turns}
use Rattle.hmc_wire.proofs.Fields.{lawful-fields}

-- ---- what is asked of a list is asked of the list before

handed-before : (link : LinkFields) (e : LinkEntry) (past : List LinkEntry) → AreHanded link.profile (e ∷ past) → AreHanded link.profile past
unfolding AreHanded
handed-before link (entry.handed d packet) past is = is.1
handed-before link (entry.taken d) past is = is
handed-before link (entry.sent d feed as_what flit) past is = is
handed-before link (entry.landed d mask flit outcome) past is = is
handed-before link (entry.unlocked d) past is = is
handed-before link (entry.through d head flits) past is = is

forth-before : (link : LinkFields) (e : LinkEntry) (past : List LinkEntry) → AreFed link.profile (sender_entries link Forth (e ∷ past)) → AreFed link.profile (sender_entries link Forth past)
unfolding sender_entries
forth-before link (entry.handed d packet) past is = is
forth-before link (entry.taken d) past is = is
forth-before link (entry.sent Forth feed as_what flit) past is = fed-turn link.profile (SenderEntry.sent (given_in link Forth past feed) as_what flit) (sender_entries link Forth past) is
forth-before link (entry.sent Back feed as_what flit) past is = is
forth-before link (entry.landed Forth mask flit outcome) past is = is
forth-before link (entry.landed Back mask flit outcome) past is =
    landed-fed link.profile outcome (reception_of link.profile (receiver_entries Back past) flit).rrp (slice_get (line link.profile Back past) 0) (sender_entries link Forth past) is
forth-before link (entry.unlocked d) past is = is
forth-before link (entry.through Forth head flits) past is = fed-turn link.profile (SenderEntry.through head flits (due_after link Back past (sender_entries link Forth past))) (sender_entries link Forth past) is
forth-before link (entry.through Back head flits) past is = is

back-before : (link : LinkFields) (e : LinkEntry) (past : List LinkEntry) → AreFed link.profile (sender_entries link Back (e ∷ past)) → AreFed link.profile (sender_entries link Back past)
unfolding sender_entries
back-before link (entry.handed d packet) past is = is
back-before link (entry.taken d) past is = is
back-before link (entry.sent Back feed as_what flit) past is = fed-turn link.profile (SenderEntry.sent (given_in link Back past feed) as_what flit) (sender_entries link Back past) is
back-before link (entry.sent Forth feed as_what flit) past is = is
back-before link (entry.landed Back mask flit outcome) past is = is
back-before link (entry.landed Forth mask flit outcome) past is =
    landed-fed link.profile outcome (reception_of link.profile (receiver_entries Forth past) flit).rrp (slice_get (line link.profile Forth past) 0) (sender_entries link Back past) is
back-before link (entry.unlocked d) past is = is
back-before link (entry.through Back head flits) past is = fed-turn link.profile (SenderEntry.through head flits (due_after link Forth past (sender_entries link Back past))) (sender_entries link Back past) is
back-before link (entry.through Forth head flits) past is = is

pub kept-before : (link : LinkFields) (e : LinkEntry) (past : List LinkEntry) → IsKept link (e ∷ past) → IsKept link past
unfolding IsLawful
kept-before link e past is = record {
  retry = is.retry;
  lawful = is.lawful.1;
  met = record {
    handed = handed-before link e past is.met.handed;
    forth = forth-before link e past is.met.forth;
    back = back-before link e past is.met.back;
  };
}

-- ---- a landing

pub reading-same : (o : Option (outer.Kind × ℕ)) → matches.reading_of (pair_of o) ≡ reading_of o
reading-same None = refl
reading-same (Some (outer_kinds.Start, rrp)) = refl
reading-same (Some (outer_kinds.Clear, rrp)) = refl

touched-same : (touched changed : Bool) → matches.gathers_or_spoils touched changed ≡ (if touched then Event.spoils changed else Event.gathers)
touched-same true changed = refl
touched-same false changed = refl

pub event-same : (m : outer_mode.Mode) (touched changed : Bool) (reading : Reading) (o : outer_outcome.Outcome) → matches.event_of (mode_as m) touched changed reading (outcome_as o) ≡ event_by m touched changed reading o
event-same outer_modes.Train touched changed reading out.Trained = refl
event-same outer_modes.Train touched changed reading _ = refl
event-same outer_modes.Abort touched changed reading (out.Ran outer_kinds.Clear) = refl
event-same outer_modes.Abort touched changed reading (out.Ran outer_kinds.Start) = refl
event-same outer_modes.Abort touched changed reading _ = refl
event-same outer_modes.Good touched changed reading out.Gathered = touched-same touched changed
event-same outer_modes.Good touched changed reading (out.Ran outer_kinds.Clear) = refl
event-same outer_modes.Good touched changed reading (out.Ran outer_kinds.Start) = refl
event-same outer_modes.Good touched changed reading _ = refl

move-same : (o : Option ℕ) (e : Event) → counts_or_does o e ≡ counted_move o e
move-same None e = refl
move-same (Some rrp) e = refl

landing-moves : (link : LinkFields) (d : Toward) (past : List LinkEntry) (own : SideOf (grammar link.profile)) (mask flit : List ℕ) (o : outer_outcome.Outcome) → WayAt link d past own → o ≡ (reception_of link.profile (receiver_entries d past) flit).outcome →
    counts_or_does (counted (grammar link.profile) own.received flit) (landing_event (grammar link.profile) own.received (changes mask) flit)
    ≡ counted_move (reception_of link.profile (receiver_entries d past) flit).rrp (landed_event link d past mask flit o)
landing-moves link d past own mask flit o is outcome_is =
    let q = link.profile in
    let g = grammar q in
    let ls = landings_on q d past in
    let said = mirrored q (receiver_entries d past) ls flit is.mirrors in
    let pointer : counted g own.received flit ≡ (reception_of q (receiver_entries d past) flit).rrp = (λ i. counted g (is.received i) flit) ∙ sym said.pointer in
    let mode_same : inner.mode g own.received ≡ mode_as (mode (receiver_entries d past)) = ap (inner.mode g) is.received ∙ sym is.mirrors.mode in
    let spoilt : inner.is_spoilt g own.received ≡ is_pending_changed d past = ap (inner.is_spoilt g) is.received ∙ is.spoilt in
    let reading : matches.reading_of (alone q flit) ≡ reading_of (irtry_in q flit) = ap matches.reading_of (alone-same q flit) ∙ reading-same (irtry_in q flit) in
    let outcome : inner.outcome g own.received flit ≡ outcome_as o = (λ i. inner.outcome g (is.received i) flit) ∙ sym said.outcome ∙ ap outcome_as (sym outcome_is) in
    (λ i. counts_or_does (pointer i) (matches.event_of (mode_same i) (changes mask || spoilt i) (changes mask) (reading i) (outcome i)))
    ∙ ap (counts_or_does (reception_of q (receiver_entries d past) flit).rrp) (event-same (mode (receiver_entries d past)) (changes mask || is_pending_changed d past) (changes mask) (reading_of (irtry_in q flit)) o)
    ∙ move-same (reception_of q (receiver_entries d past) flit).rrp (landed_event link d past mask flit o)

-- ---- each entry

pub turns-same : (link : LinkFields) (past : List LinkEntry) → IsKept link past → steps.step_turns link past ≡ turns_of link past
unfolding steps.step_turns steps_of turns_of
turns-same link [] kept = refl
turns-same link (entry.handed d packet ∷ past) kept = turns-same link past (kept-before link (entry.handed d packet) past kept)
turns-same link (entry.taken Forth ∷ past) kept = ap (λ (l : List Turn). turns_of_entry link past (entry.taken Forth) ++ l) (turns-same link past (kept-before link (entry.taken Forth) past kept))
turns-same link (entry.taken Back ∷ past) kept = ap (λ (l : List Turn). turns_of_entry link past (entry.taken Back) ++ l) (turns-same link past (kept-before link (entry.taken Back) past kept))
turns-same link (entry.sent Forth feed as_what flit ∷ past) kept = ap (λ (l : List Turn). turns_of_entry link past (entry.sent Forth feed as_what flit) ++ l) (turns-same link past (kept-before link (entry.sent Forth feed as_what flit) past kept))
turns-same link (entry.sent Back feed as_what flit ∷ past) kept = ap (λ (l : List Turn). turns_of_entry link past (entry.sent Back feed as_what flit) ++ l) (turns-same link past (kept-before link (entry.sent Back feed as_what flit) past kept))
turns-same link (entry.landed Forth mask flit o ∷ past) kept =
    let before = kept-before link (entry.landed Forth mask flit o) past kept in
    let is = lawful-landed link past Forth mask flit o kept.lawful in
    let move = landing-moves link Forth past (link_after (grammar link.profile) (steps_of link past)).forth mask flit o (own-joins link past before).forth is.outcome_is in
    λ i. turned.forth (move i) ∷ turns-same link past before i
turns-same link (entry.landed Back mask flit o ∷ past) kept =
    let before = kept-before link (entry.landed Back mask flit o) past kept in
    let is = lawful-landed link past Back mask flit o kept.lawful in
    let move = landing-moves link Back past (link_after (grammar link.profile) (steps_of link past)).back mask flit o (own-joins link past before).back is.outcome_is in
    λ i. turned.back (move i) ∷ turns-same link past before i
turns-same link (entry.unlocked Forth ∷ past) kept = ap (λ (l : List Turn). turns_of_entry link past (entry.unlocked Forth) ++ l) (turns-same link past (kept-before link (entry.unlocked Forth) past kept))
turns-same link (entry.unlocked Back ∷ past) kept = ap (λ (l : List Turn). turns_of_entry link past (entry.unlocked Back) ++ l) (turns-same link past (kept-before link (entry.unlocked Back) past kept))
turns-same link (entry.through Forth head flits ∷ past) kept = ap (λ (l : List Turn). turns_of_entry link past (entry.through Forth head flits) ++ l) (turns-same link past (kept-before link (entry.through Forth head flits) past kept))
turns-same link (entry.through Back head flits ∷ past) kept = ap (λ (l : List Turn). turns_of_entry link past (entry.through Back head flits) ++ l) (turns-same link past (kept-before link (entry.through Back head flits) past kept))

-- ---- the law

pub turns-may : (link : LinkFields) (past : List LinkEntry) → IsKept link past → MayTurns link.retry link.tokens (turns_of link past)
turns-may link past kept = subst (MayTurns link.retry link.tokens) (turns-same link past kept) (lawful-turns link past kept)

pub fields-are : (link : LinkFields) (d : Toward) (past : List LinkEntry) → IsKept link past → FieldsAre link d past (half_after link d past)
fields-are link d past kept =
    subst (λ (moves : List Turn). FieldsAre link d past (half_on d (pair_after moves))) (turns-same link past kept) (lawful-fields link d past kept)

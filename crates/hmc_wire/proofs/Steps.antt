-- The entries of a link as steps of two directions with their flits. Used by Joins.
use Rattle.std.specs.Prelude.{ℕ, ◌-◌, ◌*◌, replicate, slice_index_or, Bool, true, false, List, [], ◌∷◌, ◌++◌, Option, Some, None}
use Rattle.hmc_codes.specs.Link.{LinkFields}
use Rattle.hmc_codes.specs.declared.command.Command.{Command}
use Rattle.hmc_codes.specs.declared.command.Command.TheVariants.{Rd16, Tret}
use Rattle.hmc_codes.specs.declared.profile.Profile.{Profile}
use Rattle.hmc_packet.specs.Packet.{PacketFields, null_packet}
use Rattle.hmc_send.specs.Entries.{SenderEntry, Part, unfinished, places}
use Rattle.hmc_send.specs.declared.toward.Toward.{Toward}
use Rattle.hmc_send.specs.declared.toward.Toward.TheVariants.{Forth, Back}
use Rattle.hmc_send.specs.LinkEntries.{LinkEntry, other, same_way, put_if}
use Rattle.hmc_packet.specs.Masks.{changes}
use Rattle.hmc_send.specs.LinkSenders.{due_after, sender_entries, given_in}
use Rattle.hmc_send.specs.Places.{Place, place_at, flits_at, takes_tokens, numbers_at, flit_of}
use Rattle.hmc_numbers.specs.Pair.{Turn as Turned, Turn as turned}
use Rattle.hmc_wire.specs.EntryTurns.{through_place, sent_event, taken_in}
use Rattle.hmc_wire.proofs.GrammarLandings.{Landings, Landing as lands}
use Rattle.hmc_wire.proofs.Spelled.{Sent}
use Rattle.hmc_wire.proofs.Actions.{LinkOf, Action, Action as acts, Step, Step as steps, move_of, link_after}
use Rattle.hmc_wire.proofs.PacketGrammar.{grammar}
use Rattle.hmc_wire.specs.EntryTurns.{weight}
use Rattle.hmc_wire.proofs.Words.{outcome_as}
use Rattle.hmc_wire.proofs.Places.{packet_of}

-- The landings of a direction, each with whether it was changed

unfoldable pub landings_on : (q : Profile) → Toward → List LinkEntry → Landings (grammar q)
landings_on q d [] = []
landings_on q d (LinkEntry.landed way mask flit o ∷ past) = put_if (same_way d way) (lands.landed (changes mask) flit (outcome_as o)) (landings_on q d past)
landings_on q d (LinkEntry.unlocked way ∷ past) = put_if (same_way d way) lands.unlocked (landings_on q d past)
landings_on q d (_ ∷ past) = landings_on q d past

-- The actions of a link

abbrev pub step_on : Toward → Action (List ℕ) → Step (List ℕ)
step_on Forth a = steps.forth a
step_on Back a = steps.back a

-- the step of an entry; a packet that is handed is none
abbrev pub step_of : LinkFields → List LinkEntry → LinkEntry → List (Step (List ℕ))
step_of link past (LinkEntry.handed d packet) = []
step_of link past (LinkEntry.taken d) = step_on d (acts.moves (taken_in link.profile d (LinkEntry.taken d ∷ past) - taken_in link.profile d past)) ∷ []
step_of link past (LinkEntry.sent d feed w flit) = step_on d (acts.sends (sent_event link.profile (sender_entries link d past) (given_in link d past feed) w) flit) ∷ []
step_of link past (LinkEntry.landed d mask flit o) = step_on d (acts.lands (changes mask) flit) ∷ []
step_of link past (LinkEntry.unlocked d) = step_on d acts.unlocks_receiver ∷ []
step_of link past (LinkEntry.through d head flits) =
    step_on d (acts.pipes (weight (through_place link.profile (due_after link (other d) past (sender_entries link d past)) head flits (places link.profile (sender_entries link d past))))) ∷ []

unfoldable pub steps_of : LinkFields → List LinkEntry → List (Step (List ℕ))
steps_of link [] = []
steps_of link (entry ∷ past) = step_of link past entry ++ steps_of link past

-- Flits as they are sent, for the places of a whole list. A place whose packet isn't known has some packet of its length.

abbrev pub some_command : (token : Bool) → Command
some_command true = Rd16
some_command false = Tret

abbrev pub some_packet : (tag : ℕ) → Place → PacketFields
some_packet tag place = record null_packet { command = some_command (takes_tokens place); tag = tag; rtc = (numbers_at place).rtc; payload = replicate (16 * (flits_at place - 1)) 0 }

abbrev pub packet_in : (tag : ℕ) → Place → Option PacketFields → PacketFields
packet_in tag place None = some_packet tag place
packet_in tag place (Some packet) = packet

abbrev pub sent_in : Option Part → ℕ → List ℕ
sent_in None k = []
sent_in (Some part) k = slice_index_or part.sent k []

abbrev pub front_in : Profile → Option Part → Option PacketFields → ℕ → List ℕ
front_in q u None k = sent_in u k
front_in q u (Some packet) k = flit_of q packet 0 k

abbrev pub sent_of : (q : Profile) → (tag : ℕ) → List SenderEntry → Sent (grammar q)
sent_of q tag t = record {
  front = λ n k. front_in q (unfinished t) (packet_of (place_at (places q t) n)) k;
  packet = λ n. packet_in tag (place_at (places q t) n) (packet_of (place_at (places q t) n));
}

-- The turns of the numbers: what the steps move

abbrev pub turn_of : (q : Profile) → LinkOf (grammar q) → Step (List ℕ) → Turned
turn_of q l (steps.forth a) = turned.forth (move_of (grammar q) l.forth a)
turn_of q l (steps.back a) = turned.back (move_of (grammar q) l.back a)

abbrev pub turns_by : (q : Profile) → List (Step (List ℕ)) → List Turned
turns_by q [] = []
turns_by q (e ∷ past) = turn_of q (link_after (grammar q) past) e ∷ turns_by q past

unfoldable pub step_turns : LinkFields → List LinkEntry → List Turned
step_turns link past = turns_by link.profile (steps_of link past)

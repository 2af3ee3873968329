-- Journals that break what is guaranteed of a journal, one row for each part of the guarantees. The
-- network is host 0, cube 0 and cube 1 in a row; each cube has one bank. Few of these journals are
-- lawful: a row shows what its part says by itself.
use Rattle.std.proofs.Common.{◌≡◌, ◌≤◌, ◌<◌, ℕ, Bool, true, false, List, [], ◌∷◌, Some, None, ⊎_elim, refl, ap, arith}
use Rattle.std.specs.Prelude.{replicate}
use mathlib.Core.Bool.{xor}
use Rattle.hmc_codes.specs.Codes.{all_commands, command_of}
use Rattle.hmc_codes.specs.Flit.{zero_flit}
use Rattle.hmc_codes.specs.Link.{LinkFields}
use Rattle.hmc_codes.specs.Request.{RequestFields}
use Rattle.hmc_codes.specs.Table.{table_line}
use Rattle.hmc_codes.specs.declared.answer.Answer.{Answer}
use Rattle.hmc_codes.specs.declared.answer.Answer.TheVariants.{Done, Read, Silent}
use Rattle.hmc_codes.specs.declared.command.Command.TheVariants.{Inc8, Rd16, Wr16}
use Rattle.hmc_codes.specs.declared.lift.Lift.TheVariants as lifts
use Rattle.hmc_codes.specs.declared.place.Place.TheVariants as places
use Rattle.hmc_codes.specs.declared.profile.Profile.TheVariants.{One}
use Rattle.hmc_codes.specs.declared.unit.Unit.{Unit as RequestUnit}
use Rattle.hmc_codes.specs.declared.unit.Unit.TheVariants as units
use Rattle.hmc_case.specs.Setup.{CubeSetupFields}
use Rattle.hmc_crc.specs.Bits.{bits_below, bits_of, number_of}
use Rattle.hmc_crc.specs.Remainder.{coefficients, divisor, zeros, plus, divide, remainder, crc_of}
use Rattle.hmc_script.specs.Items.{ItemFields}
use Rattle.hmc_schedule.specs.declared.step.Step.{Step}
use Rattle.hmc_schedule.specs.declared.step.Step.TheVariants as steps
use Rattle.hmc_packet.specs.declared.outcome.Outcome.TheVariants.{Accepted, AbortedOrder, Quiet}
use Rattle.hmc_packet.specs.declared.what.What.TheVariants.{New, Null}
use Rattle.hmc_packet.specs.Header.{header_of, header_is_clean}
use Rattle.hmc_packet.specs.Landings.{pending}
use Rattle.hmc_packet.specs.Landings as landings
use Rattle.hmc_packet.specs.Packet.{PacketFields, null_packet}
use Rattle.hmc_packet.specs.Parts.{word_of, half_of, lng_of}
use Rattle.hmc_packet.specs.Reading.{is_null, is_null_alone, has_length, fitting, command_in, is_clean, poison_in, packet_from, seen_in, judgement_of, bytes_read, read_of}
use Rattle.hmc_packet.specs.Tail.{tail_word, tail_of, tail_is_clean}
use Rattle.hmc_packet.specs.Transactions.{request_packet, reply_packet, payload_of, request_in, answer_by, answer_in}
use Rattle.hmc_registers.specs.Registers.{opening_registers}
use Rattle.hmc_serial.specs.Actions.{action_of}
use Rattle.hmc_serial.specs.Cube.{opening}
use Rattle.hmc_serial.specs.Errors.{memory_error}
use Rattle.hmc_serial.specs.Machine.{opening_state, apply, answer_to}
use Rattle.hmc_serial.specs.Perform.{perform_on}
use Rattle.hmc_serial.specs.Unit.{unit_of}
use Rattle.hmc_host.specs.Give.{give_says}
use Rattle.hmc_host.specs.Tags.{none_out}
use Rattle.hmc_routes.specs.Directions.{direction_among}
use Rattle.hmc_routes.specs.Distance.{within, distance}
use Rattle.hmc_routes.specs.Neighbours.{joined_to}
use Rattle.hmc_routes.specs.Ports.{port_to_cube, port_to_host}
use Rattle.hmc_routes.specs.Route.{hops_from}
use Rattle.hmc_tokens.specs.Account.{code_for}
use Rattle.hmc_send.specs.Entries as senders
use Rattle.hmc_send.specs.LinkEntries.{receiver_entries, handed_packets, takes}
use Rattle.hmc_send.specs.LinkSenders.{given_after, sender_entries, tokens}
use Rattle.hmc_hops.specs.Delivered.{IsPrefix, IsChain}
use Rattle.hmc_entries.specs.declared.entry.Entry.{Entry}
use Rattle.hmc_entries.specs.declared.entry.Entry.TheVariants.{Gave, Sent, Landed, Executed, Lifted, Took, Through, Unlocked}
use Rattle.hmc_journal.specs.Carried.{tagged_requests, tagged_answers, answers_to, answers_lifted, answers_taken, begun_here, waiting_along, marked}
use Rattle.hmc_journal.specs.Counts.{token_counts}
use Rattle.hmc_journal.specs.Delivered.{IsScripted, LinksInOrder, DeliveredInOrder, AllServed, unnumbered}
use Rattle.hmc_journal.specs.Directions.{unsent, receiver_of, awaits_first, sent_flits, landed_flits, landed_masks, accepted}
use Rattle.hmc_journal.specs.Drained.{is_drained}
use Rattle.hmc_journal.specs.Filters.{ScriptRequest, TaggedAnswer, given_by, given_to, executed_by, asked_under, replies_under, answers_under, answered_into, taken_by}
use Rattle.hmc_journal.specs.Guarantees.{Guarantees}
use Rattle.hmc_journal.specs.Hosts.{given_count, tags_out, host_of}
use Rattle.hmc_journal.specs.Lawful.{Lawful, IsWhole}
use Rattle.hmc_journal.specs.Links.{link_entries}
use Rattle.hmc_journal.specs.Next.{next, choice}
use Rattle.hmc_journal.specs.Piped.{forwarded_onto, pipe_onto}
use Rattle.hmc_journal.specs.Queues.{contents, entered, left, leaves, enters}
use Rattle.hmc_journal.specs.Routes.{route_to_cube, route_to_host}
use Rattle.hmc_journal.specs.Serial.{state_after, IsSerial}
use Rattle.hmc_journal.specs.Setup.{Topology, Setup}
use Rattle.hmc_journal.specs.StepView.{opening_of, view_of}

-- ---- what never holds

not_true : false ≡ true → ⊥
not_true is = cc

not_false : true ≡ false → ⊥
not_false is = cc

not_one : ◌≡◌ {A = ℕ} 0 1 → ⊥
not_one is = omega arith

nor_one : ◌≡◌ {A = ℕ} 1 0 → ⊥
nor_one is = omega arith

abbrev is_empty : {X : Type 0} → List X → Bool
is_empty [] = true
is_empty (x ∷ xs) = false

-- ---- the network

abbrev one_bank : CubeSetupFields
one_bank = record { shape = record { vault_bits = 0; bank_bits = 0; rows = 1; block = 256 }; queue = 1 }

abbrev sizes : LinkFields
sizes = record { line = 1; tokens = 17; retry = 17; output = 1; profile = One }

abbrev two_cubes : Topology
two_cubes = record {
  cubes = one_bank ∷ one_bank ∷ [];
  links =
      record { join = record { a = places.Host 0; b = places.Port 0 0 }; setup = sizes } ∷
      record { join = record { a = places.Port 0 1; b = places.Port 1 0 }; setup = sizes } ∷ [];
}

abbrev setup_with : (script : List ItemFields) → (schedule : List Step) → Setup
setup_with script schedule = record { topology = two_cubes; slots = []; script = script; schedule = schedule }

-- nobody asks, and there is no step
abbrev none : Setup
none = setup_with [] []

abbrev increment : (cube address : ℕ) → RequestFields
increment cube address = record { command = Inc8; cube = cube; address = address; payload = [] }

abbrev item_of : (host : ℕ) → ItemFields
item_of host = record { host = host; fenced = false; poisoned = false; request = increment 1 0x40 }

-- host 0 asks once, in one step
abbrev one_step : Setup
one_step = setup_with (item_of 0 ∷ []) (steps.Give 0 ∷ [])

abbrev bank : (cube : ℕ) → RequestUnit
bank cube = units.Bank cube 0 0

-- a host gives a request to cube 1
abbrev gave : (host tag : ℕ) → Entry
gave host tag = Gave host (Some tag) false (increment 1 0x40)

abbrev gave_at : (address : ℕ) → Entry
gave_at address = Gave 0 (Some 0) false (increment 1 address)

-- a cube executes a request of host 0 under tag 0
abbrev executed : (cube : ℕ) → Answer → Entry
executed cube answer = Executed (bank cube) 0 (Some 0) (increment cube 0x40) answer

abbrev took : Entry
took = Took 0 0 (Done false)

-- a request of host 0 to cube 1 and its answer as they are sent, and a flit that says that its packet has one flit
abbrev request_flit : List ℕ
request_flit = 0xd0 ∷ 0 ∷ 0 ∷ 0x40 ∷ 0 ∷ 0 ∷ 0 ∷ 0x20 ∷ 0 ∷ 0x02 ∷ 0x04 ∷ 0 ∷ 0x02 ∷ 0xbe ∷ 0x64 ∷ 0x54 ∷ []

abbrev answer_flit : List ℕ
answer_flit = 0xb9 ∷ 0 ∷ 0 ∷ 0 ∷ 0 ∷ 0 ∷ 0 ∷ 0x20 ∷ 0 ∷ 0x02 ∷ 0x04 ∷ 0 ∷ 0x9d ∷ 0x85 ∷ 0x08 ∷ 0xb3 ∷ []

abbrev one_flit : List ℕ
one_flit = 0x80 ∷ replicate 15 0

-- ---- prefixes

-- a prefix begins at the front, and is no longer than the whole
abbrev first_number : List ℕ → ℕ
first_number [] = 0
first_number (n ∷ ns) = n

prefix-later : IsPrefix {X = ℕ} (2 ∷ []) (1 ∷ 2 ∷ []) → ⊥
prefix-later is = let off : ◌≡◌ {A = ℕ} 1 2 = ap first_number is.1 in omega (arith, off)

prefix-longer : IsPrefix {X = ℕ} (1 ∷ []) [] → ⊥
prefix-longer is = not_false (ap is_empty is.1)

-- each list of a chain is a prefix of the one before it, and not of the first one alone
chain-grows : IsChain {X = ℕ} (1 ∷ []) ([] ∷ (1 ∷ []) ∷ []) → ⊥
chain-grows is = not_false (ap is_empty is.1.0.1)

-- ---- whole and lawful

-- an entry is missing, and there is one too many
whole-short : IsWhole one_step [] → ⊥
whole-short is = ⊎_elim not_one not_true is.whole

whole-long : IsWhole none (gave 0 0 ∷ []) → ⊥
unfolding Lawful
whole-long is = is.lawful.1

-- another entry than that of the step: the lowest tag is 0
abbrev tag_of_gave : Entry → ℕ
tag_of_gave (Gave host (Some tag) poisoned request) = tag
tag_of_gave _ = 0

whole-other : IsWhole one_step (gave 0 1 ∷ []) → ⊥
unfolding Lawful next choice view_of host_of given_count tags_out none_out give_says contents entered left direction_among joined_to within distance port_to_cube port_to_host table_line forwarded_onto pipe_onto awaits_first
whole-other is = nor_one (ap tag_of_gave is.lawful.1)

-- the same before a later entry
whole-earlier : IsWhole (setup_with (item_of 0 ∷ []) (steps.Give 0 ∷ steps.Unlock 0 ∷ [])) (Unlocked 0 ∷ gave 0 1 ∷ []) → ⊥
unfolding Lawful next choice view_of host_of given_count tags_out none_out give_says contents entered left direction_among joined_to within distance port_to_cube port_to_host table_line forwarded_onto pipe_onto awaits_first
whole-earlier is = nor_one (ap tag_of_gave is.lawful.2.1)

-- ---- the script

-- the script has none for the host: none at all, and one of another host
scripted-none : IsScripted [] (gave 0 0 ∷ []) → ⊥
unfolding given_by
scripted-none is = not_false (ap is_empty (is.given 0).1)

scripted-host : IsScripted (item_of 1 ∷ []) (gave 0 0 ∷ []) → ⊥
unfolding given_by
scripted-host is = not_false (ap is_empty (is.given 0).1)

-- the script's isn't poisoned
abbrev first_poisoned : List ScriptRequest → Bool
first_poisoned [] = false
first_poisoned (request ∷ requests) = request.poisoned

scripted-poisoned : IsScripted (item_of 0 ∷ []) (Gave 0 None true (increment 1 0x40) ∷ []) → ⊥
unfolding given_by
scripted-poisoned is = not_true (ap first_poisoned (is.given 0).1)

-- ---- executions run in order

abbrev write : RequestFields
write = record { command = Wr16; cube = 1; address = 0x40; payload = replicate 16 1 }

abbrev read : RequestFields
read = record { command = Rd16; cube = 1; address = 0x40; payload = [] }

abbrev first_byte_of : Answer → ℕ
first_byte_of (Read flag (byte ∷ bytes)) = byte
first_byte_of _ = 0

-- memory is zero at first, and a write changes it
serial-first : IsSerial (opening_of none) (Executed (bank 1) 0 (Some 0) read (Read false (replicate 16 1)) ∷ []) → ⊥
unfolding IsSerial state_after opening_state opening opening_registers apply answer_to perform_on action_of memory_error table_line
serial-first is = nor_one (ap first_byte_of is.0)

serial-written : IsSerial (opening_of none) (Executed (bank 1) 0 (Some 1) read (Read false (replicate 16 0)) ∷ Executed (bank 1) 0 (Some 0) write (Done false) ∷ []) → ⊥
unfolding IsSerial state_after opening_state opening opening_registers apply answer_to perform_on action_of memory_error table_line
serial-written is = not_one (ap first_byte_of is.0)

-- a wrong answer before a right one
serial-earlier : IsSerial (opening_of none) (Executed (bank 1) 0 (Some 1) read (Read false (replicate 16 0)) ∷ Executed (bank 1) 0 (Some 0) read (Read false (replicate 16 1)) ∷ []) → ⊥
unfolding IsSerial state_after opening_state opening opening_registers apply answer_to perform_on action_of memory_error table_line
serial-earlier is = nor_one (ap first_byte_of is.1.0)

-- ---- each direction is a list

-- a flit lands that wasn't sent, and one lands unchanged under a mask that changes
wires-unsent : LinksInOrder none (Landed 0 zero_flit Quiet ∷ []) → ⊥
unfolding landed_flits sent_flits landed_masks
wires-unsent laws = not_true (ap is_empty (laws.wires 0))

abbrev first_byte_in : List (List ℕ) → ℕ
first_byte_in ((byte ∷ bytes) ∷ flits) = byte
first_byte_in _ = 0

wires-unmasked : LinksInOrder (setup_with [] (steps.Send 0 ∷ steps.Land 0 (1 ∷ replicate 15 0) ∷ [])) (Landed 0 (replicate 16 0) Quiet ∷ Sent 0 Null (replicate 16 0) ∷ []) → ⊥
unfolding landed_flits sent_flits landed_masks xor
wires-unmasked laws = not_one (ap first_byte_in (laws.wires 0))

-- a packet is accepted that wasn't begun
accepted-unbegun : LinksInOrder none (Landed 0 request_flit Accepted ∷ []) → ⊥
unfolding accepted receiver_of landings.accepted pending link_entries sender_entries senders.places forwarded_onto pipe_onto
    read_of is_null_alone is_null zero_flit has_length lng_of word_of half_of bytes_read judgement_of command_in fitting all_commands command_of table_line is_clean header_is_clean tail_is_clean tail_word header_of tail_of poison_in packet_from seen_in crc_of remainder divide plus zeros divisor coefficients bits_below bits_of number_of xor
accepted-unbegun laws = not_false (ap is_empty (laws.accepted 0).1)

-- The second of two requests was begun from the output queue, and the first wasn't: a packet was to
-- be passed on, of which no flit had come.
abbrev passed_over : List Entry
passed_over = Sent 0 New one_flit ∷ Sent 0 New one_flit ∷ Through 0 0 0 ∷ gave_at 0x80 ∷ gave_at 0x40 ∷ []

abbrev first_address : List PacketFields → ℕ
first_address [] = 0
first_address (packet ∷ packets) = packet.address

begun-passed_over : LinksInOrder none passed_over → ⊥
unfolding begun_here unsent awaits_first receiver_of pending contents entered left leaves enters link_entries forwarded_onto pipe_onto direction_among request_packet table_line lng_of word_of half_of
    sender_entries given_after senders.places senders.unfinished senders.taken_fronts receiver_entries landings.accepted handed_packets takes code_for
begun-passed_over laws = let off : ◌≡◌ {A = ℕ} 0x40 0x80 = ap first_address (laws.begun 0).1 in omega (arith, off)

-- what was to be passed on has no place
marks-through : LinksInOrder none (Through 0 0 0 ∷ []) → ⊥
unfolding begun_here receiver_of pending link_entries forwarded_onto pipe_onto direction_among sender_entries senders.places
marks-through laws = nor_one (laws.marks 0)

in_order-aborted : LinksInOrder none (Landed 0 zero_flit AbortedOrder ∷ []) → ⊥
in_order-aborted laws = let some : 0 < 1 = omega arith in laws.in_order 0 (Unlocked 0) some

-- a packet is begun without a token
tokens-unheld : LinksInOrder none (Sent 0 New one_flit ∷ gave 0 0 ∷ []) → ⊥
unfolding unsent awaits_first receiver_of pending contents entered left leaves enters link_entries forwarded_onto pipe_onto direction_among request_packet table_line lng_of word_of half_of
    sender_entries given_after senders.places senders.unfinished senders.taken_fronts receiver_entries landings.accepted handed_packets takes code_for
tokens-unheld laws = let few : 1 ≤ 0 = (laws.tokens 0).held in omega (arith, few)

-- what a link sets is left out, and nothing else is
unnumbered-each : unnumbered (record (request_packet (increment 1 0x40) 3 2 true) { flag = true; errstat = 5; rtc = 6; seq = 7; frp = 8; payload = 9 ∷ [] })
    ≡ record { command = Inc8; tag = 3; address = 0x40; cube = 1; slid = 2; flag = true; errstat = 5; rtc = 0; seq = 0; frp = 0; poisoned = true; payload = 9 ∷ [] }
unfolding request_packet
unnumbered-each = refl

marked-each : marked (true ∷ false ∷ true ∷ []) (record null_packet { tag = 1 } ∷ record null_packet { tag = 2 } ∷ record null_packet { tag = 3 } ∷ []) ≡ record null_packet { tag = 1 } ∷ record null_packet { tag = 3 } ∷ []
marked-each = refl

-- ---- requests and answers are delivered in order

-- executed, but given by nobody; given, but carried over no direction
requests-ungiven : DeliveredInOrder none (executed 1 (Done false) ∷ []) → ⊥
unfolding given_to executed_by tagged_requests unit_of accepted landings.accepted route_to_cube hops_from receiver_of direction_among joined_to within distance port_to_cube port_to_host
requests-ungiven laws = not_false (ap is_empty (laws.requests 0 (bank 1)).1.1.0.1)

requests-uncarried : DeliveredInOrder none (executed 1 (Done false) ∷ gave 0 0 ∷ []) → ⊥
unfolding given_to executed_by tagged_requests unit_of accepted landings.accepted route_to_cube hops_from receiver_of direction_among joined_to within distance port_to_cube port_to_host
requests-uncarried laws = not_false (ap is_empty (laws.requests 0 (bank 1)).1.1.0.1)

-- accepted on a direction and executed, but given by nobody
requests-accepted : DeliveredInOrder none (executed 1 (Done false) ∷ Landed 0 request_flit Accepted ∷ []) → ⊥
unfolding given_to executed_by tagged_requests request_in payload_of unit_of accepted landings.accepted route_to_cube hops_from receiver_of pending direction_among joined_to within distance port_to_cube port_to_host
    read_of is_null_alone is_null zero_flit has_length lng_of word_of half_of bytes_read judgement_of command_in fitting all_commands command_of table_line is_clean header_is_clean tail_is_clean tail_word header_of tail_of poison_in packet_from seen_in crc_of remainder divide plus zeros divisor coefficients bits_below bits_of number_of xor
requests-accepted laws = not_false (ap is_empty (laws.requests 0 (bank 1)).0.1)

-- a request of a host that isn't there waits nowhere
requests_kept-lost : DeliveredInOrder none (gave 5 0 ∷ []) → ⊥
unfolding given_to executed_by tagged_requests unit_of route_to_cube hops_from waiting_along contents entered left leaves enters direction_among joined_to within distance port_to_cube port_to_host
    accepted landings.accepted receiver_of link_entries sender_entries senders.places forwarded_onto pipe_onto
requests_kept-lost laws = not_true (ap is_empty (laws.requests_kept 5 (bank 1)))

-- the first of two answers is none, and the second is lifted as the first
abbrev is_silent : Answer → Bool
is_silent Silent = true
is_silent _ = false

abbrev first_is_silent : List TaggedAnswer → Bool
first_is_silent [] = false
first_is_silent (reply ∷ replies) = is_silent reply.answer

lifted-second : DeliveredInOrder none (Lifted 1 (lifts.Vault 0) 0 ∷ Lifted 1 (lifts.Vault 0) 0 ∷ executed 1 (Done false) ∷ executed 1 Silent ∷ []) → ⊥
unfolding tagged_answers answered_into answer_in answer_by reply_packet contents entered left leaves enters direction_among table_line forwarded_onto awaits_first
lifted-second laws = not_false (ap first_is_silent (laws.lifted 1 (lifts.Vault 0)).1)

-- taken, but not carried; lifted and taken, but not carried
taken-uncarried : DeliveredInOrder none (took ∷ []) → ⊥
unfolding taken_by tagged_answers accepted landings.accepted receiver_of direction_among
taken-uncarried laws = not_false (ap is_empty (laws.taken 0).1)

answers-unlifted : DeliveredInOrder none (took ∷ []) → ⊥
unfolding answers_lifted answers_taken answers_to accepted landings.accepted route_to_host hops_from receiver_of contents entered left direction_among joined_to within distance port_to_cube port_to_host
answers-unlifted laws = not_false (ap is_empty (laws.answers 0 0).1.0.1)

answers-uncarried : DeliveredInOrder none (took ∷ Lifted 0 (lifts.Vault 0) 0 ∷ executed 0 (Done false) ∷ []) → ⊥
unfolding answers_lifted answers_taken answers_to answer_in answer_by reply_packet accepted landings.accepted route_to_host hops_from receiver_of contents entered left leaves enters direction_among joined_to within distance port_to_cube port_to_host table_line forwarded_onto awaits_first
answers-uncarried laws = not_false (ap is_empty (laws.answers 0 0).1.0.1)

-- accepted on both directions of its route and taken, but not lifted
answers-accepted : DeliveredInOrder none (took ∷ Landed 1 answer_flit Accepted ∷ Landed 3 answer_flit Accepted ∷ []) → ⊥
unfolding answers_lifted answers_to answer_in answer_by accepted landings.accepted route_to_host hops_from receiver_of pending direction_among joined_to within distance port_to_cube port_to_host
    read_of is_null_alone is_null zero_flit has_length lng_of word_of half_of bytes_read judgement_of command_in fitting all_commands command_of table_line is_clean header_is_clean tail_is_clean tail_word header_of tail_of poison_in packet_from seen_in crc_of remainder divide plus zeros divisor coefficients bits_below bits_of number_of xor
answers-accepted laws = not_false (ap is_empty (laws.answers 1 0).0.1)

-- an answer that was lifted at a port without a link waits nowhere
answers_kept-lost : DeliveredInOrder none (Lifted 0 (lifts.Vault 0) 3 ∷ executed 0 (Done false) ∷ []) → ⊥
unfolding answers_lifted answers_taken answers_to answer_in answer_by reply_packet accepted landings.accepted route_to_host hops_from receiver_of waiting_along contents entered left leaves enters direction_among joined_to within distance port_to_cube port_to_host table_line forwarded_onto pipe_onto awaits_first
    link_entries sender_entries senders.places
answers_kept-lost laws = not_true (ap is_empty (laws.answers_kept 0 0))

-- answered without an execution, executed without a request, and two requests under one tag
answered-unexecuted : DeliveredInOrder none (took ∷ []) → ⊥
unfolding answers_under replies_under
answered-unexecuted laws = not_false (ap is_empty (laws.answered 0 0).1)

replied-unasked : DeliveredInOrder none (executed 1 (Done false) ∷ []) → ⊥
unfolding asked_under replies_under
replied-unasked laws = not_false (ap is_empty (laws.replied 0 0).1)

out-twice : DeliveredInOrder none (gave 0 0 ∷ gave 0 0 ∷ []) → ⊥
unfolding asked_under answers_under
out-twice laws = let few : 2 ≤ 1 = laws.out 0 0 in omega (arith, few)

-- ---- all is served

served-unexecuted : AllServed two_cubes (gave 5 0 ∷ []) → ⊥
unfolding executed_by given_to unit_of
served-unexecuted served = not_false (ap is_empty (served.executed 5 (bank 1)))

served-untaken : AllServed two_cubes (executed 1 (Done false) ∷ gave 0 0 ∷ []) → ⊥
unfolding asked_under answers_under
served-untaken served = not_one (served.taken 0 0)

-- ---- the guarantees

guarantees-whole : Guarantees one_step [] → ⊥
guarantees-whole is = whole-short is.whole

guarantees-scripted : Guarantees none (gave 0 0 ∷ []) → ⊥
guarantees-scripted is = scripted-none is.scripted

guarantees-serial : Guarantees none (Executed (bank 1) 0 (Some 0) read (Read false (replicate 16 1)) ∷ []) → ⊥
guarantees-serial is = serial-first is.serial

-- at an earlier moment
guarantees-links : Guarantees none (Unlocked 0 ∷ Landed 0 zero_flit Quiet ∷ []) → ⊥
guarantees-links is = wires-unsent (is.links (Unlocked 0 ∷ []) (Landed 0 zero_flit Quiet ∷ []) refl)

guarantees-delivered : Guarantees none (Unlocked 0 ∷ took ∷ []) → ⊥
guarantees-delivered is = taken-uncarried (is.delivered (Unlocked 0 ∷ []) (took ∷ []) refl)

-- no queue has the request, and so the report says `drained`
guarantees-served : Guarantees none (gave 5 0 ∷ []) → ⊥
unfolding is_drained contents entered left leaves enters direction_among joined_to within distance port_to_cube port_to_host link_entries token_counts tokens sender_entries given_after senders.places senders.unfinished receiver_entries landings.accepted takes handed_packets unsent code_for forwarded_onto pipe_onto awaits_first
guarantees-served is = served-unexecuted (is.served refl)

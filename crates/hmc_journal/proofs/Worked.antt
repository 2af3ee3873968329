-- Definitions computed at one cube of two vaults of two banks, whose port 0 is joined to host 0.
-- Each queue has room for one packet.
use Rattle.hmc_codes.specs.declared.profile.Profile.TheVariants.{One}
use Rattle.std.proofs.Common.{◌≡◌, ℕ, Bool, List, [], ◌∷◌, Some, None, true, false, refl}
use Rattle.std.specs.Prelude.{map, replicate}
use mathlib.Core.Bool.{xor}
use Rattle.hmc_codes.specs.Request.{RequestFields}
use Rattle.hmc_codes.specs.Table.{table_line}
use Rattle.hmc_codes.specs.declared.answer.Answer.TheVariants.{Done, Read, Stored, Silent}
use Rattle.hmc_codes.specs.declared.command.Command.TheVariants.{Rd16, Pinc8, Mdrd}
use Rattle.hmc_codes.specs.declared.lift.Lift.TheVariants as lifts
use Rattle.hmc_codes.specs.declared.place.Place.TheVariants as places
use Rattle.hmc_codes.specs.declared.unit.Unit.TheVariants as units
use Rattle.hmc_script.specs.Items.{ItemFields}
use Rattle.hmc_schedule.specs.declared.step.Step.TheVariants as steps
use Rattle.hmc_packet.specs.declared.what.What.TheVariants.{New}
use Rattle.hmc_packet.specs.Packet.{null_packet}
use Rattle.hmc_crc.specs.Bits.{bits_below, bits_of, number_of}
use Rattle.hmc_crc.specs.Remainder.{coefficients, divisor, zeros, plus, divide, remainder, crc_of}
use Rattle.hmc_codes.specs.Codes.{all_commands, command_of}
use Rattle.hmc_packet.specs.Header.{header_of, header_is_clean}
use Rattle.hmc_packet.specs.Tail.{tail_word, tail_of, tail_is_clean}
use Rattle.hmc_codes.specs.Flit.{zero_flit}
use Rattle.hmc_packet.specs.Parts.{word_of, half_of, lng_of}
use Rattle.hmc_packet.specs.Reading.{is_null, is_null_alone, has_length, fitting, command_in, is_clean, poison_in, packet_from, seen_in, judgement_of, bytes_read, read_of}
use Rattle.hmc_packet.specs.Transactions.{request_packet, reply_packet, payload_of, request_in, answer_by, answer_in}
use Rattle.hmc_registers.specs.Registers.{opening_registers}
use Rattle.hmc_atomics.specs.Operations.{atomic_of}
use Rattle.hmc_atomics.specs.Act.{acted_of}
use Rattle.hmc_serial.specs.Actions.{action_of}
use Rattle.hmc_serial.specs.Cube.{opening}
use Rattle.hmc_serial.specs.Errors.{memory_error}
use Rattle.hmc_serial.specs.Machine.{opening_state, apply, answer_to}
use Rattle.hmc_serial.specs.Perform.{perform_on}
use Rattle.hmc_host.specs.Give.{give_says}
use Rattle.hmc_host.specs.Tags.{none_out, number_out, lowest_free}
use Rattle.hmc_entries.specs.declared.outcome.Cause.TheVariants.{Fence, Full}
use Rattle.hmc_entries.specs.declared.outcome.Goal.TheVariants.{Vault}
use Rattle.hmc_packet.specs.declared.outcome.Outcome.TheVariants.{Accepted, Poisoned}
use Rattle.hmc_packet.specs.Landings.{pending, mode}
use Rattle.hmc_packet.specs.Landings as landings
use Rattle.hmc_tokens.specs.Account.{code_for}
use Rattle.hmc_send.specs.Entries.{places, unfinished, taken_fronts}
use Rattle.hmc_send.specs.LinkEntries.{receiver_entries, handed_packets, takes}
use Rattle.hmc_send.specs.LinkSenders.{given_after, sender_entries, tokens}
use Rattle.hmc_send.specs.Places.{flit_of}
use Rattle.hmc_entries.specs.declared.entry.Entry.{Entry}
use Rattle.hmc_entries.specs.declared.entry.Entry.TheVariants.{Gave, Sent, Landed, Shifted, Dropped, Spread, Executed, Lifted, Took, Discarded, Idle}
use Rattle.hmc_serial.specs.Unit.{unit_of}
use Rattle.hmc_journal.specs.Setup.{Topology, Setup, other, start_of, end_of, direction_from, unit_in}
use Rattle.hmc_journal.specs.Routes.{port_towards}
use Rattle.hmc_routes.specs.Directions.{direction_among}
use Rattle.hmc_routes.specs.Distance.{within, distance}
use Rattle.hmc_routes.specs.Neighbours.{joined_to}
use Rattle.hmc_routes.specs.Ports.{port_to_cube, port_to_host}
use Rattle.hmc_journal.specs.Directions.{unsent, receiver_of, landed_packets, awaits_first}
use Rattle.hmc_journal.specs.Links.{link_entries}
use Rattle.hmc_journal.specs.Queues.{contents, entered, left, leaves, enters}
use Rattle.hmc_journal.specs.Queues.QueueId.{Output, Answers}
use Rattle.hmc_journal.specs.Hosts.{given_count, tags_out, host_of}
use Rattle.hmc_journal.specs.StepView.{opening_of, view_of, state_of}
use Rattle.hmc_journal.specs.Serial.{state_after, IsSerial}
use Rattle.hmc_journal.specs.Next.{next, choice}
use Rattle.hmc_journal.specs.Drained.{is_drained}
use Rattle.hmc_journal.specs.Counts.{token_counts, taken_count, executed_count, dropped_count, host_counts, cube_counts}
use Rattle.hmc_entries.specs.Lines.{line_of as entry_line}
use Rattle.hmc_entries.specs.Text.{lines_of}
use Rattle.hmc_journal.specs.Filters.{given_by, given_to, executed_by, asked_under, replies_under, answers_under, answered_into, taken_by}
use Rattle.hmc_journal.specs.Carried.{tagged_requests, tagged_answers}
use Rattle.hmc_journal.specs.Piped.{forwarded_onto, pipe_onto}

abbrev one_cube : Topology
one_cube = record {
  cubes = record { shape = record { vault_bits = 1; bank_bits = 1; rows = 1; block = 256 }; queue = 1 } ∷ [];
  links = record {
    join = record { a = places.Host 0; b = places.Port 0 0 };
    setup = record { line = 1; tokens = 17; retry = 17; output = 2; profile = One };
  } ∷ [];
}

abbrev read_at : ℕ → RequestFields
read_at address = record { command = Rd16; cube = 0; address = address; payload = [] }

abbrev item_of : (fenced poisoned : Bool) → RequestFields → ItemFields
item_of fenced poisoned request = record { host = 0; fenced = fenced; poisoned = poisoned; request = request }

-- a read, a poisoned one, a third one, and one after a fence
abbrev four_reads : Setup
four_reads = record {
  topology = one_cube;
  slots = [];
  script =
      item_of false false (read_at 0x40) ∷ item_of false true (read_at 0x80) ∷ item_of false false (read_at 0xc0) ∷
      item_of true false (read_at 0x100) ∷ [];
  schedule = [];
}

abbrev gave_first : Entry
gave_first = Gave 0 (Some 0) false (read_at 0x40)

abbrev gave_poisoned : Entry
gave_poisoned = Gave 0 None true (read_at 0x80)

abbrev gave_third : Entry
gave_third = Gave 0 (Some 1) false (read_at 0xc0)

-- the first request as it is sent
abbrev first_flit : List ℕ
first_flit = 0xb0 ∷ 0 ∷ 0 ∷ 0x40 ∷ 0 ∷ 0 ∷ 0 ∷ 0 ∷ 0 ∷ 0x02 ∷ 0x04 ∷ 0 ∷ 0x0d ∷ 0x2e ∷ 0xe0 ∷ 0x99 ∷ []

-- the first request, poisoned
abbrev poisoned_flit : List ℕ
poisoned_flit = 0xb0 ∷ 0 ∷ 0 ∷ 0x40 ∷ 0 ∷ 0 ∷ 0 ∷ 0 ∷ 0 ∷ 0x02 ∷ 0x04 ∷ 0 ∷ 0xf2 ∷ 0xd1 ∷ 0x1f ∷ 0x66 ∷ []

-- a request that nothing answers
abbrev posted : RequestFields
posted = record { command = Pinc8; cube = 0; address = 0x40; payload = [] }

abbrev posted_flit : List ℕ
posted_flit = 0xd4 ∷ 0 ∷ 0 ∷ 0x40 ∷ 0 ∷ 0 ∷ 0 ∷ 0 ∷ 0 ∷ 0x02 ∷ 0x04 ∷ 0 ∷ 0xcc ∷ 0xe6 ∷ 0x9d ∷ 0x19 ∷ []

-- a tag is out from its giving to its taking
number_out-two : number_out (tags_out 0 (gave_third ∷ gave_first ∷ [])) ≡ 2
unfolding tags_out none_out
number_out-two = refl

lowest_free-taken : lowest_free (tags_out 0 (Took 0 0 (Done false) ∷ gave_third ∷ gave_poisoned ∷ gave_first ∷ [])) ≡ Some 0
unfolding tags_out none_out
lowest_free-taken = refl

number_out-taken : number_out (tags_out 0 (Took 0 0 (Done false) ∷ gave_third ∷ gave_poisoned ∷ gave_first ∷ [])) ≡ 1
unfolding tags_out none_out
number_out-taken = refl

-- the first flit of a packet takes it out of the output queue
contents-begun : contents one_cube (Sent 0 New first_flit ∷ gave_poisoned ∷ gave_first ∷ []) (Output 0) ≡ request_packet (read_at 0x80) 0 0 true ∷ []
unfolding contents entered left leaves enters unsent direction_among joined_to within distance port_to_cube port_to_host lng_of word_of half_of forwarded_onto pipe_onto awaits_first
contents-begun = refl

-- requests come in the order of the script, a poisoned one without a tag
next-first : next four_reads [] (steps.Give 0) ≡ gave_first
unfolding next choice view_of host_of given_count tags_out none_out give_says contents entered left direction_among joined_to within distance port_to_cube port_to_host table_line forwarded_onto pipe_onto awaits_first
next-first = refl

next-poisoned : next four_reads (gave_first ∷ []) (steps.Give 0) ≡ gave_poisoned
unfolding next choice view_of host_of given_count tags_out none_out give_says contents entered left leaves enters direction_among joined_to within distance port_to_cube port_to_host table_line forwarded_onto pipe_onto awaits_first
next-poisoned = refl

-- two packets fill the output queue
next-full : next four_reads (gave_poisoned ∷ gave_first ∷ []) (steps.Give 0) ≡ Idle (steps.Give 0) Full
unfolding next choice view_of host_of given_count tags_out none_out give_says contents entered left leaves enters direction_among joined_to within distance port_to_cube port_to_host table_line forwarded_onto pipe_onto awaits_first
next-full = refl

-- a fence counts before a full queue
next-fence : next four_reads (gave_third ∷ gave_poisoned ∷ gave_first ∷ []) (steps.Give 0) ≡ Idle (steps.Give 0) Fence
unfolding next choice view_of host_of given_count tags_out none_out give_says contents entered left leaves enters direction_among joined_to within distance port_to_cube port_to_host table_line forwarded_onto pipe_onto awaits_first
next-fence = refl

-- nothing is on its way at first, and a request that was given is
is_drained-first : map (is_drained one_cube) ([] ∷ (gave_first ∷ []) ∷ []) ≡ true ∷ false ∷ []
unfolding is_drained contents entered left leaves enters direction_among joined_to within distance port_to_cube port_to_host link_entries token_counts tokens sender_entries given_after places unfinished receiver_entries landings.accepted takes handed_packets unsent code_for forwarded_onto pipe_onto awaits_first
is_drained-first = refl

-- a packet of one flit that came to a bank
abbrev at_bank : List ℕ → List Entry → List Entry
at_bank flit past = Spread 0 0 0 ∷ Shifted 0 0 (Vault 0) ∷ Landed 0 flit Accepted ∷ past

-- a read was executed, and its answer waits
abbrev answered_once : List Entry
answered_once = Executed (units.Bank 0 0 0) 0 (Some 0) (read_at 0x40) (Read false (replicate 16 0)) ∷ at_bank first_flit []

-- a poisoned packet is dropped, and another waits where the vault's queue is full
next-dropped : next four_reads (Landed 0 poisoned_flit Poisoned ∷ Shifted 0 0 (Vault 0) ∷ Landed 0 first_flit Accepted ∷ []) (steps.Shift 0 0) ≡ Dropped 0 0
unfolding next choice view_of contents entered left leaves enters unsent landed_packets receiver_of pending direction_among joined_to within distance port_to_cube port_to_host read_of is_null_alone is_null zero_flit has_length lng_of word_of half_of bytes_read judgement_of command_in fitting all_commands command_of table_line is_clean header_is_clean tail_is_clean tail_word header_of tail_of poison_in packet_from seen_in crc_of remainder divide plus zeros divisor coefficients bits_below bits_of number_of xor forwarded_onto pipe_onto awaits_first
next-dropped = refl

next-waits : next four_reads (Landed 0 first_flit Accepted ∷ Shifted 0 0 (Vault 0) ∷ Landed 0 first_flit Accepted ∷ []) (steps.Shift 0 0) ≡ Idle (steps.Shift 0 0) Full
unfolding next choice view_of contents entered left leaves enters unsent landed_packets receiver_of pending direction_among joined_to within distance port_to_cube port_to_host read_of is_null_alone is_null zero_flit has_length lng_of word_of half_of bytes_read judgement_of command_in fitting all_commands command_of table_line is_clean header_is_clean tail_is_clean tail_word header_of tail_of poison_in packet_from seen_in crc_of remainder divide plus zeros divisor coefficients bits_below bits_of number_of xor forwarded_onto pipe_onto awaits_first
next-waits = refl

-- where the answers are full a posted request is executed, and another waits
next-posted : next four_reads (at_bank posted_flit answered_once) (steps.Bank 0 0 0) ≡ Executed (units.Bank 0 0 0) 0 None posted Silent
unfolding next choice view_of contents entered left leaves enters unsent landed_packets receiver_of pending direction_among joined_to within distance port_to_cube port_to_host read_of is_null_alone is_null zero_flit has_length lng_of word_of half_of bytes_read judgement_of command_in fitting all_commands command_of table_line is_clean header_is_clean tail_is_clean tail_word header_of tail_of poison_in packet_from seen_in crc_of remainder divide plus zeros divisor coefficients bits_below bits_of number_of xor request_in payload_of state_of state_after opening_state opening opening_registers apply answer_to perform_on action_of atomic_of memory_error acted_of forwarded_onto pipe_onto awaits_first
next-posted = refl

next-answers_full : next four_reads (at_bank first_flit answered_once) (steps.Bank 0 0 0) ≡ Idle (steps.Bank 0 0 0) Full
unfolding next choice view_of contents entered left leaves enters unsent landed_packets receiver_of pending direction_among joined_to within distance port_to_cube port_to_host read_of is_null_alone is_null zero_flit has_length lng_of word_of half_of bytes_read judgement_of command_in fitting all_commands command_of table_line is_clean header_is_clean tail_is_clean tail_word header_of tail_of poison_in packet_from seen_in crc_of remainder divide plus zeros divisor coefficients bits_below bits_of number_of xor request_in payload_of state_of state_after opening_state opening opening_registers apply answer_to perform_on action_of atomic_of memory_error acted_of forwarded_onto pipe_onto awaits_first
next-answers_full = refl

-- Of two links the first joins host 0 to port 0, and the second port 1 to host 1.
abbrev two_links : Topology
two_links = record one_cube {
  links =
      record { join = record { a = places.Host 0; b = places.Port 0 0 }; setup = record { line = 1; tokens = 17; retry = 17; output = 2; profile = One } } ∷
      record { join = record { a = places.Port 0 1; b = places.Host 1 }; setup = record { line = 2; tokens = 18; retry = 19; output = 3; profile = One } } ∷ [];
}

other-each : map other (0 ∷ 1 ∷ 2 ∷ 3 ∷ []) ≡ 1 ∷ 0 ∷ 3 ∷ 2 ∷ []
other-each = refl

start_of-each : map (start_of two_links) (0 ∷ 1 ∷ 2 ∷ 3 ∷ []) ≡ places.Host 0 ∷ places.Port 0 0 ∷ places.Port 0 1 ∷ places.Host 1 ∷ []
start_of-each = refl

end_of-each : map (end_of two_links) (0 ∷ 1 ∷ 2 ∷ 3 ∷ []) ≡ places.Port 0 0 ∷ places.Host 0 ∷ places.Host 1 ∷ places.Port 0 1 ∷ []
end_of-each = refl

direction_from-each : map (direction_from two_links) (places.Host 0 ∷ places.Port 0 0 ∷ places.Port 0 1 ∷ places.Host 1 ∷ places.Host 2 ∷ places.Port 1 0 ∷ []) ≡ Some 0 ∷ Some 1 ∷ Some 2 ∷ Some 3 ∷ None ∷ None ∷ []
unfolding direction_among joined_to within distance port_to_cube port_to_host
direction_from-each = refl

port_towards-each : map (port_towards two_links 0) (0 ∷ 1 ∷ 2 ∷ []) ≡ Some 0 ∷ Some 1 ∷ None ∷ []
unfolding direction_among joined_to within distance port_to_cube port_to_host
port_towards-each = refl

-- the vault is bit 8 of an address, the bank bit 9
abbrev load : RequestFields
load = record { command = Mdrd; cube = 0; address = 7; payload = [] }

unit_of-each : map (unit_in one_cube) (read_at 0x40 ∷ read_at 0x140 ∷ read_at 0x240 ∷ read_at 0x740 ∷ load ∷ [])
    ≡ units.Bank 0 0 0 ∷ units.Bank 0 1 0 ∷ units.Bank 0 0 1 ∷ units.Bank 0 1 1 ∷ units.Registers 0 ∷ []
unfolding unit_of
unit_of-each = refl

-- Host 0 asks four times, one of these poisoned and one posted, and host 1 once; three are
-- executed, and one answer is taken.
abbrev mixed : List Entry
mixed =
    Took 0 0 (Read false (replicate 16 0)) ∷ Executed (units.Bank 0 0 0) 0 None posted Silent ∷
    Executed (units.Bank 0 0 0) 1 (Some 0) (read_at 0x40) (Done true) ∷
    Executed (units.Bank 0 0 0) 0 (Some 0) (read_at 0x40) (Read false (replicate 16 0)) ∷ Dropped 0 0 ∷ Gave 0 None false posted ∷
    Gave 1 (Some 0) false (read_at 0x40) ∷ Gave 0 (Some 1) false (read_at 0x140) ∷ gave_poisoned ∷ gave_first ∷ []

given_by-mixed : map (λ host. given_by host mixed) (0 ∷ 1 ∷ [])
    ≡ (record { poisoned = false; request = read_at 0x40 } ∷ record { poisoned = true; request = read_at 0x80 } ∷ record { poisoned = false; request = read_at 0x140 } ∷ record { poisoned = false; request = posted } ∷ []) ∷
    (record { poisoned = false; request = read_at 0x40 } ∷ []) ∷ []
unfolding given_by
given_by-mixed = refl

given_to-mixed : given_to one_cube 0 (units.Bank 0 0 0) mixed ≡ record { tag = Some 0; request = read_at 0x40 } ∷ record { tag = None; request = posted } ∷ []
unfolding given_to unit_of
given_to-mixed = refl

given_to-other_bank : given_to one_cube 0 (units.Bank 0 1 0) mixed ≡ record { tag = Some 1; request = read_at 0x140 } ∷ []
unfolding given_to unit_of
given_to-other_bank = refl

executed_by-mixed : executed_by 0 (units.Bank 0 0 0) mixed ≡ record { tag = Some 0; request = read_at 0x40 } ∷ record { tag = None; request = posted } ∷ []
unfolding executed_by
executed_by-mixed = refl

asked_under-mixed : map (λ tag. asked_under 0 tag mixed) (0 ∷ 1 ∷ 2 ∷ []) ≡ (read_at 0x40 ∷ []) ∷ (read_at 0x140 ∷ []) ∷ [] ∷ []
unfolding asked_under
asked_under-mixed = refl

replies_under-mixed : replies_under 0 0 mixed ≡ record { request = read_at 0x40; answer = Read false (replicate 16 0) } ∷ []
unfolding replies_under
replies_under-mixed = refl

answers_under-mixed : map (λ host. answers_under host 0 mixed) (0 ∷ 1 ∷ []) ≡ (Read false (replicate 16 0) ∷ []) ∷ [] ∷ []
unfolding answers_under
answers_under-mixed = refl

answered_into-mixed : answered_into (Answers 0 (lifts.Vault 0)) mixed ≡ record { tag = 0; answer = Read false (replicate 16 0) } ∷ record { tag = 0; answer = Done true } ∷ []
unfolding answered_into table_line
answered_into-mixed = refl

taken_by-mixed : map (λ host. taken_by host mixed) (0 ∷ 1 ∷ []) ≡ (record { tag = 0; answer = Read false (replicate 16 0) } ∷ []) ∷ [] ∷ []
unfolding taken_by
taken_by-mixed = refl

-- a tag that a poisoned or posted request would have had isn't out
host_counts-mixed : host_counts mixed 0 ≡ record { given = 4; taken = 1; out = 1 }
unfolding host_counts given_count taken_count tags_out none_out
host_counts-mixed = refl

cube_counts-mixed : map (cube_counts mixed) (0 ∷ 1 ∷ []) ≡ record { executed = 3; dropped = 1 } ∷ record { executed = 0; dropped = 0 } ∷ []
unfolding cube_counts executed_count dropped_count
cube_counts-mixed = refl

-- a packet carries its host's request to its unit, unless it is poisoned
tagged_requests-each : tagged_requests one_cube 0 (units.Bank 0 0 0)
    (request_packet (read_at 0x40) 3 0 false ∷ request_packet (read_at 0x40) 0 0 true ∷ request_packet (read_at 0x40) 4 1 false ∷ request_packet (read_at 0x140) 5 0 false ∷ request_packet posted 6 0 false ∷ [])
    ≡ record { tag = Some 3; request = read_at 0x40 } ∷ record { tag = None; request = posted } ∷ []
unfolding tagged_requests request_packet request_in payload_of unit_of table_line
tagged_requests-each = refl

tagged_answers-each : tagged_answers (reply_packet (Done true) 5 0 0 ∷ record (reply_packet Stored 6 0 0) { poisoned = true } ∷ null_packet ∷ reply_packet Stored 7 0 0 ∷ [])
    ≡ record { tag = 5; answer = Done true } ∷ record { tag = 7; answer = Stored } ∷ []
unfolding tagged_answers reply_packet answer_in answer_by
tagged_answers-each = refl

-- the executions run on a plain machine
serial-read : IsSerial (opening_of four_reads) answered_once
unfolding IsSerial state_after opening_state opening opening_registers answer_to perform_on action_of memory_error table_line
serial-read = (refl, tt)

-- the oldest entry's line comes first
lines_of-order : lines_of (Discarded 1 ∷ Dropped 0 2 ∷ []) ≡ entry_line (Dropped 0 2) ∷ entry_line (Discarded 1) ∷ []
unfolding lines_of
lines_of-order = refl

-- where each queue is empty but a packet is on the line, something is on its way
is_drained-line : is_drained one_cube (Sent 0 New first_flit ∷ gave_first ∷ []) ≡ false
unfolding is_drained contents entered left leaves enters direction_among joined_to within distance port_to_cube port_to_host flit_of lng_of word_of half_of table_line request_packet taken_fronts mode link_entries token_counts tokens sender_entries given_after places unfinished receiver_entries landings.accepted takes handed_packets unsent code_for forwarded_onto pipe_onto awaits_first
is_drained-line = refl

-- a bank's queue, and an output queue, that are full
next-bank_full : next four_reads (Shifted 0 0 (Vault 0) ∷ Landed 0 first_flit Accepted ∷ at_bank first_flit []) (steps.Spread 0 0) ≡ Idle (steps.Spread 0 0) Full
unfolding next choice view_of contents entered left leaves enters unsent landed_packets receiver_of pending direction_among joined_to within distance port_to_cube port_to_host read_of is_null_alone is_null zero_flit has_length lng_of word_of half_of bytes_read judgement_of command_in fitting all_commands command_of table_line is_clean header_is_clean tail_is_clean tail_word header_of tail_of poison_in packet_from seen_in crc_of remainder divide plus zeros divisor coefficients bits_below bits_of number_of xor forwarded_onto pipe_onto awaits_first
next-bank_full = refl

next-output_full : next four_reads (Lifted 0 lifts.Registers 0 ∷ Lifted 0 lifts.Registers 0 ∷ answered_once) (steps.Lift 0 (lifts.Vault 0)) ≡ Idle (steps.Lift 0 (lifts.Vault 0)) Full
unfolding next choice view_of contents entered left leaves enters unsent landed_packets receiver_of pending direction_among joined_to within distance port_to_cube port_to_host read_of is_null_alone is_null zero_flit has_length lng_of word_of half_of bytes_read judgement_of command_in fitting all_commands command_of table_line is_clean header_is_clean tail_is_clean tail_word header_of tail_of poison_in packet_from seen_in crc_of remainder divide plus zeros divisor coefficients bits_below bits_of number_of xor reply_packet forwarded_onto pipe_onto awaits_first
next-output_full = refl

-- a host drops a poisoned packet
next-discarded : next four_reads (Landed 1 poisoned_flit Poisoned ∷ []) (steps.Take 0) ≡ Discarded 0
unfolding next choice view_of contents entered left leaves enters unsent landed_packets receiver_of pending direction_among joined_to within distance port_to_cube port_to_host read_of is_null_alone is_null zero_flit has_length lng_of word_of half_of bytes_read judgement_of command_in fitting all_commands command_of table_line is_clean header_is_clean tail_is_clean tail_word header_of tail_of poison_in packet_from seen_in crc_of remainder divide plus zeros divisor coefficients bits_below bits_of number_of xor forwarded_onto pipe_onto awaits_first
next-discarded = refl

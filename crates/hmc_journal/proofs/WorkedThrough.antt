-- A packet that is forwarded before it has come whole, worked out: host 0, cube 0 and cube 1 in a row,
-- and a write of 16 bytes to cube 1. The entries are those of a model outside this repository.
use Rattle.std.proofs.Common.{◌≡◌, ℕ, zero, suc, false, List, [], ◌∷◌, ◌++◌, Some, reverse, refl}
use Rattle.std.specs.Prelude.{map, replicate}
use mathlib.Core.Bool.{xor}
use Rattle.hmc_codes.specs.Codes.{all_commands, command_of}
use Rattle.hmc_codes.specs.Flit.{zero_flit}
use Rattle.hmc_codes.specs.Request.{RequestFields}
use Rattle.hmc_codes.specs.Table.{table_line}
use Rattle.hmc_codes.specs.declared.command.Command.TheVariants.{Wr16}
use Rattle.hmc_codes.specs.declared.place.Place.{Place}
use Rattle.hmc_codes.specs.declared.place.Place.TheVariants as ends
use Rattle.hmc_case.specs.Setup.{CubeSetupFields}
use Rattle.hmc_case.specs.declared.setup.LinkRow.{LinkRow}
use Rattle.hmc_codes.specs.declared.profile.Profile.TheVariants.{One}
use Rattle.hmc_crc.specs.Bits.{bits_below, bits_of, number_of}
use Rattle.hmc_crc.specs.Remainder.{coefficients, divisor, zeros, plus, divide, remainder, crc_of}
use Rattle.hmc_schedule.specs.declared.step.Step.{Step}
use Rattle.hmc_schedule.specs.declared.step.Step.TheVariants as steps
use Rattle.hmc_packet.specs.declared.bad.Bad.TheVariants as bads
use Rattle.hmc_packet.specs.declared.kind.Kind.TheVariants as kinds
use Rattle.hmc_packet.specs.declared.outcome.Outcome.{Outcome}
use Rattle.hmc_packet.specs.declared.outcome.Outcome.TheVariants.{Quiet, Trained, Gathered, Accepted, Poisoned, AbortedBad, Ran}
use Rattle.hmc_packet.specs.declared.what.What.{What}
use Rattle.hmc_packet.specs.declared.what.What.TheVariants as what
use Rattle.hmc_packet.specs.Copy.{copied_packet, last_feed}
use Rattle.hmc_packet.specs.Head.{named_by, head_with, head_in}
use Rattle.hmc_packet.specs.Header.{header_word, header_of, header_is_clean}
use Rattle.hmc_packet.specs.Irtry.{irtry_in, irtry_flit}
use Rattle.hmc_packet.specs.Landings.{mode, pending, run, is_training, training}
use Rattle.hmc_packet.specs.Landings as landings
use Rattle.hmc_packet.specs.Parts.{word_of, half_of, lng_of}
use Rattle.hmc_packet.specs.Reading.{is_null, is_null_alone, has_length, fitting, command_in, is_clean, poison_in, packet_from, seen_in, judgement_of, bytes_read, read_of}
use Rattle.hmc_packet.specs.Receptions.{landing_view, reception_by, reception_of}
use Rattle.hmc_packet.specs.Spelling.{word_bytes, half_bytes, covered, check_of, bytes_of, cut, flits_with, spelling, training_flit}
use Rattle.hmc_packet.specs.Tail.{tail_word, tail_of, tail_is_clean}
use Rattle.hmc_packet.specs.Transactions.{request_packet, reply_packet, payload_of, request_in, answer_by, answer_in}
use Rattle.hmc_registers.specs.Registers.{opening_registers}
use Rattle.hmc_atomics.specs.Operations.{atomic_of}
use Rattle.hmc_atomics.specs.Act.{acted_of}
use Rattle.hmc_serial.specs.Actions.{action_of}
use Rattle.hmc_serial.specs.Cube.{opening}
use Rattle.hmc_serial.specs.Errors.{memory_error}
use Rattle.hmc_serial.specs.Machine.{opening_state, apply, answer_to}
use Rattle.hmc_serial.specs.Perform.{perform_on}
use Rattle.hmc_serial.specs.Unit.{unit_of}
use Rattle.hmc_host.specs.Give.{give_says}
use Rattle.hmc_host.specs.Tags.{none_out}
use Rattle.hmc_tokens.specs.Account.{code_for}
use Rattle.hmc_send.specs.Choice as cases
use Rattle.hmc_send.specs.Choice.{view_after}
use Rattle.hmc_send.specs.Copies.{copy_of}
use Rattle.hmc_send.specs.Entries.{unfinished, places, taken_fronts, acked, clears, starts, go_back, is_open, others, last_begun, shown_pointer}
use Rattle.hmc_send.specs.LinkEntries.{receiver_entries, handed_packets, takes}
use Rattle.hmc_send.specs.LinkLines.{line, is_pending_changed, passes}
use Rattle.hmc_send.specs.LinkLines as lines
use Rattle.hmc_send.specs.LinkSenders.{given_after, sender_entries, tokens}
use Rattle.hmc_send.specs.Places.{flit_of}
use Rattle.hmc_entries.specs.declared.outcome.Cause.TheVariants.{Empty, Starved, NoPacket, Busy}
use Rattle.hmc_entries.specs.declared.entry.Entry.{Entry}
use Rattle.hmc_entries.specs.declared.entry.Entry.TheVariants.{Gave, Sent, Landed, Through, Unlocked, Idle}
use Rattle.hmc_journal.specs.Setup.{Setup}
use Rattle.hmc_routes.specs.Directions.{direction_among}
use Rattle.hmc_routes.specs.Distance.{within, distance}
use Rattle.hmc_routes.specs.Neighbours.{joined_to}
use Rattle.hmc_routes.specs.Ports.{port_to_cube, port_to_host}
use Rattle.hmc_journal.specs.Directions.{unsent, receiver_of, landed_packets, accepted, awaits_first}
use Rattle.hmc_journal.specs.Queues.{contents, entered, left, leaves, enters}
use Rattle.hmc_journal.specs.Links.{link_entries}
use Rattle.hmc_journal.specs.Hosts.{given_count, tags_out, host_of}
use Rattle.hmc_journal.specs.StepView.{view_of, state_of}
use Rattle.hmc_journal.specs.Serial.{state_after}
use Rattle.hmc_journal.specs.Next.{next, choice}
use Rattle.hmc_journal.specs.Lawful.{journal_of, journal_behind}
use Rattle.hmc_journal.specs.Piped.{forwarded_onto, pipe_onto}

abbrev cube_of_four : CubeSetupFields
cube_of_four = record { shape = record { vault_bits = 0; bank_bits = 0; rows = 4; block = 256 }; queue = 4 }

abbrev link_between : (a b : Place) → LinkRow
link_between a b = record { join = record { a = a; b = b }; setup = record { line = 8; tokens = 34; retry = 64; output = 4; profile = One } }

abbrev sixteen : List ℕ
sixteen = 0 ∷ 1 ∷ 2 ∷ 3 ∷ 4 ∷ 5 ∷ 6 ∷ 7 ∷ 8 ∷ 9 ∷ 10 ∷ 11 ∷ 12 ∷ 13 ∷ 14 ∷ 15 ∷ []

abbrev write : RequestFields
write = record { command = Wr16; cube = 1; address = 0x40; payload = sixteen }

abbrev two_cubes : Setup
two_cubes = record {
  topology = record {
    cubes = cube_of_four ∷ cube_of_four ∷ [];
    links = link_between (ends.Host 0) (ends.Port 0 0) ∷ link_between (ends.Port 0 1) (ends.Port 1 0) ∷ [];
  };
  slots = [];
  script = record { host = 0; fenced = false; poisoned = false; request = write } ∷ [];
  schedule = [];
}

abbrev times : {X : Type 0} → ℕ → List X → List X
times zero entries = []
times (suc count) entries = entries ++ times count entries

-- the same flit is sent in each direction as this, and lands with this outcome
abbrev round : What → (flit : List ℕ) → Outcome → List Entry
round as_what flit outcome =
    map (λ d. Sent d as_what flit) (0 ∷ 1 ∷ 2 ∷ 3 ∷ []) ++ map (λ d. Landed d flit outcome) (0 ∷ 1 ∷ 2 ∷ 3 ∷ [])

abbrev start_flit : List ℕ
start_flit = 0x83 ∷ 0 ∷ 0 ∷ 0 ∷ 0 ∷ 0 ∷ 0 ∷ 0 ∷ 0 ∷ 2 ∷ 0 ∷ 0 ∷ 0x32 ∷ 0xda ∷ 0x95 ∷ 0xa5 ∷ []

abbrev clear_flit : List ℕ
clear_flit = 0x83 ∷ 0 ∷ 0 ∷ 0 ∷ 0 ∷ 0 ∷ 0 ∷ 0 ∷ 0 ∷ 4 ∷ 0 ∷ 0 ∷ 0xfb ∷ 0x22 ∷ 0x99 ∷ 0xc1 ∷ []

abbrev returned_flit : List ℕ
returned_flit = 0x82 ∷ 0 ∷ 0 ∷ 0 ∷ 0 ∷ 0 ∷ 0 ∷ 0 ∷ 0 ∷ 2 ∷ 4 ∷ 0xc0 ∷ 0xc3 ∷ 7 ∷ 0xf5 ∷ 7 ∷ []

abbrev first_flit : List ℕ
first_flit = 8 ∷ 1 ∷ 0 ∷ 0x40 ∷ 0 ∷ 0 ∷ 0 ∷ 0x20 ∷ 0 ∷ 1 ∷ 2 ∷ 3 ∷ 4 ∷ 5 ∷ 6 ∷ 7 ∷ []

abbrev last_flit : List ℕ
last_flit = 8 ∷ 9 ∷ 0xa ∷ 0xb ∷ 0xc ∷ 0xd ∷ 0xe ∷ 0xf ∷ 1 ∷ 6 ∷ 8 ∷ 0x40 ∷ 0xcd ∷ 0xc ∷ 0x13 ∷ 0x3b ∷ []

-- until both links are trained and have their tokens
abbrev opened : List Entry
opened =
    times 7 (round what.Train training_flit Quiet) ++ round what.Train training_flit Trained ++
    times 23 (round what.Start start_flit Quiet) ++ round what.Start start_flit (Ran kinds.Start) ++ times 8 (round what.Start start_flit Quiet) ++
    times 23 (round what.Clear clear_flit Quiet) ++ round what.Clear clear_flit (Ran kinds.Clear) ++ times 8 (round what.Clear clear_flit Quiet) ++
    round what.Tret returned_flit Accepted

-- all four directions send, and then land
abbrev link_steps : List Step
link_steps = map steps.Send (0 ∷ 1 ∷ 2 ∷ 3 ∷ []) ++ map (λ d. steps.Land d zero_flit) (0 ∷ 1 ∷ 2 ∷ 3 ∷ [])

journal_behind-opened : journal_behind two_cubes [] (times 73 link_steps) ≡ reverse opened
unfolding journal_of journal_behind next choice view_of host_of given_count tags_out none_out give_says direction_among joined_to within distance port_to_cube port_to_host contents entered left leaves enters unsent landed_packets receiver_of accepted unit_of link_entries state_of state_after opening_state opening opening_registers apply answer_to perform_on action_of atomic_of acted_of memory_error request_packet reply_packet answer_in answer_by request_in payload_of forwarded_onto pipe_onto awaits_first
    landings.accepted tokens sender_entries given_after passes is_pending_changed line lines.landings lines.sent_flits takes handed_packets receiver_entries reception_of reception_by landing_view is_training training run pending mode view_after cases.choice shown_pointer last_begun others is_open go_back starts clears acked taken_fronts places unfinished copy_of copied_packet last_feed flit_of code_for irtry_in irtry_flit
    read_of bytes_read judgement_of seen_in poison_in is_clean has_length is_null_alone is_null packet_from command_in fitting spelling flits_with bytes_of covered cut check_of half_bytes word_bytes header_word header_of header_is_clean tail_word tail_of tail_is_clean head_in head_with named_by command_of all_commands table_line lng_of word_of half_of training_flit zero_flit crc_of remainder divide plus zeros divisor coefficients number_of bits_of bits_below xor
journal_behind-opened = refl

-- the first flit comes to cube 0, and goes on
abbrev begun : List Entry
begun = Gave 0 (Some 0) false write ∷ Sent 0 what.New first_flit ∷ Landed 0 first_flit Gathered ∷ Through 0 0 2 ∷ Sent 2 what.New first_flit ∷ []

abbrev begun_steps : List Step
begun_steps = steps.Give 0 ∷ steps.Send 0 ∷ steps.Land 0 zero_flit ∷ steps.Through 0 0 ∷ steps.Send 2 ∷ []

-- none goes on where none is gathered, where it is forwarded already, or where its cube is this one;
-- none is fed before it has come
journal_behind-begun : journal_behind two_cubes (reverse opened) (steps.Through 0 0 ∷ begun_steps ++ steps.Through 0 0 ∷ steps.Land 2 zero_flit ∷ steps.Through 1 0 ∷ steps.Send 2 ∷ [])
    ≡ reverse (opened ++ Idle (steps.Through 0 0) NoPacket ∷ begun ++ Idle (steps.Through 0 0) Busy ∷ Landed 2 first_flit Gathered ∷ Idle (steps.Through 1 0) NoPacket ∷ Idle (steps.Send 2) Starved ∷ [])
unfolding journal_of journal_behind next choice view_of host_of given_count tags_out none_out give_says direction_among joined_to within distance port_to_cube port_to_host contents entered left leaves enters unsent landed_packets receiver_of accepted unit_of link_entries state_of state_after opening_state opening opening_registers apply answer_to perform_on action_of atomic_of acted_of memory_error request_packet reply_packet answer_in answer_by request_in payload_of forwarded_onto pipe_onto awaits_first
    landings.accepted tokens sender_entries given_after passes is_pending_changed line lines.landings lines.sent_flits takes handed_packets receiver_entries reception_of reception_by landing_view is_training training run pending mode view_after cases.choice shown_pointer last_begun others is_open go_back starts clears acked taken_fronts places unfinished copy_of copied_packet last_feed flit_of code_for irtry_in irtry_flit
    read_of bytes_read judgement_of seen_in poison_in is_clean has_length is_null_alone is_null packet_from command_in fitting spelling flits_with bytes_of covered cut check_of half_bytes word_bytes header_word header_of header_is_clean tail_word tail_of tail_is_clean head_in head_with named_by command_of all_commands table_line lng_of word_of half_of training_flit zero_flit crc_of remainder divide plus zeros divisor coefficients number_of bits_of bits_below xor
journal_behind-begun = refl

-- Its last flit is accepted and goes on, in no buffer. That no packet is gathered comes before that the
-- direction onward isn't free.
journal_behind-accepted : journal_behind two_cubes (reverse (opened ++ begun)) (steps.Send 0 ∷ steps.Land 0 zero_flit ∷ steps.Through 0 0 ∷ steps.Shift 0 0 ∷ steps.Land 2 zero_flit ∷ steps.Send 2 ∷ steps.Land 2 zero_flit ∷ [])
    ≡ reverse (opened ++ begun ++ Sent 0 what.New last_flit ∷ Landed 0 last_flit Accepted ∷ Idle (steps.Through 0 0) NoPacket ∷ Idle (steps.Shift 0 0) Empty ∷ Landed 2 first_flit Gathered ∷ Sent 2 what.New last_flit ∷ Landed 2 last_flit Accepted ∷ [])
unfolding journal_of journal_behind next choice view_of host_of given_count tags_out none_out give_says direction_among joined_to within distance port_to_cube port_to_host contents entered left leaves enters unsent landed_packets receiver_of accepted unit_of link_entries state_of state_after opening_state opening opening_registers apply answer_to perform_on action_of atomic_of acted_of memory_error request_packet reply_packet answer_in answer_by request_in payload_of forwarded_onto pipe_onto awaits_first
    landings.accepted tokens sender_entries given_after passes is_pending_changed line lines.landings lines.sent_flits takes handed_packets receiver_entries reception_of reception_by landing_view is_training training run pending mode view_after cases.choice shown_pointer last_begun others is_open go_back starts clears acked taken_fronts places unfinished copy_of copied_packet last_feed flit_of code_for irtry_in irtry_flit
    read_of bytes_read judgement_of seen_in poison_in is_clean has_length is_null_alone is_null packet_from command_in fitting spelling flits_with bytes_of covered cut check_of half_bytes word_bytes header_word header_of header_is_clean tail_word tail_of tail_is_clean head_in head_with named_by command_of all_commands table_line lng_of word_of half_of training_flit zero_flit crc_of remainder divide plus zeros divisor coefficients number_of bits_of bits_below xor
journal_behind-accepted = refl

-- a changed last flit: the copy is poisoned
journal_behind-aborted : journal_behind two_cubes (reverse (opened ++ begun)) (steps.Send 0 ∷ steps.Land 0 (replicate 15 0 ++ 1 ∷ []) ∷ steps.Send 2 ∷ steps.Land 2 zero_flit ∷ steps.Land 2 zero_flit ∷ [])
    ≡ reverse (opened ++ begun ++ Sent 0 what.New last_flit ∷ Landed 0 (8 ∷ 9 ∷ 0xa ∷ 0xb ∷ 0xc ∷ 0xd ∷ 0xe ∷ 0xf ∷ 1 ∷ 6 ∷ 8 ∷ 0x40 ∷ 0xcd ∷ 0xc ∷ 0x13 ∷ 0x3a ∷ []) (AbortedBad bads.Crc) ∷ Sent 2 what.New (8 ∷ 9 ∷ 0xa ∷ 0xb ∷ 0xc ∷ 0xd ∷ 0xe ∷ 0xf ∷ 1 ∷ 6 ∷ 8 ∷ 0x40 ∷ 0x32 ∷ 0xf3 ∷ 0xec ∷ 0xc4 ∷ []) ∷ Landed 2 first_flit Gathered ∷ Landed 2 (8 ∷ 9 ∷ 0xa ∷ 0xb ∷ 0xc ∷ 0xd ∷ 0xe ∷ 0xf ∷ 1 ∷ 6 ∷ 8 ∷ 0x40 ∷ 0x32 ∷ 0xf3 ∷ 0xec ∷ 0xc4 ∷ []) Poisoned ∷ [])
unfolding journal_of journal_behind next choice view_of host_of given_count tags_out none_out give_says direction_among joined_to within distance port_to_cube port_to_host contents entered left leaves enters unsent landed_packets receiver_of accepted unit_of link_entries state_of state_after opening_state opening opening_registers apply answer_to perform_on action_of atomic_of acted_of memory_error request_packet reply_packet answer_in answer_by request_in payload_of forwarded_onto pipe_onto awaits_first
    landings.accepted tokens sender_entries given_after passes is_pending_changed line lines.landings lines.sent_flits takes handed_packets receiver_entries reception_of reception_by landing_view is_training training run pending mode view_after cases.choice shown_pointer last_begun others is_open go_back starts clears acked taken_fronts places unfinished copy_of copied_packet last_feed flit_of code_for irtry_in irtry_flit
    read_of bytes_read judgement_of seen_in poison_in is_clean has_length is_null_alone is_null packet_from command_in fitting spelling flits_with bytes_of covered cut check_of half_bytes word_bytes header_word header_of header_is_clean tail_word tail_of tail_is_clean head_in head_with named_by command_of all_commands table_line lng_of word_of half_of training_flit zero_flit crc_of remainder divide plus zeros divisor coefficients number_of bits_of bits_below xor
journal_behind-aborted = refl

-- an unlock: the flits that didn't come are zero, and the copy is poisoned
journal_behind-unlocked : journal_behind two_cubes (reverse (opened ++ begun)) (steps.Unlock 0 ∷ steps.Send 2 ∷ steps.Land 2 zero_flit ∷ steps.Land 2 zero_flit ∷ [])
    ≡ reverse (opened ++ begun ++ Unlocked 0 ∷ Sent 2 what.New (0 ∷ 0 ∷ 0 ∷ 0 ∷ 0 ∷ 0 ∷ 0 ∷ 0 ∷ 1 ∷ 6 ∷ 8 ∷ 0x40 ∷ 0xf1 ∷ 0x65 ∷ 0x9e ∷ 0xcb ∷ []) ∷ Landed 2 first_flit Gathered ∷ Landed 2 (0 ∷ 0 ∷ 0 ∷ 0 ∷ 0 ∷ 0 ∷ 0 ∷ 0 ∷ 1 ∷ 6 ∷ 8 ∷ 0x40 ∷ 0xf1 ∷ 0x65 ∷ 0x9e ∷ 0xcb ∷ []) Poisoned ∷ [])
unfolding journal_of journal_behind next choice view_of host_of given_count tags_out none_out give_says direction_among joined_to within distance port_to_cube port_to_host contents entered left leaves enters unsent landed_packets receiver_of accepted unit_of link_entries state_of state_after opening_state opening opening_registers apply answer_to perform_on action_of atomic_of acted_of memory_error request_packet reply_packet answer_in answer_by request_in payload_of forwarded_onto pipe_onto awaits_first
    landings.accepted tokens sender_entries given_after passes is_pending_changed line lines.landings lines.sent_flits takes handed_packets receiver_entries reception_of reception_by landing_view is_training training run pending mode view_after cases.choice shown_pointer last_begun others is_open go_back starts clears acked taken_fronts places unfinished copy_of copied_packet last_feed flit_of code_for irtry_in irtry_flit
    read_of bytes_read judgement_of seen_in poison_in is_clean has_length is_null_alone is_null packet_from command_in fitting spelling flits_with bytes_of covered cut check_of half_bytes word_bytes header_word header_of header_is_clean tail_word tail_of tail_is_clean head_in head_with named_by command_of all_commands table_line lng_of word_of half_of training_flit zero_flit crc_of remainder divide plus zeros divisor coefficients number_of bits_of bits_below xor
journal_behind-unlocked = refl

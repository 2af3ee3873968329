-- A case worked whole: a write and a read of the same 16 bytes over a link that trains. The entries
-- are those of a model outside this repository; where nothing but the link moves, only its steps are
-- made. Then what the definitions say no to.
use Rattle.std.proofs.Common.{◌≡◌, ℕ, zero, suc, true, false, List, [], ◌∷◌, ◌++◌, Some, reverse, refl}
use Rattle.std.specs.Prelude.{map, replicate}
use mathlib.Core.Bool.{xor}
use Rattle.hmc_codes.specs.Codes.{all_commands, command_of}
use Rattle.hmc_codes.specs.Flit.{zero_flit}
use Rattle.hmc_codes.specs.Request.{RequestFields}
use Rattle.hmc_codes.specs.Table.{table_line}
use Rattle.hmc_codes.specs.declared.answer.Answer.TheVariants.{Done, Read}
use Rattle.hmc_codes.specs.declared.command.Command.TheVariants.{Wr16, Rd16}
use Rattle.hmc_codes.specs.declared.lift.Lift.TheVariants as lifts
use Rattle.hmc_codes.specs.declared.place.Place.TheVariants as ends
use Rattle.hmc_codes.specs.declared.profile.Profile.TheVariants.{One}
use Rattle.hmc_codes.specs.declared.unit.Unit.TheVariants as units
use Rattle.hmc_crc.specs.Bits.{bits_below, bits_of, number_of}
use Rattle.hmc_crc.specs.Remainder.{coefficients, divisor, zeros, plus, divide, remainder, crc_of}
use Rattle.hmc_script.specs.Items.{ItemFields}
use Rattle.hmc_schedule.specs.declared.step.Step.{Step}
use Rattle.hmc_schedule.specs.declared.step.Step.TheVariants as steps
use Rattle.hmc_packet.specs.declared.bad.Bad.TheVariants as bads
use Rattle.hmc_packet.specs.declared.kind.Kind.TheVariants as kinds
use Rattle.hmc_packet.specs.declared.outcome.Outcome.{Outcome}
use Rattle.hmc_packet.specs.declared.outcome.Outcome.TheVariants.{Quiet, Trained, Gathered, Accepted, AbortedBad, Ran}
use Rattle.hmc_packet.specs.declared.what.What.{What}
use Rattle.hmc_packet.specs.declared.what.What.TheVariants as what
use Rattle.hmc_packet.specs.Copy.{copied_packet}
use Rattle.hmc_packet.specs.Head.{named_by, head_with, head_in}
use Rattle.hmc_packet.specs.Header.{header_word, header_of, header_is_clean}
use Rattle.hmc_packet.specs.Irtry.{irtry_in, irtry_flit}
use Rattle.hmc_packet.specs.Landings.{mode, pending, run, is_training, training}
use Rattle.hmc_packet.specs.Landings as landings
use Rattle.hmc_packet.specs.Parts.{word_of, half_of, lng_of}
use Rattle.hmc_packet.specs.Reading.{is_null, is_null_alone, has_length, fitting, command_in, is_clean, poison_in, packet_from, seen_in, judgement_of, bytes_read, read_of}
use Rattle.hmc_packet.specs.Receptions.{landing_view, reception_by, reception_of}
use Rattle.hmc_packet.specs.Spelling.{word_bytes, half_bytes, covered, check_of, bytes_of, cut, flits_with, spelling, training_flit}
use Rattle.hmc_packet.specs.Tail.{tail_word, tail_of, tail_is_clean}
use Rattle.hmc_packet.specs.Transactions.{request_packet, reply_packet, payload_of, request_in, answer_by, answer_in}
use Rattle.hmc_registers.specs.Registers.{opening_registers}
use Rattle.hmc_atomics.specs.Operations.{atomic_of}
use Rattle.hmc_atomics.specs.Act.{acted_of}
use Rattle.hmc_serial.specs.Actions.{action_of}
use Rattle.hmc_serial.specs.Cube.{opening}
use Rattle.hmc_serial.specs.Errors.{memory_error}
use Rattle.hmc_serial.specs.Machine.{opening_state, apply, answer_to}
use Rattle.hmc_serial.specs.Perform.{perform_on}
use Rattle.hmc_serial.specs.Unit.{unit_of}
use Rattle.hmc_host.specs.Give.{give_says}
use Rattle.hmc_host.specs.Tags.{none_out}
use Rattle.hmc_tokens.specs.Account.{code_for}
use Rattle.hmc_send.specs.Choice as cases
use Rattle.hmc_send.specs.Choice.{view_after}
use Rattle.hmc_send.specs.Copies.{copy_of}
use Rattle.hmc_send.specs.Entries.{unfinished, places, taken_fronts, acked, clears, starts, go_back, is_open, others, last_begun, shown_pointer}
use Rattle.hmc_send.specs.LinkEntries.{receiver_entries, handed_packets, takes}
use Rattle.hmc_send.specs.LinkLines.{line, is_pending_changed, passes}
use Rattle.hmc_send.specs.LinkLines as lines
use Rattle.hmc_send.specs.LinkSenders.{given_after, sender_entries, tokens}
use Rattle.hmc_send.specs.Places.{flit_of}
use Rattle.hmc_entries.specs.declared.outcome.Cause.TheVariants.{Ended, Empty, Full}
use Rattle.hmc_entries.specs.declared.outcome.Goal.TheVariants as goals
use Rattle.hmc_entries.specs.declared.entry.Entry.{Entry}
use Rattle.hmc_entries.specs.declared.entry.Entry.TheVariants.{Gave, Sent, Landed, Shifted, Spread, Executed, Lifted, Took, Unlocked, Passed, Idle}
use Rattle.hmc_journal.specs.Setup.{Topology, Setup}
use Rattle.hmc_routes.specs.Directions.{direction_among}
use Rattle.hmc_routes.specs.Distance.{within, distance}
use Rattle.hmc_routes.specs.Neighbours.{joined_to}
use Rattle.hmc_routes.specs.Ports.{port_to_cube, port_to_host}
use Rattle.hmc_journal.specs.Directions.{sent_flits, landed_flits, unsent, receiver_of, landed_packets, accepted, awaits_first}
use Rattle.hmc_journal.specs.Queues.{contents, entered, left, leaves, enters}
use Rattle.hmc_journal.specs.Links.{link_entries}
use Rattle.hmc_journal.specs.Hosts.{given_count, tags_out, host_of}
use Rattle.hmc_journal.specs.StepView.{view_of, state_of}
use Rattle.hmc_journal.specs.Serial.{state_after}
use Rattle.hmc_journal.specs.Next.{next, choice}
use Rattle.hmc_journal.specs.Lawful.{Lawful, journal_of, journal_behind}
use Rattle.hmc_journal.specs.Counts.{changed_landings, repeats, aborts, direction_counts, token_counts}
use Rattle.hmc_journal.specs.Drained.{is_drained}
use Rattle.hmc_journal.specs.Piped.{forwarded_onto, pipe_onto}

abbrev topology : Topology
topology = record {
  cubes = record { shape = record { vault_bits = 0; bank_bits = 0; rows = 4; block = 256 }; queue = 4 } ∷ [];
  links = record {
    join = record { a = ends.Host 0; b = ends.Port 0 0 };
    setup = record { line = 8; tokens = 34; retry = 64; output = 4; profile = One };
  } ∷ [];
}

abbrev sixteen : List ℕ
sixteen = 0 ∷ 1 ∷ 2 ∷ 3 ∷ 4 ∷ 5 ∷ 6 ∷ 7 ∷ 8 ∷ 9 ∷ 10 ∷ 11 ∷ 12 ∷ 13 ∷ 14 ∷ 15 ∷ []

abbrev write : RequestFields
write = record { command = Wr16; cube = 0; address = 0x40; payload = sixteen }

abbrev read : RequestFields
read = record { command = Rd16; cube = 0; address = 0x40; payload = [] }

abbrev item_of : RequestFields → ItemFields
item_of request = record { host = 0; fenced = false; poisoned = false; request = request }

-- the steps of the link
abbrev link_steps : List Step
link_steps = steps.Send 0 ∷ steps.Send 1 ∷ steps.Land 0 zero_flit ∷ steps.Land 1 zero_flit ∷ []

-- and all that there are
abbrev all_steps : List Step
all_steps =
    steps.Give 0 ∷ link_steps ++ steps.Shift 0 0 ∷ steps.Spread 0 0 ∷ steps.Bank 0 0 0 ∷ steps.Registers 0 ∷ steps.Lift 0 (lifts.Vault 0) ∷
    steps.Lift 0 lifts.Registers ∷ steps.Take 0 ∷ []

abbrev times : {X : Type 0} → ℕ → List X → List X
times zero steps = []
times (suc count) steps = steps ++ times count steps

abbrev case_with : List Step → Setup
case_with schedule = record { topology = topology; slots = []; script = item_of write ∷ item_of read ∷ []; schedule = schedule }

-- 72 rounds until the link is trained and open, and ten with all steps
abbrev opening_steps : List Step
opening_steps = steps.Give 0 ∷ link_steps ++ steps.Give 0 ∷ link_steps ++ times 70 link_steps

-- a flit that is sent as this, and lands unchanged with this outcome
record Crossing : Type 0 where
  as_what : What
  flit : List ℕ
  outcome : Outcome

abbrev crossing : What → (flit : List ℕ) → Outcome → Crossing
crossing as_what flit outcome = record { as_what = as_what; flit = flit; outcome = outcome }

-- a flit is sent in each direction, and both land
abbrev round : (forth back : Crossing) → List Entry
round forth back = Sent 0 forth.as_what forth.flit ∷ Sent 1 back.as_what back.flit ∷ Landed 0 forth.flit forth.outcome ∷ Landed 1 back.flit back.outcome ∷ []

-- so many rounds that are alike
abbrev rounds : ℕ → (forth back : Crossing) → List Entry
rounds count forth back = times count (round forth back)

-- the steps after those of the link, where nothing moves
abbrev nothing : List Entry
nothing = Idle (steps.Shift 0 0) Empty ∷ Idle (steps.Spread 0 0) Empty ∷ Idle (steps.Bank 0 0 0) Empty ∷ Idle (steps.Registers 0) Empty ∷ Idle (steps.Lift 0 (lifts.Vault 0)) Empty ∷ Idle (steps.Lift 0 lifts.Registers) Empty ∷ Idle (steps.Take 0) Empty ∷ []

abbrev flit_1 : List ℕ
flit_1 = 0x83 ∷ 0 ∷ 0 ∷ 0 ∷ 0 ∷ 0 ∷ 0 ∷ 0 ∷ 0 ∷ 2 ∷ 0 ∷ 0 ∷ 0x32 ∷ 0xda ∷ 0x95 ∷ 0xa5 ∷ []

abbrev flit_2 : List ℕ
flit_2 = 0x83 ∷ 0 ∷ 0 ∷ 0 ∷ 0 ∷ 0 ∷ 0 ∷ 0 ∷ 0 ∷ 4 ∷ 0 ∷ 0 ∷ 0xfb ∷ 0x22 ∷ 0x99 ∷ 0xc1 ∷ []

abbrev flit_3 : List ℕ
flit_3 = 0x82 ∷ 0 ∷ 0 ∷ 0 ∷ 0 ∷ 0 ∷ 0 ∷ 0 ∷ 0 ∷ 2 ∷ 4 ∷ 0xc0 ∷ 0xc3 ∷ 7 ∷ 0xf5 ∷ 7 ∷ []

abbrev flit_4 : List ℕ
flit_4 = 8 ∷ 1 ∷ 0 ∷ 0x40 ∷ 0 ∷ 0 ∷ 0 ∷ 0 ∷ 0 ∷ 1 ∷ 2 ∷ 3 ∷ 4 ∷ 5 ∷ 6 ∷ 7 ∷ []

abbrev flit_5 : List ℕ
flit_5 = 0x82 ∷ 0 ∷ 0 ∷ 0 ∷ 0 ∷ 0 ∷ 0 ∷ 0 ∷ 1 ∷ 4 ∷ 8 ∷ 0x40 ∷ 0x9c ∷ 0xe9 ∷ 0x8a ∷ 0x53 ∷ []

abbrev flit_6 : List ℕ
flit_6 = 8 ∷ 9 ∷ 0xa ∷ 0xb ∷ 0xc ∷ 0xd ∷ 0xe ∷ 0xf ∷ 2 ∷ 6 ∷ 8 ∷ 0x40 ∷ 0xce ∷ 8 ∷ 0xfd ∷ 0xd5 ∷ []

abbrev flit_7 : List ℕ
flit_7 = 0xb0 ∷ 0x10 ∷ 0 ∷ 0x40 ∷ 0 ∷ 0 ∷ 0 ∷ 0 ∷ 2 ∷ 8 ∷ 0xc ∷ 0 ∷ 0x91 ∷ 0xc3 ∷ 0x16 ∷ 0xc1 ∷ []

abbrev flit_8 : List ℕ
flit_8 = 0xb9 ∷ 0 ∷ 0 ∷ 0 ∷ 0 ∷ 0 ∷ 0 ∷ 0 ∷ 3 ∷ 6 ∷ 0xc ∷ 0x40 ∷ 0xe2 ∷ 0xbd ∷ 0x73 ∷ 0xe3 ∷ []

abbrev flit_9 : List ℕ
flit_9 = 0x82 ∷ 0 ∷ 0 ∷ 0 ∷ 0 ∷ 0 ∷ 0 ∷ 0 ∷ 3 ∷ 0xa ∷ 0x10 ∷ 0x20 ∷ 0x6c ∷ 0x12 ∷ 0x96 ∷ 0x1e ∷ []

abbrev flit_10 : List ℕ
flit_10 = 0x38 ∷ 0x11 ∷ 0 ∷ 0 ∷ 0 ∷ 0 ∷ 0 ∷ 0 ∷ 0 ∷ 1 ∷ 2 ∷ 3 ∷ 4 ∷ 5 ∷ 6 ∷ 7 ∷ []

abbrev flit_11 : List ℕ
flit_11 = 8 ∷ 9 ∷ 0xa ∷ 0xb ∷ 0xc ∷ 0xd ∷ 0xe ∷ 0xf ∷ 5 ∷ 0xa ∷ 0x10 ∷ 0x20 ∷ 0x6d ∷ 0xeb ∷ 0xe8 ∷ 0xf5 ∷ []

abbrev flit_12 : List ℕ
flit_12 = 0x82 ∷ 0 ∷ 0 ∷ 0 ∷ 0 ∷ 0 ∷ 0 ∷ 0 ∷ 5 ∷ 0xc ∷ 0x14 ∷ 0x40 ∷ 0xc8 ∷ 0xce ∷ 0x3d ∷ 0xa3 ∷ []

abbrev flit_13 : List ℕ
flit_13 = 0x81 ∷ 0 ∷ 0 ∷ 0 ∷ 0 ∷ 0 ∷ 0 ∷ 0 ∷ 6 ∷ 0 ∷ 0 ∷ 0 ∷ 0x67 ∷ 0xb0 ∷ 0x56 ∷ 0x69 ∷ []

-- the oldest first
abbrev opened : List Entry
opened =
    Gave 0 (Some 0) false write ∷ round (crossing what.Train training_flit Quiet) (crossing what.Train training_flit Quiet) ++
    Gave 0 (Some 1) false read ∷ round (crossing what.Train training_flit Quiet) (crossing what.Train training_flit Quiet) ++
    rounds 5 (crossing what.Train training_flit Quiet) (crossing what.Train training_flit Quiet) ++
    round (crossing what.Train training_flit Trained) (crossing what.Train training_flit Trained) ++
    rounds 23 (crossing what.Start flit_1 Quiet) (crossing what.Start flit_1 Quiet) ++
    round (crossing what.Start flit_1 (Ran kinds.Start)) (crossing what.Start flit_1 (Ran kinds.Start)) ++
    rounds 8 (crossing what.Start flit_1 Quiet) (crossing what.Start flit_1 Quiet) ++
    rounds 23 (crossing what.Clear flit_2 Quiet) (crossing what.Clear flit_2 Quiet) ++
    round (crossing what.Clear flit_2 (Ran kinds.Clear)) (crossing what.Clear flit_2 (Ran kinds.Clear)) ++
    rounds 8 (crossing what.Clear flit_2 Quiet) (crossing what.Clear flit_2 Quiet)

abbrev busy : List Entry
busy =
    Idle (steps.Give 0) Ended ∷ round (crossing what.Tret flit_3 Accepted) (crossing what.Tret flit_3 Accepted) ++ nothing ++
    Idle (steps.Give 0) Ended ∷ round (crossing what.New flit_4 Gathered) (crossing what.Tret flit_5 Accepted) ++ nothing ++
    Idle (steps.Give 0) Ended ∷ round (crossing what.New flit_6 Accepted) (crossing what.Null zero_flit Quiet) ++ (Shifted 0 0 (goals.Vault 0) ∷ Spread 0 0 0 ∷ Executed (units.Bank 0 0 0) 0 (Some 0) write (Done false) ∷ Idle (steps.Registers 0) Empty ∷ Lifted 0 (lifts.Vault 0) 0 ∷ Idle (steps.Lift 0 lifts.Registers) Empty ∷ Idle (steps.Take 0) Empty ∷ []) ++
    Idle (steps.Give 0) Ended ∷ round (crossing what.New flit_7 Accepted) (crossing what.New flit_8 Accepted) ++ (Shifted 0 0 (goals.Vault 0) ∷ Spread 0 0 0 ∷ Executed (units.Bank 0 0 0) 0 (Some 1) read (Read false sixteen) ∷ Idle (steps.Registers 0) Empty ∷ Lifted 0 (lifts.Vault 0) 0 ∷ Idle (steps.Lift 0 lifts.Registers) Empty ∷ Took 0 0 (Done false) ∷ []) ++
    Idle (steps.Give 0) Ended ∷ round (crossing what.Tret flit_9 Accepted) (crossing what.New flit_10 Gathered) ++ nothing ++
    Idle (steps.Give 0) Ended ∷ round (crossing what.Null zero_flit Quiet) (crossing what.New flit_11 Accepted) ++ (Idle (steps.Shift 0 0) Empty ∷ Idle (steps.Spread 0 0) Empty ∷ Idle (steps.Bank 0 0 0) Empty ∷ Idle (steps.Registers 0) Empty ∷ Idle (steps.Lift 0 (lifts.Vault 0)) Empty ∷ Idle (steps.Lift 0 lifts.Registers) Empty ∷ Took 0 1 (Read false sixteen) ∷ []) ++
    Idle (steps.Give 0) Ended ∷ round (crossing what.Tret flit_12 Accepted) (crossing what.Null zero_flit Quiet) ++ nothing ++
    Idle (steps.Give 0) Ended ∷ round (crossing what.Null zero_flit Quiet) (crossing what.Pret flit_13 Quiet) ++ nothing ++
    Idle (steps.Give 0) Ended ∷ round (crossing what.Null zero_flit Quiet) (crossing what.Null zero_flit Quiet) ++ nothing ++
    Idle (steps.Give 0) Ended ∷ round (crossing what.Null zero_flit Quiet) (crossing what.Null zero_flit Quiet) ++ nothing

journal_of-opened : journal_of (case_with opening_steps) ≡ reverse opened
unfolding journal_of journal_behind next choice view_of host_of given_count tags_out none_out give_says direction_among joined_to within distance port_to_cube port_to_host contents entered left leaves enters unsent landed_packets receiver_of accepted unit_of link_entries state_of state_after opening_state opening opening_registers apply answer_to perform_on action_of atomic_of acted_of memory_error request_packet reply_packet answer_in answer_by request_in payload_of forwarded_onto pipe_onto awaits_first
    landings.accepted tokens sender_entries given_after passes is_pending_changed line lines.landings lines.sent_flits takes handed_packets receiver_entries reception_of reception_by landing_view is_training training run pending mode view_after cases.choice shown_pointer last_begun others is_open go_back starts clears acked taken_fronts places unfinished copy_of copied_packet flit_of code_for irtry_in irtry_flit
    read_of bytes_read judgement_of seen_in poison_in is_clean has_length is_null_alone is_null packet_from command_in fitting spelling flits_with bytes_of covered cut check_of half_bytes word_bytes header_word header_of header_is_clean tail_word tail_of tail_is_clean head_in head_with named_by command_of all_commands table_line lng_of word_of half_of training_flit zero_flit crc_of remainder divide plus zeros divisor coefficients number_of bits_of bits_below xor
journal_of-opened = refl

-- ten rounds more, in which both requests are executed and answered
journal_behind-busy : journal_behind (case_with []) (reverse opened) (times 10 all_steps) ≡ reverse (opened ++ busy)
unfolding journal_of journal_behind next choice view_of host_of given_count tags_out none_out give_says direction_among joined_to within distance port_to_cube port_to_host contents entered left leaves enters unsent landed_packets receiver_of accepted unit_of link_entries state_of state_after opening_state opening opening_registers apply answer_to perform_on action_of atomic_of acted_of memory_error request_packet reply_packet answer_in answer_by request_in payload_of forwarded_onto pipe_onto awaits_first
    landings.accepted tokens sender_entries given_after passes is_pending_changed line lines.landings lines.sent_flits takes handed_packets receiver_entries reception_of reception_by landing_view is_training training run pending mode view_after cases.choice shown_pointer last_begun others is_open go_back starts clears acked taken_fronts places unfinished copy_of copied_packet flit_of code_for irtry_in irtry_flit
    read_of bytes_read judgement_of seen_in poison_in is_clean has_length is_null_alone is_null packet_from command_in fitting spelling flits_with bytes_of covered cut check_of half_bytes word_bytes header_word header_of header_is_clean tail_word tail_of tail_is_clean head_in head_with named_by command_of all_commands table_line lng_of word_of half_of training_flit zero_flit crc_of remainder divide plus zeros divisor coefficients number_of bits_of bits_below xor
journal_behind-busy = refl

-- the tokens of both directions are held again, and nothing is on its way
token_counts-first : map (token_counts topology []) (0 ∷ 1 ∷ []) ≡ record { held = 0; transit = 0; used = 0; due = 34; returning = 0 } ∷ record { held = 0; transit = 0; used = 0; due = 34; returning = 0 } ∷ []
unfolding journal_of journal_behind next choice view_of host_of given_count tags_out none_out give_says direction_among joined_to within distance port_to_cube port_to_host contents entered left leaves enters unsent landed_packets receiver_of accepted unit_of link_entries state_of state_after opening_state opening opening_registers apply answer_to perform_on action_of atomic_of acted_of memory_error request_packet reply_packet answer_in answer_by request_in payload_of forwarded_onto pipe_onto awaits_first
    landings.accepted tokens sender_entries given_after passes is_pending_changed line lines.landings lines.sent_flits takes handed_packets receiver_entries reception_of reception_by landing_view is_training training run pending mode view_after cases.choice shown_pointer last_begun others is_open go_back starts clears acked taken_fronts places unfinished copy_of copied_packet flit_of code_for irtry_in irtry_flit
    read_of bytes_read judgement_of seen_in poison_in is_clean has_length is_null_alone is_null packet_from command_in fitting spelling flits_with bytes_of covered cut check_of half_bytes word_bytes header_word header_of header_is_clean tail_word tail_of tail_is_clean head_in head_with named_by command_of all_commands table_line lng_of word_of half_of training_flit zero_flit crc_of remainder divide plus zeros divisor coefficients number_of bits_of bits_below xor token_counts
token_counts-first = refl

token_counts-end : map (token_counts topology (reverse (opened ++ busy))) (0 ∷ 1 ∷ []) ≡ record { held = 34; transit = 0; used = 0; due = 0; returning = 0 } ∷ record { held = 34; transit = 0; used = 0; due = 0; returning = 0 } ∷ []
unfolding journal_of journal_behind next choice view_of host_of given_count tags_out none_out give_says direction_among joined_to within distance port_to_cube port_to_host contents entered left leaves enters unsent landed_packets receiver_of accepted unit_of link_entries state_of state_after opening_state opening opening_registers apply answer_to perform_on action_of atomic_of acted_of memory_error request_packet reply_packet answer_in answer_by request_in payload_of forwarded_onto pipe_onto awaits_first
    landings.accepted tokens sender_entries given_after passes is_pending_changed line lines.landings lines.sent_flits takes handed_packets receiver_entries reception_of reception_by landing_view is_training training run pending mode view_after cases.choice shown_pointer last_begun others is_open go_back starts clears acked taken_fronts places unfinished copy_of copied_packet flit_of code_for irtry_in irtry_flit
    read_of bytes_read judgement_of seen_in poison_in is_clean has_length is_null_alone is_null packet_from command_in fitting spelling flits_with bytes_of covered cut check_of half_bytes word_bytes header_word header_of header_is_clean tail_word tail_of tail_is_clean head_in head_with named_by command_of all_commands table_line lng_of word_of half_of training_flit zero_flit crc_of remainder divide plus zeros divisor coefficients number_of bits_of bits_below xor token_counts
token_counts-end = refl

direction_counts-end : map (direction_counts topology (reverse (opened ++ busy))) (0 ∷ 1 ∷ [])
    ≡ record { sent = 82; landed = 82; changed = 0; accepted = 5; repeats = 0; aborts = 0 } ∷ record { sent = 82; landed = 82; changed = 0; accepted = 4; repeats = 0; aborts = 0 } ∷ []
unfolding journal_of journal_behind next choice view_of host_of given_count tags_out none_out give_says direction_among joined_to within distance port_to_cube port_to_host contents entered left leaves enters unsent landed_packets receiver_of accepted unit_of link_entries state_of state_after opening_state opening opening_registers apply answer_to perform_on action_of atomic_of acted_of memory_error request_packet reply_packet answer_in answer_by request_in payload_of forwarded_onto pipe_onto awaits_first
    landings.accepted tokens sender_entries given_after passes is_pending_changed line lines.landings lines.sent_flits takes handed_packets receiver_entries reception_of reception_by landing_view is_training training run pending mode view_after cases.choice shown_pointer last_begun others is_open go_back starts clears acked taken_fronts places unfinished copy_of copied_packet flit_of code_for irtry_in irtry_flit
    read_of bytes_read judgement_of seen_in poison_in is_clean has_length is_null_alone is_null packet_from command_in fitting spelling flits_with bytes_of covered cut check_of half_bytes word_bytes header_word header_of header_is_clean tail_word tail_of tail_is_clean head_in head_with named_by command_of all_commands table_line lng_of word_of half_of training_flit zero_flit crc_of remainder divide plus zeros divisor coefficients number_of bits_of bits_below xor direction_counts sent_flits landed_flits changed_landings repeats aborts
direction_counts-end = refl

is_drained-end : is_drained topology (reverse (opened ++ busy)) ≡ true
unfolding journal_of journal_behind next choice view_of host_of given_count tags_out none_out give_says direction_among joined_to within distance port_to_cube port_to_host contents entered left leaves enters unsent landed_packets receiver_of accepted unit_of link_entries state_of state_after opening_state opening opening_registers apply answer_to perform_on action_of atomic_of acted_of memory_error request_packet reply_packet answer_in answer_by request_in payload_of forwarded_onto pipe_onto awaits_first
    landings.accepted tokens sender_entries given_after passes is_pending_changed line lines.landings lines.sent_flits takes handed_packets receiver_entries reception_of reception_by landing_view is_training training run pending mode view_after cases.choice shown_pointer last_begun others is_open go_back starts clears acked taken_fronts places unfinished copy_of copied_packet flit_of code_for irtry_in irtry_flit
    read_of bytes_read judgement_of seen_in poison_in is_clean has_length is_null_alone is_null packet_from command_in fitting spelling flits_with bytes_of covered cut check_of half_bytes word_bytes header_word header_of header_is_clean tail_word tail_of tail_is_clean head_in head_with named_by command_of all_commands table_line lng_of word_of half_of training_flit zero_flit crc_of remainder divide plus zeros divisor coefficients number_of bits_of bits_below xor is_drained token_counts
is_drained-end = refl

-- ---- no

-- the first flit
abbrev trains : List Entry
trains = Sent 0 what.Train training_flit ∷ []

-- the mask that makes a Start of a training flit
abbrev to_start : List ℕ
to_start = 0xd9 ∷ 0x5a ∷ 0x5a ∷ 0x5a ∷ 0x5a ∷ 0x5a ∷ 0x5a ∷ 0x5a ∷ 0x5a ∷ 0x58 ∷ 0x5a ∷ 0x5a ∷ 0x68 ∷ 0x80 ∷ 0xcf ∷ 0xff ∷ []

-- a changed flit that trains no more is passed over
next-caught : next (case_with []) trains (steps.Land 0 (1 ∷ replicate 15 0)) ≡ Landed 0 (0x5b ∷ replicate 15 0x5a) Quiet
unfolding journal_of journal_behind next choice view_of host_of given_count tags_out none_out give_says direction_among joined_to within distance port_to_cube port_to_host contents entered left leaves enters unsent landed_packets receiver_of accepted unit_of link_entries state_of state_after opening_state opening opening_registers apply answer_to perform_on action_of atomic_of acted_of memory_error request_packet reply_packet answer_in answer_by request_in payload_of forwarded_onto pipe_onto awaits_first
    landings.accepted tokens sender_entries given_after passes is_pending_changed line lines.landings lines.sent_flits takes handed_packets receiver_entries reception_of reception_by landing_view is_training training run pending mode view_after cases.choice shown_pointer last_begun others is_open go_back starts clears acked taken_fronts places unfinished copy_of copied_packet flit_of code_for irtry_in irtry_flit
    read_of bytes_read judgement_of seen_in poison_in is_clean has_length is_null_alone is_null packet_from command_in fitting spelling flits_with bytes_of covered cut check_of half_bytes word_bytes header_word header_of header_is_clean tail_word tail_of tail_is_clean head_in head_with named_by command_of all_commands table_line lng_of word_of half_of training_flit zero_flit crc_of remainder divide plus zeros divisor coefficients number_of bits_of bits_below xor
next-caught = refl

-- a changed flit that trains passes
next-passed : next (case_with []) trains (steps.Land 0 to_start) ≡ Passed 0 flit_1
unfolding journal_of journal_behind next choice view_of host_of given_count tags_out none_out give_says direction_among joined_to within distance port_to_cube port_to_host contents entered left leaves enters unsent landed_packets receiver_of accepted unit_of link_entries state_of state_after opening_state opening opening_registers apply answer_to perform_on action_of atomic_of acted_of memory_error request_packet reply_packet answer_in answer_by request_in payload_of forwarded_onto pipe_onto awaits_first
    landings.accepted tokens sender_entries given_after passes is_pending_changed line lines.landings lines.sent_flits takes handed_packets receiver_entries reception_of reception_by landing_view is_training training run pending mode view_after cases.choice shown_pointer last_begun others is_open go_back starts clears acked taken_fronts places unfinished copy_of copied_packet flit_of code_for irtry_in irtry_flit
    read_of bytes_read judgement_of seen_in poison_in is_clean has_length is_null_alone is_null packet_from command_in fitting spelling flits_with bytes_of covered cut check_of half_bytes word_bytes header_word header_of header_is_clean tail_word tail_of tail_is_clean head_in head_with named_by command_of all_commands table_line lng_of word_of half_of training_flit zero_flit crc_of remainder divide plus zeros divisor coefficients number_of bits_of bits_below xor
next-passed = refl

-- no step follows
journal_of-passed : journal_of (case_with (steps.Send 0 ∷ steps.Land 0 to_start ∷ steps.Send 0 ∷ [])) ≡ Passed 0 flit_1 ∷ trains
unfolding journal_of journal_behind next choice view_of host_of given_count tags_out none_out give_says direction_among joined_to within distance port_to_cube port_to_host contents entered left leaves enters unsent landed_packets receiver_of accepted unit_of link_entries state_of state_after opening_state opening opening_registers apply answer_to perform_on action_of atomic_of acted_of memory_error request_packet reply_packet answer_in answer_by request_in payload_of forwarded_onto pipe_onto awaits_first
    landings.accepted tokens sender_entries given_after passes is_pending_changed line lines.landings lines.sent_flits takes handed_packets receiver_entries reception_of reception_by landing_view is_training training run pending mode view_after cases.choice shown_pointer last_begun others is_open go_back starts clears acked taken_fronts places unfinished copy_of copied_packet flit_of code_for irtry_in irtry_flit
    read_of bytes_read judgement_of seen_in poison_in is_clean has_length is_null_alone is_null packet_from command_in fitting spelling flits_with bytes_of covered cut check_of half_bytes word_bytes header_word header_of header_is_clean tail_word tail_of tail_is_clean head_in head_with named_by command_of all_commands table_line lng_of word_of half_of training_flit zero_flit crc_of remainder divide plus zeros divisor coefficients number_of bits_of bits_below xor
journal_of-passed = refl

nothing_follows : (entry : Entry) (past : List Entry) → Lawful (case_with []) (entry ∷ Passed 0 flit_1 ∷ past) → ⊥
unfolding Lawful
nothing_follows entry past lawful = let clash = lawful.0 in cc

-- the line holds eight flits, and lands none that it doesn't hold
next-full : next (case_with []) (times 8 trains) (steps.Send 0) ≡ Idle (steps.Send 0) Full
unfolding journal_of journal_behind next choice view_of host_of given_count tags_out none_out give_says direction_among joined_to within distance port_to_cube port_to_host contents entered left leaves enters unsent landed_packets receiver_of accepted unit_of link_entries state_of state_after opening_state opening opening_registers apply answer_to perform_on action_of atomic_of acted_of memory_error request_packet reply_packet answer_in answer_by request_in payload_of forwarded_onto pipe_onto awaits_first
    landings.accepted tokens sender_entries given_after passes is_pending_changed line lines.landings lines.sent_flits takes handed_packets receiver_entries reception_of reception_by landing_view is_training training run pending mode view_after cases.choice shown_pointer last_begun others is_open go_back starts clears acked taken_fronts places unfinished copy_of copied_packet flit_of code_for irtry_in irtry_flit
    read_of bytes_read judgement_of seen_in poison_in is_clean has_length is_null_alone is_null packet_from command_in fitting spelling flits_with bytes_of covered cut check_of half_bytes word_bytes header_word header_of header_is_clean tail_word tail_of tail_is_clean head_in head_with named_by command_of all_commands table_line lng_of word_of half_of training_flit zero_flit crc_of remainder divide plus zeros divisor coefficients number_of bits_of bits_below xor
next-full = refl

next-empty : next (case_with []) trains (steps.Land 1 to_start) ≡ Idle (steps.Land 1 zero_flit) Empty
unfolding journal_of journal_behind next choice view_of host_of given_count tags_out none_out give_says direction_among joined_to within distance port_to_cube port_to_host contents entered left leaves enters unsent landed_packets receiver_of accepted unit_of link_entries state_of state_after opening_state opening opening_registers apply answer_to perform_on action_of atomic_of acted_of memory_error request_packet reply_packet answer_in answer_by request_in payload_of forwarded_onto pipe_onto awaits_first
    landings.accepted tokens sender_entries given_after passes is_pending_changed line lines.landings lines.sent_flits takes handed_packets receiver_entries reception_of reception_by landing_view is_training training run pending mode view_after cases.choice shown_pointer last_begun others is_open go_back starts clears acked taken_fronts places unfinished copy_of copied_packet flit_of code_for irtry_in irtry_flit
    read_of bytes_read judgement_of seen_in poison_in is_clean has_length is_null_alone is_null packet_from command_in fitting spelling flits_with bytes_of covered cut check_of half_bytes word_bytes header_word header_of header_is_clean tail_word tail_of tail_is_clean head_in head_with named_by command_of all_commands table_line lng_of word_of half_of training_flit zero_flit crc_of remainder divide plus zeros divisor coefficients number_of bits_of bits_below xor
next-empty = refl

-- once the link is open: a TRET with a changed bit aborts, and one that is changed to zeros passes
abbrev returns : List Entry
returns = Sent 0 what.Tret flit_3 ∷ reverse opened

next-aborted : next (case_with []) returns (steps.Land 0 (replicate 15 0 ++ 1 ∷ [])) ≡ Landed 0 (0x82 ∷ 0 ∷ 0 ∷ 0 ∷ 0 ∷ 0 ∷ 0 ∷ 0 ∷ 0 ∷ 2 ∷ 4 ∷ 0xc0 ∷ 0xc3 ∷ 7 ∷ 0xf5 ∷ 6 ∷ []) (AbortedBad bads.Crc)
unfolding journal_of journal_behind next choice view_of host_of given_count tags_out none_out give_says direction_among joined_to within distance port_to_cube port_to_host contents entered left leaves enters unsent landed_packets receiver_of accepted unit_of link_entries state_of state_after opening_state opening opening_registers apply answer_to perform_on action_of atomic_of acted_of memory_error request_packet reply_packet answer_in answer_by request_in payload_of forwarded_onto pipe_onto awaits_first
    landings.accepted tokens sender_entries given_after passes is_pending_changed line lines.landings lines.sent_flits takes handed_packets receiver_entries reception_of reception_by landing_view is_training training run pending mode view_after cases.choice shown_pointer last_begun others is_open go_back starts clears acked taken_fronts places unfinished copy_of copied_packet flit_of code_for irtry_in irtry_flit
    read_of bytes_read judgement_of seen_in poison_in is_clean has_length is_null_alone is_null packet_from command_in fitting spelling flits_with bytes_of covered cut check_of half_bytes word_bytes header_word header_of header_is_clean tail_word tail_of tail_is_clean head_in head_with named_by command_of all_commands table_line lng_of word_of half_of training_flit zero_flit crc_of remainder divide plus zeros divisor coefficients number_of bits_of bits_below xor
next-aborted = refl

next-zeros : next (case_with []) returns (steps.Land 0 flit_3) ≡ Passed 0 zero_flit
unfolding journal_of journal_behind next choice view_of host_of given_count tags_out none_out give_says direction_among joined_to within distance port_to_cube port_to_host contents entered left leaves enters unsent landed_packets receiver_of accepted unit_of link_entries state_of state_after opening_state opening opening_registers apply answer_to perform_on action_of atomic_of acted_of memory_error request_packet reply_packet answer_in answer_by request_in payload_of forwarded_onto pipe_onto awaits_first
    landings.accepted tokens sender_entries given_after passes is_pending_changed line lines.landings lines.sent_flits takes handed_packets receiver_entries reception_of reception_by landing_view is_training training run pending mode view_after cases.choice shown_pointer last_begun others is_open go_back starts clears acked taken_fronts places unfinished copy_of copied_packet flit_of code_for irtry_in irtry_flit
    read_of bytes_read judgement_of seen_in poison_in is_clean has_length is_null_alone is_null packet_from command_in fitting spelling flits_with bytes_of covered cut check_of half_bytes word_bytes header_word header_of header_is_clean tail_word tail_of tail_is_clean head_in head_with named_by command_of all_commands table_line lng_of word_of half_of training_flit zero_flit crc_of remainder divide plus zeros divisor coefficients number_of bits_of bits_below xor
next-zeros = refl

-- an unlock of a receiver that is open counts as an abort, and what lands then is passed over
next-unlocked : next (case_with []) returns (steps.Unlock 0) ≡ Unlocked 0
unfolding next choice
next-unlocked = refl

next-after_unlock : next (case_with []) (Unlocked 0 ∷ returns) (steps.Land 0 zero_flit) ≡ Landed 0 flit_3 Quiet
unfolding journal_of journal_behind next choice view_of host_of given_count tags_out none_out give_says direction_among joined_to within distance port_to_cube port_to_host contents entered left leaves enters unsent landed_packets receiver_of accepted unit_of link_entries state_of state_after opening_state opening opening_registers apply answer_to perform_on action_of atomic_of acted_of memory_error request_packet reply_packet answer_in answer_by request_in payload_of forwarded_onto pipe_onto awaits_first
    landings.accepted tokens sender_entries given_after passes is_pending_changed line lines.landings lines.sent_flits takes handed_packets receiver_entries reception_of reception_by landing_view is_training training run pending mode view_after cases.choice shown_pointer last_begun others is_open go_back starts clears acked taken_fronts places unfinished copy_of copied_packet flit_of code_for irtry_in irtry_flit
    read_of bytes_read judgement_of seen_in poison_in is_clean has_length is_null_alone is_null packet_from command_in fitting spelling flits_with bytes_of covered cut check_of half_bytes word_bytes header_word header_of header_is_clean tail_word tail_of tail_is_clean head_in head_with named_by command_of all_commands table_line lng_of word_of half_of training_flit zero_flit crc_of remainder divide plus zeros divisor coefficients number_of bits_of bits_below xor
next-after_unlock = refl

direction_counts-unlocked : map (direction_counts topology (Unlocked 0 ∷ Unlocked 0 ∷ returns)) (0 ∷ 1 ∷ [])
    ≡ record { sent = 73; landed = 72; changed = 0; accepted = 0; repeats = 0; aborts = 1 } ∷ record { sent = 72; landed = 72; changed = 0; accepted = 0; repeats = 0; aborts = 0 } ∷ []
unfolding journal_of journal_behind next choice view_of host_of given_count tags_out none_out give_says direction_among joined_to within distance port_to_cube port_to_host contents entered left leaves enters unsent landed_packets receiver_of accepted unit_of link_entries state_of state_after opening_state opening opening_registers apply answer_to perform_on action_of atomic_of acted_of memory_error request_packet reply_packet answer_in answer_by request_in payload_of forwarded_onto pipe_onto awaits_first
    landings.accepted tokens sender_entries given_after passes is_pending_changed line lines.landings lines.sent_flits takes handed_packets receiver_entries reception_of reception_by landing_view is_training training run pending mode view_after cases.choice shown_pointer last_begun others is_open go_back starts clears acked taken_fronts places unfinished copy_of copied_packet flit_of code_for irtry_in irtry_flit
    read_of bytes_read judgement_of seen_in poison_in is_clean has_length is_null_alone is_null packet_from command_in fitting spelling flits_with bytes_of covered cut check_of half_bytes word_bytes header_word header_of header_is_clean tail_word tail_of tail_is_clean head_in head_with named_by command_of all_commands table_line lng_of word_of half_of training_flit zero_flit crc_of remainder divide plus zeros divisor coefficients number_of bits_of bits_below xor direction_counts sent_flits landed_flits changed_landings repeats aborts
direction_counts-unlocked = refl

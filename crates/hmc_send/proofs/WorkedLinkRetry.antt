-- One landing of a link is changed, worked: a write's last flit, whose check fails. The receiver
-- asks for a replay by Starts, the sender goes back by Clears and sends the write and a read again.
use Rattle.std.proofs.Common.{◌≡◌, ℕ, List, [], ◌∷◌, ◌++◌, map, reverse, replicate, refl, subst}
use mathlib.Core.Bool.{xor}
use Rattle.hmc_codes.specs.Codes.{all_commands, command_of}
use Rattle.hmc_codes.specs.Flit.{zero_flit}
use Rattle.hmc_codes.specs.Table.{table_line}
use Rattle.hmc_crc.specs.Bits.{bits_below, bits_of, number_of}
use Rattle.hmc_crc.specs.Remainder.{coefficients, divisor, zeros, plus, divide, remainder, crc_of}
use Rattle.hmc_codes.specs.declared.command.Command.TheVariants.{Wr16, Rd16}
use Rattle.hmc_packet.specs.declared.bad.Bad.TheVariants.{Crc}
use Rattle.hmc_packet.specs.declared.feed.Feed.TheVariants.{Waiting}
use Rattle.hmc_packet.specs.declared.kind.Kind.TheVariants as kind
use Rattle.hmc_packet.specs.declared.outcome.Outcome.TheVariants.{Quiet, Gathered, Accepted, AbortedBad, Ran}
use Rattle.hmc_packet.specs.declared.what.What.TheVariants as what
use Rattle.hmc_packet.specs.Copy.{copied_packet}
use Rattle.hmc_packet.specs.Head.{named_by, head_with, head_in}
use Rattle.hmc_packet.specs.Header.{header_word, header_of, header_is_clean}
use Rattle.hmc_packet.specs.Irtry.{irtry_in, irtry_flit}
use Rattle.hmc_packet.specs.Landings.{mode, pending, run, is_training, training, accepted}
use Rattle.hmc_packet.specs.Packet.{PacketFields, null_packet}
use Rattle.hmc_packet.specs.Parts.{word_of, half_of, lng_of}
use Rattle.hmc_packet.specs.Reading.{is_null, is_null_alone, has_length, fitting, command_in, is_clean, poison_in, packet_from, seen_in, judgement_of, bytes_read, read_of}
use Rattle.hmc_packet.specs.Receptions.{landing_view, reception_by, reception_of}
use Rattle.hmc_packet.specs.Spelling.{word_bytes, half_bytes, covered, check_of, bytes_of, cut, flits_with, spelling, training_flit}
use Rattle.hmc_packet.specs.Tail.{tail_word, tail_of, tail_is_clean}
use Rattle.hmc_tokens.specs.Account.{code_for}
use Rattle.hmc_send.specs.Choice.{view_after, choice}
use Rattle.hmc_send.specs.Copies.{copy_of}
use Rattle.hmc_send.specs.Entries.{unfinished, places, taken_fronts, acked, clears, starts, go_back, is_open, others, last_begun, shown_pointer}
use Rattle.hmc_send.specs.LinkCalls.{LinkCall, next_entry, call_of, IsLawful, entries_after_calls}
use Rattle.hmc_send.specs.LinkEntries.{LinkEntry, receiver_entries, handed_packets, takes}
use Rattle.hmc_send.specs.declared.toward.Toward.TheVariants.{Forth, Back}
use Rattle.hmc_send.specs.LinkLines.{sent_flits, landings, line, is_pending_changed, passes}
use Rattle.hmc_send.specs.LinkSenders.{given_after, sender_entries, tokens}
use Rattle.hmc_send.specs.Places.{flit_of}
use Rattle.hmc_send.proofs.LinkLists.{calls_are_lawful}
use Rattle.hmc_send.proofs.WorkedLink.{opened-lawful}
use Rattle.hmc_send.proofs.WorkedLinkWords.{crossing, rounds, both, link, opened, flit_3, flit_4, flit_6, flit_7, flit_8, flit_9, flit_10, flit_11, flit_12, flit_13}

abbrev pub packet_1 : PacketFields
packet_1 = record null_packet { command = Wr16; address = 64; payload = (0 ∷ 1 ∷ 2 ∷ 3 ∷ 4 ∷ 5 ∷ 6 ∷ 7 ∷ 8 ∷ 9 ∷ 10 ∷ 11 ∷ 12 ∷ 13 ∷ 14 ∷ 15 ∷ []) }

abbrev pub packet_2 : PacketFields
packet_2 = record null_packet { command = Rd16; tag = 1; address = 64 }

-- the last bit of a flit
abbrev mask : List ℕ
mask = replicate 15 0 ++ 1 ∷ []

-- the link is opened; from there up to the changed landing
abbrev written : List LinkEntry
written =
    LinkEntry.handed Forth packet_1 ∷ LinkEntry.handed Forth packet_2 ∷ []
    ++ both 1 (crossing what.Tret flit_3 Accepted)
    ++ rounds 1 (crossing what.New flit_6 Gathered)
    (crossing what.Tret flit_4 Accepted)
    ++ (LinkEntry.sent Forth Waiting what.New flit_7 ∷
    LinkEntry.sent Back Waiting what.Null zero_flit ∷
    LinkEntry.landed Forth mask flit_8 (AbortedBad Crc) ∷
    LinkEntry.landed Back zero_flit zero_flit Quiet ∷ [])

abbrev masked : List LinkEntry
masked = opened ++ written

-- and on, until both packets are accepted and acknowledged
abbrev served : List LinkEntry
served =
    rounds 1 (crossing what.New flit_9 Quiet)
    (crossing what.Null zero_flit Quiet)
    ++ both 28 (crossing what.Null zero_flit Quiet)
    ++ rounds 23 (crossing what.Null zero_flit Quiet)
    (crossing what.Start flit_10 Quiet)
    ++ rounds 1 (crossing what.Null zero_flit Quiet)
    (crossing what.Start flit_10 (Ran kind.Start))
    ++ rounds 8 (crossing what.Clear flit_11 Quiet)
    (crossing what.Start flit_10 Quiet)
    ++ rounds 15 (crossing what.Clear flit_11 Quiet)
    (crossing what.Null zero_flit Quiet)
    ++ rounds 1 (crossing what.Clear flit_11 (Ran kind.Clear))
    (crossing what.Null zero_flit Quiet)
    ++ rounds 8 (crossing what.Clear flit_11 Quiet)
    (crossing what.Null zero_flit Quiet)
    ++ rounds 1 (crossing what.Again flit_6 Gathered)
    (crossing what.Null zero_flit Quiet)
    ++ rounds 1 (crossing what.Again flit_7 Accepted)
    (crossing what.Null zero_flit Quiet)
    ++ rounds 1 (crossing what.Again flit_9 Accepted)
    (crossing what.Pret flit_12 Quiet)
    ++ rounds 1 (crossing what.Null zero_flit Quiet)
    (crossing what.Pret flit_13 Quiet)
    ++ both 8 (crossing what.Null zero_flit Quiet)

abbrev pub repeated : List LinkEntry
repeated = masked ++ served

repeated-row : entries_after_calls link (reverse opened) (map call_of (written ++ served)) ≡ reverse repeated
unfolding next_entry entries_after_calls tokens sender_entries given_after passes is_pending_changed line landings sent_flits takes handed_packets receiver_entries reception_of reception_by landing_view accepted is_training training run pending mode choice view_after shown_pointer last_begun others is_open go_back starts clears acked taken_fronts places unfinished copy_of copied_packet flit_of code_for irtry_in irtry_flit read_of bytes_read judgement_of seen_in poison_in is_clean has_length is_null_alone is_null packet_from command_in fitting spelling flits_with bytes_of covered cut check_of half_bytes word_bytes header_word header_of header_is_clean tail_word tail_of tail_is_clean head_in head_with named_by command_of all_commands table_line lng_of word_of half_of training_flit zero_flit crc_of remainder divide plus zeros divisor coefficients number_of bits_of bits_below xor
repeated-row = refl

pub repeated-lawful : IsLawful link (reverse repeated)
repeated-lawful = subst (IsLawful link) repeated-row (calls_are_lawful link (reverse opened) (map call_of (written ++ served)) opened-lawful)

-- the write's two flits are in transit when its last flit lands changed; it returns two tokens
tokens-masked : tokens link Forth (reverse masked) ≡ record { held = 32; transit = 2; used = 0; due = 0; returning = 0 }
unfolding next_entry entries_after_calls tokens sender_entries given_after passes is_pending_changed line landings sent_flits takes handed_packets receiver_entries reception_of reception_by landing_view accepted is_training training run pending mode choice view_after shown_pointer last_begun others is_open go_back starts clears acked taken_fronts places unfinished copy_of copied_packet flit_of code_for irtry_in irtry_flit read_of bytes_read judgement_of seen_in poison_in is_clean has_length is_null_alone is_null packet_from command_in fitting spelling flits_with bytes_of covered cut check_of half_bytes word_bytes header_word header_of header_is_clean tail_word tail_of tail_is_clean head_in head_with named_by command_of all_commands table_line lng_of word_of half_of training_flit zero_flit crc_of remainder divide plus zeros divisor coefficients number_of bits_of bits_below xor
tokens-masked = refl

tokens-back : tokens link Back (reverse masked) ≡ record { held = 32; transit = 0; used = 0; due = 0; returning = 2 }
unfolding next_entry entries_after_calls tokens sender_entries given_after passes is_pending_changed line landings sent_flits takes handed_packets receiver_entries reception_of reception_by landing_view accepted is_training training run pending mode choice view_after shown_pointer last_begun others is_open go_back starts clears acked taken_fronts places unfinished copy_of copied_packet flit_of code_for irtry_in irtry_flit read_of bytes_read judgement_of seen_in poison_in is_clean has_length is_null_alone is_null packet_from command_in fitting spelling flits_with bytes_of covered cut check_of half_bytes word_bytes header_word header_of header_is_clean tail_word tail_of tail_is_clean head_in head_with named_by command_of all_commands table_line lng_of word_of half_of training_flit zero_flit crc_of remainder divide plus zeros divisor coefficients number_of bits_of bits_below xor
tokens-back = refl

-- in the end both packets are in the buffer
tokens-used : tokens link Forth (reverse repeated) ≡ record { held = 31; transit = 0; used = 3; due = 0; returning = 0 }
unfolding next_entry entries_after_calls tokens sender_entries given_after passes is_pending_changed line landings sent_flits takes handed_packets receiver_entries reception_of reception_by landing_view accepted is_training training run pending mode choice view_after shown_pointer last_begun others is_open go_back starts clears acked taken_fronts places unfinished copy_of copied_packet flit_of code_for irtry_in irtry_flit read_of bytes_read judgement_of seen_in poison_in is_clean has_length is_null_alone is_null packet_from command_in fitting spelling flits_with bytes_of covered cut check_of half_bytes word_bytes header_word header_of header_is_clean tail_word tail_of tail_is_clean head_in head_with named_by command_of all_commands table_line lng_of word_of half_of training_flit zero_flit crc_of remainder divide plus zeros divisor coefficients number_of bits_of bits_below xor
tokens-used = refl

-- they are taken, and a third take makes no entry; then their tokens are due
both-taken : entries_after_calls link (reverse repeated) (LinkCall.take Forth ∷ LinkCall.take Forth ∷ LinkCall.take Forth ∷ []) ≡ LinkEntry.taken Forth ∷ LinkEntry.taken Forth ∷ reverse repeated
unfolding next_entry entries_after_calls tokens sender_entries given_after passes is_pending_changed line landings sent_flits takes handed_packets receiver_entries reception_of reception_by landing_view accepted is_training training run pending mode choice view_after shown_pointer last_begun others is_open go_back starts clears acked taken_fronts places unfinished copy_of copied_packet flit_of code_for irtry_in irtry_flit read_of bytes_read judgement_of seen_in poison_in is_clean has_length is_null_alone is_null packet_from command_in fitting spelling flits_with bytes_of covered cut check_of half_bytes word_bytes header_word header_of header_is_clean tail_word tail_of tail_is_clean head_in head_with named_by command_of all_commands table_line lng_of word_of half_of training_flit zero_flit crc_of remainder divide plus zeros divisor coefficients number_of bits_of bits_below xor
both-taken = refl

tokens-due : tokens link Forth (LinkEntry.taken Forth ∷ LinkEntry.taken Forth ∷ reverse repeated) ≡ record { held = 31; transit = 0; used = 0; due = 3; returning = 0 }
unfolding next_entry entries_after_calls tokens sender_entries given_after passes is_pending_changed line landings sent_flits takes handed_packets receiver_entries reception_of reception_by landing_view accepted is_training training run pending mode choice view_after shown_pointer last_begun others is_open go_back starts clears acked taken_fronts places unfinished copy_of copied_packet flit_of code_for irtry_in irtry_flit read_of bytes_read judgement_of seen_in poison_in is_clean has_length is_null_alone is_null packet_from command_in fitting spelling flits_with bytes_of covered cut check_of half_bytes word_bytes header_word header_of header_is_clean tail_word tail_of tail_is_clean head_in head_with named_by command_of all_commands table_line lng_of word_of half_of training_flit zero_flit crc_of remainder divide plus zeros divisor coefficients number_of bits_of bits_below xor
tokens-due = refl

-- a TRET, the write and the read are acknowledged
acked-three : acked (sender_entries link Forth (reverse repeated)) ≡ 3
unfolding next_entry entries_after_calls tokens sender_entries given_after passes is_pending_changed line landings sent_flits takes handed_packets receiver_entries reception_of reception_by landing_view accepted is_training training run pending mode choice view_after shown_pointer last_begun others is_open go_back starts clears acked taken_fronts places unfinished copy_of copied_packet flit_of code_for irtry_in irtry_flit read_of bytes_read judgement_of seen_in poison_in is_clean has_length is_null_alone is_null packet_from command_in fitting spelling flits_with bytes_of covered cut check_of half_bytes word_bytes header_word header_of header_is_clean tail_word tail_of tail_is_clean head_in head_with named_by command_of all_commands table_line lng_of word_of half_of training_flit zero_flit crc_of remainder divide plus zeros divisor coefficients number_of bits_of bits_below xor
acked-three = refl

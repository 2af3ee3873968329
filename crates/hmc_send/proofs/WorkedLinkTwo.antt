-- A link of profile Two, worked, up to a cut-through of five flits that is poisoned, since its packet
-- was not accepted, and taken. Then its tokens are returned.
use Rattle.std.proofs.Common.{◌≡◌, ℕ, false, List, [], ◌∷◌, ◌++◌, map, reverse, refl, subst}
use mathlib.Core.Bool.{xor}
use Rattle.hmc_codes.specs.Codes.{all_commands, command_of}
use Rattle.hmc_codes.specs.Flit.{zero_flit}
use Rattle.hmc_codes.specs.Table.{table_line}
use Rattle.hmc_crc.specs.Bits.{bits_below, bits_of, number_of}
use Rattle.hmc_crc.specs.Remainder.{coefficients, divisor, zeros, plus, divide, remainder, crc_of}
use Rattle.hmc_codes.specs.declared.profile.Profile.TheVariants.{Two}
use Rattle.hmc_codes.specs.Link.{LinkFields}
use Rattle.hmc_packet.specs.declared.feed.Feed.TheVariants.{Waiting, Whole, Last}
use Rattle.hmc_packet.specs.declared.kind.Kind.TheVariants as kind
use Rattle.hmc_packet.specs.declared.outcome.Outcome.TheVariants.{Quiet, Trained, Gathered, Accepted, Poisoned, Ran}
use Rattle.hmc_packet.specs.declared.what.What.TheVariants as what
use Rattle.hmc_packet.specs.Copy.{copied_packet}
use Rattle.hmc_packet.specs.Head.{named_by, head_with, head_in}
use Rattle.hmc_packet.specs.Header.{header_word, header_of, header_is_clean}
use Rattle.hmc_packet.specs.Irtry.{irtry_in, irtry_flit}
use Rattle.hmc_packet.specs.Landings.{mode, pending, run, is_training, training, accepted}
use Rattle.hmc_packet.specs.Parts.{word_of, half_of, lng_of}
use Rattle.hmc_packet.specs.Reading.{is_null, is_null_alone, has_length, fitting, command_in, is_clean, poison_in, packet_from, seen_in, judgement_of, bytes_read, read_of}
use Rattle.hmc_packet.specs.Receptions.{landing_view, reception_by, reception_of}
use Rattle.hmc_packet.specs.Spelling.{word_bytes, half_bytes, covered, check_of, bytes_of, cut, flits_with, spelling, training_flit}
use Rattle.hmc_packet.specs.Tail.{tail_word, tail_of, tail_is_clean}
use Rattle.hmc_tokens.specs.Account.{code_for}
use Rattle.hmc_send.specs.Choice.{view_after, choice}
use Rattle.hmc_send.specs.Copies.{copy_of}
use Rattle.hmc_send.specs.Entries.{unfinished, places, taken_fronts, acked, clears, starts, go_back, is_open, others, last_begun, shown_pointer}
use Rattle.hmc_send.specs.LinkCalls.{next_entry, call_of, IsLawful, entries_after_calls}
use Rattle.hmc_send.specs.LinkEntries.{LinkEntry, receiver_entries, handed_packets, takes}
use Rattle.hmc_send.specs.declared.toward.Toward.TheVariants.{Forth, Back}
use Rattle.hmc_send.specs.LinkLines.{sent_flits, landings, line, is_pending_changed, passes}
use Rattle.hmc_send.specs.LinkSenders.{given_after, sender_entries, tokens}
use Rattle.hmc_send.specs.Places.{flit_of}
use Rattle.hmc_send.proofs.LinkLists.{calls_are_lawful}
use Rattle.hmc_send.proofs.WorkedLinkWords.{crossing, both}

abbrev flit_1 : List ℕ
flit_1 = (0x83 ∷ 0 ∷ 0 ∷ 0 ∷ 0 ∷ 0 ∷ 0 ∷ 0 ∷ 0 ∷ 8 ∷ 0 ∷ 0 ∷ 0x69 ∷ 0xd3 ∷ 0x80 ∷ 9 ∷ [])

abbrev flit_2 : List ℕ
flit_2 = (0x83 ∷ 0 ∷ 0 ∷ 0 ∷ 0 ∷ 0 ∷ 0 ∷ 0 ∷ 0 ∷ 0x10 ∷ 0 ∷ 0 ∷ 0x9a ∷ 0xbc ∷ 0xa8 ∷ 0xed ∷ [])

abbrev flit_3 : List ℕ
flit_3 = (0x82 ∷ 0 ∷ 0 ∷ 0 ∷ 0 ∷ 0 ∷ 0 ∷ 0 ∷ 0 ∷ 8 ∷ 0x40 ∷ 0xc0 ∷ 0xec ∷ 0x58 ∷ 0x36 ∷ 0xf0 ∷ [])

abbrev flit_4 : List ℕ
flit_4 = (0x82 ∷ 0 ∷ 0 ∷ 0 ∷ 0 ∷ 0 ∷ 0 ∷ 0 ∷ 1 ∷ 0x10 ∷ 0x80 ∷ 0xa0 ∷ 0xa7 ∷ 0xaf ∷ 0x6b ∷ 0xfb ∷ [])

abbrev flit_5 : List ℕ
flit_5 = (0x82 ∷ 0 ∷ 0 ∷ 0 ∷ 0 ∷ 0 ∷ 0 ∷ 0 ∷ 2 ∷ 0x18 ∷ 0xc0 ∷ 0x80 ∷ 0x85 ∷ 0x90 ∷ 0xd3 ∷ 0xc9 ∷ [])

abbrev flit_6 : List ℕ
flit_6 = (0x82 ∷ 0 ∷ 0 ∷ 0 ∷ 0 ∷ 0 ∷ 0 ∷ 0 ∷ 3 ∷ 0x20 ∷ 0 ∷ 0x61 ∷ 0xae ∷ 0xdf ∷ 0x3b ∷ 0x32 ∷ [])

abbrev flit_7 : List ℕ
flit_7 = (0x81 ∷ 0 ∷ 0 ∷ 0 ∷ 0 ∷ 0 ∷ 0 ∷ 0 ∷ 4 ∷ 0 ∷ 0 ∷ 0 ∷ 0x1a ∷ 0xad ∷ 0x11 ∷ 0xfd ∷ [])

abbrev flit_8 : List ℕ
flit_8 = (0x8b ∷ 2 ∷ 0 ∷ 0x40 ∷ 0 ∷ 0 ∷ 0 ∷ 0x40 ∷ 0x11 ∷ 0x11 ∷ 0x11 ∷ 0x11 ∷ 0x11 ∷ 0x11 ∷ 0x11 ∷ 0x11 ∷ [])

abbrev flit_9 : List ℕ
flit_9 = (0x11 ∷ 0x11 ∷ 0x11 ∷ 0x11 ∷ 0x11 ∷ 0x11 ∷ 0x11 ∷ 0x11 ∷ 0x11 ∷ 0x11 ∷ 0x11 ∷ 0x11 ∷ 0x11 ∷ 0x11 ∷ 0x11 ∷ 0x11 ∷ [])

abbrev flit_10 : List ℕ
flit_10 = (0x11 ∷ 0x11 ∷ 0x11 ∷ 0x11 ∷ 0x11 ∷ 0x11 ∷ 0x11 ∷ 0x11 ∷ 4 ∷ 0x48 ∷ 0x40 ∷ 1 ∷ 0x47 ∷ 4 ∷ 0xc3 ∷ 0xd0 ∷ [])

abbrev flit_11 : List ℕ
flit_11 = (0x81 ∷ 0 ∷ 0 ∷ 0 ∷ 0 ∷ 0 ∷ 0 ∷ 0 ∷ 9 ∷ 0 ∷ 0 ∷ 0 ∷ 0xb8 ∷ 0x3f ∷ 0x81 ∷ 0xe8 ∷ [])

abbrev flit_12 : List ℕ
flit_12 = (0x82 ∷ 0 ∷ 0 ∷ 0 ∷ 0 ∷ 0 ∷ 0 ∷ 0 ∷ 9 ∷ 0x28 ∷ 0x40 ∷ 0x61 ∷ 7 ∷ 0xb ∷ 0x45 ∷ 0xba ∷ [])

abbrev flit_13 : List ℕ
flit_13 = (0x81 ∷ 0 ∷ 0 ∷ 0 ∷ 0 ∷ 0 ∷ 0 ∷ 0 ∷ 5 ∷ 0 ∷ 0 ∷ 0 ∷ 0xcf ∷ 0xe5 ∷ 0x3f ∷ 0xd ∷ [])

abbrev flit_14 : List ℕ
flit_14 = (0x82 ∷ 0 ∷ 0 ∷ 0 ∷ 0 ∷ 0 ∷ 0 ∷ 0 ∷ 9 ∷ 0x30 ∷ 0x80 ∷ 0x21 ∷ 0x9d ∷ 0x7b ∷ 0xf5 ∷ 0xb2 ∷ [])

abbrev flit_15 : List ℕ
flit_15 = (0x81 ∷ 0 ∷ 0 ∷ 0 ∷ 0 ∷ 0 ∷ 0 ∷ 0 ∷ 6 ∷ 0 ∷ 0 ∷ 0 ∷ 0x67 ∷ 0xb0 ∷ 0x56 ∷ 0x69 ∷ [])

abbrev pub link : LinkFields
link = record { line = 8; tokens = 60; retry = 64; output = 4; profile = Two }

abbrev pub poisoned : List LinkEntry
poisoned =
    both 7 (crossing what.Train training_flit Quiet)
    ++ both 1 (crossing what.Train training_flit Trained)
    ++ both 23 (crossing what.Start flit_1 Quiet)
    ++ both 1 (crossing what.Start flit_1 (Ran kind.Start))
    ++ both 8 (crossing what.Start flit_1 Quiet)
    ++ both 23 (crossing what.Clear flit_2 Quiet)
    ++ both 1 (crossing what.Clear flit_2 (Ran kind.Clear))
    ++ both 8 (crossing what.Clear flit_2 Quiet)
    ++ both 1 (crossing what.Tret flit_3 Accepted)
    ++ both 1 (crossing what.Tret flit_4 Accepted)
    ++ both 1 (crossing what.Tret flit_5 Accepted)
    ++ both 1 (crossing what.Tret flit_6 Accepted)
    ++ both 1 (crossing what.Pret flit_7 Quiet)
    ++ both 73 (crossing what.Null zero_flit Quiet)
    ++ (LinkEntry.sent Forth Waiting what.Null zero_flit ∷
    LinkEntry.sent Back Waiting what.Null zero_flit ∷
    LinkEntry.landed Back zero_flit zero_flit Quiet ∷
    LinkEntry.through Forth flit_8 5 ∷
    LinkEntry.landed Forth zero_flit zero_flit Quiet ∷
    LinkEntry.sent Forth (Whole flit_8) what.New flit_8 ∷
    LinkEntry.sent Back Waiting what.Null zero_flit ∷
    LinkEntry.landed Back zero_flit zero_flit Quiet ∷
    LinkEntry.landed Forth zero_flit flit_8 Gathered ∷
    LinkEntry.sent Forth (Whole flit_9) what.New flit_9 ∷
    LinkEntry.sent Back Waiting what.Null zero_flit ∷
    LinkEntry.landed Back zero_flit zero_flit Quiet ∷
    LinkEntry.landed Forth zero_flit flit_9 Gathered ∷
    LinkEntry.sent Forth (Whole flit_9) what.New flit_9 ∷
    LinkEntry.sent Back Waiting what.Null zero_flit ∷
    LinkEntry.landed Back zero_flit zero_flit Quiet ∷
    LinkEntry.landed Forth zero_flit flit_9 Gathered ∷
    LinkEntry.sent Forth (Whole flit_9) what.New flit_9 ∷
    LinkEntry.sent Back Waiting what.Null zero_flit ∷
    LinkEntry.landed Back zero_flit zero_flit Quiet ∷
    LinkEntry.landed Forth zero_flit flit_9 Gathered ∷
    LinkEntry.sent Forth (Last (17 ∷ 17 ∷ 17 ∷ 17 ∷ 17 ∷ 17 ∷ 17 ∷ 17 ∷ []) 0 0 false) what.New flit_10 ∷
    LinkEntry.sent Back Waiting what.Null zero_flit ∷
    LinkEntry.landed Back zero_flit zero_flit Quiet ∷
    LinkEntry.landed Forth zero_flit flit_10 Poisoned ∷
    LinkEntry.sent Forth Waiting what.Null zero_flit ∷
    LinkEntry.sent Back Waiting what.Pret flit_11 ∷
    LinkEntry.landed Back zero_flit flit_11 Quiet ∷
    LinkEntry.taken Forth ∷
    LinkEntry.landed Forth zero_flit zero_flit Quiet ∷
    LinkEntry.sent Forth Waiting what.Null zero_flit ∷
    LinkEntry.sent Back Waiting what.Tret flit_12 ∷
    LinkEntry.landed Back zero_flit flit_12 Accepted ∷
    LinkEntry.landed Forth zero_flit zero_flit Quiet ∷
    LinkEntry.sent Forth Waiting what.Pret flit_13 ∷
    LinkEntry.sent Back Waiting what.Tret flit_14 ∷
    LinkEntry.landed Back zero_flit flit_14 Accepted ∷
    LinkEntry.landed Forth zero_flit flit_13 Quiet ∷
    LinkEntry.sent Forth Waiting what.Pret flit_15 ∷
    LinkEntry.sent Back Waiting what.Null zero_flit ∷
    LinkEntry.landed Back zero_flit zero_flit Quiet ∷
    LinkEntry.landed Forth zero_flit flit_15 Quiet ∷ [])

poisoned-row : entries_after_calls link [] (map call_of poisoned) ≡ reverse poisoned
unfolding next_entry entries_after_calls tokens sender_entries given_after passes is_pending_changed line landings sent_flits takes handed_packets receiver_entries reception_of reception_by landing_view accepted is_training training run pending mode choice view_after shown_pointer last_begun others is_open go_back starts clears acked taken_fronts places unfinished copy_of copied_packet flit_of code_for irtry_in irtry_flit read_of bytes_read judgement_of seen_in poison_in is_clean has_length is_null_alone is_null packet_from command_in fitting spelling flits_with bytes_of covered cut check_of half_bytes word_bytes header_word header_of header_is_clean tail_word tail_of tail_is_clean head_in head_with named_by command_of all_commands table_line lng_of word_of half_of training_flit zero_flit crc_of remainder divide plus zeros divisor coefficients number_of bits_of bits_below xor
poisoned-row = refl

pub poisoned-lawful : IsLawful link (reverse poisoned)
unfolding IsLawful
poisoned-lawful = subst (IsLawful link) poisoned-row (calls_are_lawful link [] (map call_of poisoned) tt)

tokens-forth : tokens link Forth (reverse poisoned) ≡ record { held = 60; transit = 0; used = 0; due = 0; returning = 0 }
unfolding next_entry entries_after_calls tokens sender_entries given_after passes is_pending_changed line landings sent_flits takes handed_packets receiver_entries reception_of reception_by landing_view accepted is_training training run pending mode choice view_after shown_pointer last_begun others is_open go_back starts clears acked taken_fronts places unfinished copy_of copied_packet flit_of code_for irtry_in irtry_flit read_of bytes_read judgement_of seen_in poison_in is_clean has_length is_null_alone is_null packet_from command_in fitting spelling flits_with bytes_of covered cut check_of half_bytes word_bytes header_word header_of header_is_clean tail_word tail_of tail_is_clean head_in head_with named_by command_of all_commands table_line lng_of word_of half_of training_flit zero_flit crc_of remainder divide plus zeros divisor coefficients number_of bits_of bits_below xor
tokens-forth = refl

tokens-back : tokens link Back (reverse poisoned) ≡ record { held = 60; transit = 0; used = 0; due = 0; returning = 0 }
unfolding next_entry entries_after_calls tokens sender_entries given_after passes is_pending_changed line landings sent_flits takes handed_packets receiver_entries reception_of reception_by landing_view accepted is_training training run pending mode choice view_after shown_pointer last_begun others is_open go_back starts clears acked taken_fronts places unfinished copy_of copied_packet flit_of code_for irtry_in irtry_flit read_of bytes_read judgement_of seen_in poison_in is_clean has_length is_null_alone is_null packet_from command_in fitting spelling flits_with bytes_of covered cut check_of half_bytes word_bytes header_word header_of header_is_clean tail_word tail_of tail_is_clean head_in head_with named_by command_of all_commands table_line lng_of word_of half_of training_flit zero_flit crc_of remainder divide plus zeros divisor coefficients number_of bits_of bits_below xor
tokens-back = refl

-- A cut-through, worked: begun on a link after its training, starved, filled and accepted.
use Rattle.std.proofs.Common.{◌≡◌, true, List, [], ◌∷◌, ◌++◌, None, map, reverse, refl, subst}
use mathlib.Core.Bool.{xor}
use Rattle.hmc_codes.specs.Codes.{all_commands, command_of}
use Rattle.hmc_codes.specs.Flit.{zero_flit}
use Rattle.hmc_codes.specs.Table.{table_line}
use Rattle.hmc_crc.specs.Bits.{bits_below, bits_of, number_of}
use Rattle.hmc_crc.specs.Remainder.{coefficients, divisor, zeros, plus, divide, remainder, crc_of}
use Rattle.hmc_packet.specs.declared.feed.Feed.TheVariants.{Waiting, Whole, Last}
use Rattle.hmc_packet.specs.declared.outcome.Outcome.TheVariants.{Quiet, Gathered, Accepted}
use Rattle.hmc_packet.specs.declared.what.What.TheVariants as what
use Rattle.hmc_packet.specs.Copy.{copied_packet}
use Rattle.hmc_packet.specs.Head.{named_by, head_with, head_in}
use Rattle.hmc_packet.specs.Header.{header_word, header_of, header_is_clean}
use Rattle.hmc_packet.specs.Irtry.{irtry_in, irtry_flit}
use Rattle.hmc_packet.specs.Landings.{mode, pending, run, is_training, training, accepted}
use Rattle.hmc_packet.specs.Parts.{word_of, half_of, lng_of}
use Rattle.hmc_packet.specs.Reading.{is_null, is_null_alone, has_length, fitting, command_in, is_clean, poison_in, packet_from, seen_in, judgement_of, bytes_read, read_of}
use Rattle.hmc_packet.specs.Receptions.{landing_view, reception_by, reception_of}
use Rattle.hmc_packet.specs.Spelling.{word_bytes, half_bytes, covered, check_of, bytes_of, cut, flits_with, spelling, training_flit}
use Rattle.hmc_packet.specs.Tail.{tail_word, tail_of, tail_is_clean}
use Rattle.hmc_tokens.specs.Account.{code_for}
use Rattle.hmc_send.specs.Choice.{view_after, choice}
use Rattle.hmc_send.specs.Copies.{copy_of}
use Rattle.hmc_send.specs.Entries.{unfinished, places, taken_fronts, acked, clears, starts, go_back, is_open, others, last_begun, shown_pointer}
use Rattle.hmc_send.specs.LinkCalls.{LinkCall, next_entry, call_of, IsLawful, entries_after_calls}
use Rattle.hmc_send.specs.LinkEntries.{LinkEntry, receiver_entries, handed_packets, takes}
use Rattle.hmc_send.specs.declared.toward.Toward.TheVariants.{Forth}
use Rattle.hmc_send.specs.LinkLines.{sent_flits, landings, line, is_pending_changed, passes}
use Rattle.hmc_send.specs.LinkSenders.{given_after, sender_entries, tokens}
use Rattle.hmc_send.specs.Places.{flit_of}
use Rattle.hmc_send.proofs.LinkLists.{calls_are_lawful}
use Rattle.hmc_send.proofs.WorkedLink.{trained-lawful}
use Rattle.hmc_send.proofs.WorkedLinkWords.{crossing, rounds, both, link, trained, flit_13, flit_14, flit_15}

-- after training the cut-through is begun, and its first flit has crossed
abbrev begun : List LinkEntry
begun =
    both 75 (crossing what.Null zero_flit Quiet)
    ++ LinkEntry.through Forth flit_14 2 ∷
    LinkEntry.sent Forth (Whole flit_14) what.New flit_14 ∷
    LinkEntry.landed Forth zero_flit flit_14 Gathered ∷ []

abbrev started : List LinkEntry
started = trained ++ begun

-- its last flit has crossed, and it is acknowledged
abbrev ended : List LinkEntry
ended =
    LinkEntry.sent Forth (Last (8 ∷ 9 ∷ 10 ∷ 11 ∷ 12 ∷ 13 ∷ 14 ∷ 15 ∷ []) 0 0 true) what.New flit_15 ∷
    LinkEntry.landed Forth zero_flit flit_15 Accepted ∷ []
    ++ rounds 1 (crossing what.Null zero_flit Quiet)
    (crossing what.Pret flit_13 Quiet)
    ++ both 11 (crossing what.Null zero_flit Quiet)

abbrev pub passed_on : List LinkEntry
passed_on = started ++ ended

passed_on-row : entries_after_calls link (reverse trained) (map call_of (begun ++ ended)) ≡ reverse passed_on
unfolding next_entry entries_after_calls tokens sender_entries given_after passes is_pending_changed line landings sent_flits takes handed_packets receiver_entries reception_of reception_by landing_view accepted is_training training run pending mode choice view_after shown_pointer last_begun others is_open go_back starts clears acked taken_fronts places unfinished copy_of copied_packet flit_of code_for irtry_in irtry_flit read_of bytes_read judgement_of seen_in poison_in is_clean has_length is_null_alone is_null packet_from command_in fitting spelling flits_with bytes_of covered cut check_of half_bytes word_bytes header_word header_of header_is_clean tail_word tail_of tail_is_clean head_in head_with named_by command_of all_commands table_line lng_of word_of half_of training_flit zero_flit crc_of remainder divide plus zeros divisor coefficients number_of bits_of bits_below xor
passed_on-row = refl

pub passed_on-lawful : IsLawful link (reverse passed_on)
passed_on-lawful = subst (IsLawful link) passed_on-row (calls_are_lawful link (reverse trained) (map call_of (begun ++ ended)) trained-lawful)

-- it is starved while its last flit isn't there, and no other one is begun meanwhile
starved : next_entry link (reverse started) (LinkCall.send Forth Waiting) ≡ None
unfolding next_entry entries_after_calls tokens sender_entries given_after passes is_pending_changed line landings sent_flits takes handed_packets receiver_entries reception_of reception_by landing_view accepted is_training training run pending mode choice view_after shown_pointer last_begun others is_open go_back starts clears acked taken_fronts places unfinished copy_of copied_packet flit_of code_for irtry_in irtry_flit read_of bytes_read judgement_of seen_in poison_in is_clean has_length is_null_alone is_null packet_from command_in fitting spelling flits_with bytes_of covered cut check_of half_bytes word_bytes header_word header_of header_is_clean tail_word tail_of tail_is_clean head_in head_with named_by command_of all_commands table_line lng_of word_of half_of training_flit zero_flit crc_of remainder divide plus zeros divisor coefficients number_of bits_of bits_below xor
starved = refl

begun-once : next_entry link (reverse started) (LinkCall.begin Forth flit_14 2) ≡ None
unfolding next_entry entries_after_calls tokens sender_entries given_after passes is_pending_changed line landings sent_flits takes handed_packets receiver_entries reception_of reception_by landing_view accepted is_training training run pending mode choice view_after shown_pointer last_begun others is_open go_back starts clears acked taken_fronts places unfinished copy_of copied_packet flit_of code_for irtry_in irtry_flit read_of bytes_read judgement_of seen_in poison_in is_clean has_length is_null_alone is_null packet_from command_in fitting spelling flits_with bytes_of covered cut check_of half_bytes word_bytes header_word header_of header_is_clean tail_word tail_of tail_is_clean head_in head_with named_by command_of all_commands table_line lng_of word_of half_of training_flit zero_flit crc_of remainder divide plus zeros divisor coefficients number_of bits_of bits_below xor
begun-once = refl

-- a head names its number of flits
begun-short : next_entry link (reverse trained) (LinkCall.begin Forth flit_14 3) ≡ None
unfolding next_entry entries_after_calls tokens sender_entries given_after passes is_pending_changed line landings sent_flits takes handed_packets receiver_entries reception_of reception_by landing_view accepted is_training training run pending mode choice view_after shown_pointer last_begun others is_open go_back starts clears acked taken_fronts places unfinished copy_of copied_packet flit_of code_for irtry_in irtry_flit read_of bytes_read judgement_of seen_in poison_in is_clean has_length is_null_alone is_null packet_from command_in fitting spelling flits_with bytes_of covered cut check_of half_bytes word_bytes header_word header_of header_is_clean tail_word tail_of tail_is_clean head_in head_with named_by command_of all_commands table_line lng_of word_of half_of training_flit zero_flit crc_of remainder divide plus zeros divisor coefficients number_of bits_of bits_below xor
begun-short = refl

-- its tokens are taken when it is begun
tokens-started : tokens link Forth (reverse started) ≡ record { held = 32; transit = 2; used = 0; due = 0; returning = 0 }
unfolding next_entry entries_after_calls tokens sender_entries given_after passes is_pending_changed line landings sent_flits takes handed_packets receiver_entries reception_of reception_by landing_view accepted is_training training run pending mode choice view_after shown_pointer last_begun others is_open go_back starts clears acked taken_fronts places unfinished copy_of copied_packet flit_of code_for irtry_in irtry_flit read_of bytes_read judgement_of seen_in poison_in is_clean has_length is_null_alone is_null packet_from command_in fitting spelling flits_with bytes_of covered cut check_of half_bytes word_bytes header_word header_of header_is_clean tail_word tail_of tail_is_clean head_in head_with named_by command_of all_commands table_line lng_of word_of half_of training_flit zero_flit crc_of remainder divide plus zeros divisor coefficients number_of bits_of bits_below xor
tokens-started = refl

tokens-passed_on : tokens link Forth (reverse passed_on) ≡ record { held = 32; transit = 0; used = 2; due = 0; returning = 0 }
unfolding next_entry entries_after_calls tokens sender_entries given_after passes is_pending_changed line landings sent_flits takes handed_packets receiver_entries reception_of reception_by landing_view accepted is_training training run pending mode choice view_after shown_pointer last_begun others is_open go_back starts clears acked taken_fronts places unfinished copy_of copied_packet flit_of code_for irtry_in irtry_flit read_of bytes_read judgement_of seen_in poison_in is_clean has_length is_null_alone is_null packet_from command_in fitting spelling flits_with bytes_of covered cut check_of half_bytes word_bytes header_word header_of header_is_clean tail_word tail_of tail_is_clean head_in head_with named_by command_of all_commands table_line lng_of word_of half_of training_flit zero_flit crc_of remainder divide plus zeros divisor coefficients number_of bits_of bits_below xor
tokens-passed_on = refl

-- A link that is trained and returns its tokens, worked: its entries are lawful, and all tokens are
-- held in the end. Calls that make no entry, and a change that passes a check.
use Rattle.std.proofs.Common.{◌≡◌, [], ◌∷◌, map, reverse, refl, subst}
use mathlib.Core.Bool.{xor}
use Rattle.hmc_codes.specs.Codes.{all_commands, command_of}
use Rattle.hmc_codes.specs.Flit.{zero_flit}
use Rattle.hmc_codes.specs.Table.{table_line}
use Rattle.hmc_crc.specs.Bits.{bits_below, bits_of, number_of}
use Rattle.hmc_crc.specs.Remainder.{coefficients, divisor, zeros, plus, divide, remainder, crc_of}
use Rattle.hmc_packet.specs.declared.feed.Feed.TheVariants.{Waiting}
use Rattle.hmc_packet.specs.declared.what.What.TheVariants as what
use Rattle.hmc_packet.specs.Copy.{copied_packet}
use Rattle.hmc_packet.specs.Head.{named_by, head_with, head_in}
use Rattle.hmc_packet.specs.Header.{header_word, header_of, header_is_clean}
use Rattle.hmc_packet.specs.Irtry.{irtry_in, irtry_flit}
use Rattle.hmc_packet.specs.Landings.{mode, pending, run, is_training, training, accepted}
use Rattle.hmc_packet.specs.Parts.{word_of, half_of, lng_of}
use Rattle.hmc_packet.specs.Reading.{is_null, is_null_alone, has_length, fitting, command_in, is_clean, poison_in, packet_from, seen_in, judgement_of, bytes_read, read_of}
use Rattle.hmc_packet.specs.Receptions.{landing_view, reception_by, reception_of}
use Rattle.hmc_packet.specs.Spelling.{word_bytes, half_bytes, covered, check_of, bytes_of, cut, flits_with, spelling, training_flit}
use Rattle.hmc_packet.specs.Tail.{tail_word, tail_of, tail_is_clean}
use Rattle.hmc_tokens.specs.Account.{code_for}
use Rattle.hmc_send.specs.Choice.{view_after, choice}
use Rattle.hmc_send.specs.Copies.{copy_of}
use Rattle.hmc_send.specs.Entries.{unfinished, places, taken_fronts, acked, clears, starts, go_back, is_open, others, last_begun, shown_pointer}
use Rattle.hmc_send.specs.LinkCalls.{next_entry, call_of, IsLawful, entries_after_calls}
use Rattle.hmc_send.specs.LinkEntries.{LinkEntry, receiver_entries, handed_packets, takes}
use Rattle.hmc_send.specs.declared.toward.Toward.TheVariants.{Forth, Back}
use Rattle.hmc_send.specs.LinkLines.{sent_flits, landings, line, is_pending_changed, passes}
use Rattle.hmc_send.specs.LinkSenders.{given_after, sender_entries, tokens}
use Rattle.hmc_send.specs.Places.{flit_of}
use Rattle.hmc_send.proofs.LinkLists.{calls_are_lawful}
use Rattle.hmc_send.proofs.WorkedLinkWords.{link, opened, returned, trained, flit_3}

-- the rows of other histories of this link go on from here
opened-row : entries_after_calls link [] (map call_of opened) ≡ reverse opened
unfolding next_entry entries_after_calls tokens sender_entries given_after passes is_pending_changed line landings sent_flits takes handed_packets receiver_entries reception_of reception_by landing_view accepted is_training training run pending mode choice view_after shown_pointer last_begun others is_open go_back starts clears acked taken_fronts places unfinished copy_of copied_packet flit_of code_for irtry_in irtry_flit read_of bytes_read judgement_of seen_in poison_in is_clean has_length is_null_alone is_null packet_from command_in fitting spelling flits_with bytes_of covered cut check_of half_bytes word_bytes header_word header_of header_is_clean tail_word tail_of tail_is_clean head_in head_with named_by command_of all_commands table_line lng_of word_of half_of training_flit zero_flit crc_of remainder divide plus zeros divisor coefficients number_of bits_of bits_below xor
opened-row = refl

pub opened-lawful : IsLawful link (reverse opened)
unfolding IsLawful
opened-lawful = subst (IsLawful link) opened-row (calls_are_lawful link [] (map call_of opened) tt)

trained-row : entries_after_calls link (reverse opened) (map call_of returned) ≡ reverse trained
unfolding next_entry entries_after_calls tokens sender_entries given_after passes is_pending_changed line landings sent_flits takes handed_packets receiver_entries reception_of reception_by landing_view accepted is_training training run pending mode choice view_after shown_pointer last_begun others is_open go_back starts clears acked taken_fronts places unfinished copy_of copied_packet flit_of code_for irtry_in irtry_flit read_of bytes_read judgement_of seen_in poison_in is_clean has_length is_null_alone is_null packet_from command_in fitting spelling flits_with bytes_of covered cut check_of half_bytes word_bytes header_word header_of header_is_clean tail_word tail_of tail_is_clean head_in head_with named_by command_of all_commands table_line lng_of word_of half_of training_flit zero_flit crc_of remainder divide plus zeros divisor coefficients number_of bits_of bits_below xor
trained-row = refl

pub trained-lawful : IsLawful link (reverse trained)
trained-lawful = subst (IsLawful link) trained-row (calls_are_lawful link (reverse opened) (map call_of returned) opened-lawful)

-- at first all tokens are due
tokens-first : tokens link Forth [] ≡ record { held = 0; transit = 0; used = 0; due = 34; returning = 0 }
unfolding next_entry entries_after_calls tokens sender_entries given_after passes is_pending_changed line landings sent_flits takes handed_packets receiver_entries reception_of reception_by landing_view accepted is_training training run pending mode choice view_after shown_pointer last_begun others is_open go_back starts clears acked taken_fronts places unfinished copy_of copied_packet flit_of code_for irtry_in irtry_flit read_of bytes_read judgement_of seen_in poison_in is_clean has_length is_null_alone is_null packet_from command_in fitting spelling flits_with bytes_of covered cut check_of half_bytes word_bytes header_word header_of header_is_clean tail_word tail_of tail_is_clean head_in head_with named_by command_of all_commands table_line lng_of word_of half_of training_flit zero_flit crc_of remainder divide plus zeros divisor coefficients number_of bits_of bits_below xor
tokens-first = refl

-- a TRET of one end returns 32 tokens of the other direction
tokens-returning : tokens link Back (LinkEntry.sent Forth Waiting what.Tret flit_3 ∷ reverse opened) ≡ record { held = 0; transit = 0; used = 0; due = 2; returning = 32 }
unfolding next_entry entries_after_calls tokens sender_entries given_after passes is_pending_changed line landings sent_flits takes handed_packets receiver_entries reception_of reception_by landing_view accepted is_training training run pending mode choice view_after shown_pointer last_begun others is_open go_back starts clears acked taken_fronts places unfinished copy_of copied_packet flit_of code_for irtry_in irtry_flit read_of bytes_read judgement_of seen_in poison_in is_clean has_length is_null_alone is_null packet_from command_in fitting spelling flits_with bytes_of covered cut check_of half_bytes word_bytes header_word header_of header_is_clean tail_word tail_of tail_is_clean head_in head_with named_by command_of all_commands table_line lng_of word_of half_of training_flit zero_flit crc_of remainder divide plus zeros divisor coefficients number_of bits_of bits_below xor
tokens-returning = refl

tokens-forth : tokens link Forth (reverse trained) ≡ record { held = 34; transit = 0; used = 0; due = 0; returning = 0 }
unfolding next_entry entries_after_calls tokens sender_entries given_after passes is_pending_changed line landings sent_flits takes handed_packets receiver_entries reception_of reception_by landing_view accepted is_training training run pending mode choice view_after shown_pointer last_begun others is_open go_back starts clears acked taken_fronts places unfinished copy_of copied_packet flit_of code_for irtry_in irtry_flit read_of bytes_read judgement_of seen_in poison_in is_clean has_length is_null_alone is_null packet_from command_in fitting spelling flits_with bytes_of covered cut check_of half_bytes word_bytes header_word header_of header_is_clean tail_word tail_of tail_is_clean head_in head_with named_by command_of all_commands table_line lng_of word_of half_of training_flit zero_flit crc_of remainder divide plus zeros divisor coefficients number_of bits_of bits_below xor
tokens-forth = refl

tokens-back : tokens link Back (reverse trained) ≡ record { held = 34; transit = 0; used = 0; due = 0; returning = 0 }
unfolding next_entry entries_after_calls tokens sender_entries given_after passes is_pending_changed line landings sent_flits takes handed_packets receiver_entries reception_of reception_by landing_view accepted is_training training run pending mode choice view_after shown_pointer last_begun others is_open go_back starts clears acked taken_fronts places unfinished copy_of copied_packet flit_of code_for irtry_in irtry_flit read_of bytes_read judgement_of seen_in poison_in is_clean has_length is_null_alone is_null packet_from command_in fitting spelling flits_with bytes_of covered cut check_of half_bytes word_bytes header_word header_of header_is_clean tail_word tail_of tail_is_clean head_in head_with named_by command_of all_commands table_line lng_of word_of half_of training_flit zero_flit crc_of remainder divide plus zeros divisor coefficients number_of bits_of bits_below xor
tokens-back = refl

-- The laws of a link need their premise that no changed flit passes a check: a list with one
-- landing for which it fails, under three masks, and a law that fails for each. The premises on
-- the retry buffer and the window are in hmc_numbers, proofs/Needed.antt. Nothing cites this file.
use Rattle.std.proofs.Common.{◌≡◌, ◌∙◌, ℕ, Bool, true, false, List, [], ◌∷◌, ◌++◌, map, take, Option, Some, None, reverse, refl, sym, ap, subst, arith, lit≤}
use Rattle.std.specs.Prelude.{◌&&◌, is_none}
use mathlib.Core.Bool.{xor}
use Rattle.hmc_codes.specs.Codes.{all_commands, command_of}
use Rattle.hmc_codes.specs.Flit.{zero_flit}
use Rattle.hmc_codes.specs.Table.{table_line}
use Rattle.hmc_codes.specs.declared.profile.Profile.{Profile}
use Rattle.hmc_codes.specs.declared.profile.Profile.TheVariants.{One}
use Rattle.hmc_crc.specs.Bits.{bits_below, bits_of, number_of}
use Rattle.hmc_crc.specs.Remainder.{coefficients, divisor, zeros, plus, divide, remainder, crc_of}
use Rattle.hmc_packet.specs.declared.feed.Feed.{Feed}
use Rattle.hmc_packet.specs.declared.feed.Feed.TheVariants.{Waiting, Whole, Last}
use Rattle.hmc_packet.specs.declared.outcome.Outcome.{Outcome}
use Rattle.hmc_packet.specs.declared.outcome.Outcome.TheVariants.{Quiet, Accepted, AbortedOrder}
use Rattle.hmc_packet.specs.declared.what.What.TheVariants as what
use Rattle.hmc_packet.specs.Copy.{copied_packet}
use Rattle.hmc_packet.specs.Head.{named_by, head_with, head_in}
use Rattle.hmc_packet.specs.Header.{header_word, header_of, header_is_clean}
use Rattle.hmc_packet.specs.Irtry.{irtry_in, irtry_flit}
use Rattle.hmc_packet.specs.Landings.{mode, pending, run, is_training, training, accepted}
use Rattle.hmc_packet.specs.Parts.{word_of, half_of, lng_of}
use Rattle.hmc_packet.specs.Reading.{is_null, is_null_alone, has_length, fitting, command_in, is_clean, poison_in, packet_from, seen_in, judgement_of, bytes_read, read_of}
use Rattle.hmc_packet.specs.Receptions.{landing_view, reception_by, reception_of}
use Rattle.hmc_packet.specs.Spelling.{word_bytes, half_bytes, covered, check_of, bytes_of, cut, flits_with, spelling, training_flit}
use Rattle.hmc_packet.specs.Tail.{tail_word, tail_of, tail_is_clean}
use Rattle.hmc_tokens.specs.Account.{code_for}
use Rattle.hmc_send.specs.Choice.{view_after, choice}
use Rattle.hmc_send.specs.Copies.{copy_of}
use Rattle.hmc_send.specs.Entries.{SenderEntry, Part, with_place, unfinished, places, taken_fronts, acked, clears, starts, go_back, is_open, others, last_begun, shown_pointer}
use Rattle.hmc_send.specs.IsSender.{IsFed}
use Rattle.hmc_send.specs.LinkCalls.{next_entry, call_of, IsLawful, entries_after_calls}
use Rattle.hmc_send.specs.LinkEntries.{LinkEntry, receiver_entries, accepted_packets, handed_packets, takes}
use Rattle.hmc_send.specs.declared.toward.Toward.TheVariants.{Forth, Back}
use Rattle.hmc_packet.specs.Masks.{under_mask}
use Rattle.hmc_send.specs.LinkLines.{sent_flits, landings, line, is_pending_changed, passes}
use Rattle.hmc_send.specs.LinkSenders.{given_after, sender_entries, places_in, tokens}
use Rattle.hmc_send.specs.Places.{Place, place_at, flit_of}
use Rattle.hmc_send.proofs.LinkLists.{calls_are_lawful}
use Rattle.hmc_send.proofs.WorkedLinkWords.{link, opened, flit_3}
use Rattle.hmc_wire.specs.Conditions.{IsFeed, AreHanded, AreFed}
use Rattle.hmc_wire.specs.LinkLaws.{IsKept, DirectionLaws, NamesOne, accepted_in, pointer_after}

-- The list: training, and then one TRET, which is on the line. The oldest entry is first.

abbrev row : List LinkEntry
row = opened ++ LinkEntry.sent Forth Waiting what.Tret flit_3 ∷ []

abbrev past : List LinkEntry
past = reverse row

past-row : entries_after_calls link [] (map call_of row) ≡ past
unfolding next_entry entries_after_calls tokens sender_entries given_after passes is_pending_changed line landings sent_flits takes handed_packets receiver_entries reception_of reception_by landing_view accepted is_training training run pending mode choice view_after shown_pointer last_begun others is_open go_back starts clears acked taken_fronts places unfinished copy_of copied_packet flit_of code_for irtry_in irtry_flit read_of bytes_read judgement_of seen_in poison_in is_clean has_length is_null_alone is_null packet_from command_in fitting spelling flits_with bytes_of covered cut check_of half_bytes word_bytes header_word header_of header_is_clean tail_word tail_of tail_is_clean head_in head_with named_by command_of all_commands table_line lng_of word_of half_of training_flit zero_flit crc_of remainder divide plus zeros divisor coefficients number_of bits_of bits_below xor
past-row = refl

past-lawful : IsLawful link past
unfolding IsLawful
past-lawful = subst (IsLawful link) past-row (calls_are_lawful link [] (map call_of row) tt)

-- nothing was fed: no packet was under way at any send
abbrev is_waiting : Feed → Bool
is_waiting Waiting = true
is_waiting _ = false

abbrev feeds_nothing : List SenderEntry → Bool
feeds_nothing [] = true
feeds_nothing (SenderEntry.sent given what flit ∷ before) = is_none (unfinished before) && (is_waiting given.feed && feeds_nothing before)
feeds_nothing (SenderEntry.through head flits due ∷ before) = false
feeds_nothing (SenderEntry.ran ∷ before) = feeds_nothing before
feeds_nothing (SenderEntry.acknowledged n ∷ before) = feeds_nothing before

fed_one : (place : Place) (part : Option Part) (feed : Feed) (b : Bool) → (is_none part && (is_waiting feed && b)) ≡ true → IsFed (with_place place part) feed × IsFeed feed × (b ≡ true)
fed_one place None Waiting b e = (tt, tt, e)
fed_one place None (Whole flit) b e = absurd cc
fed_one place None (Last half slid errstat good) b e = absurd cc
fed_one place (Some part) feed b e = absurd cc

are_fed : (profile : Profile) (before : List SenderEntry) → feeds_nothing before ≡ true → AreFed profile before
unfolding AreFed
are_fed profile [] e = tt
are_fed profile (SenderEntry.sent given what flit ∷ before) e =
    let f = fed_one (place_at (places profile before) (last_begun profile before)) (unfinished before) given.feed (feeds_nothing before) e in
    (f.0, f.1, are_fed profile before f.2)
are_fed profile (SenderEntry.through head flits due ∷ before) e = absurd cc
are_fed profile (SenderEntry.ran ∷ before) e = are_fed profile before e
are_fed profile (SenderEntry.acknowledged n ∷ before) e = are_fed profile before e

past-forth : feeds_nothing (sender_entries link Forth past) ≡ true
unfolding next_entry entries_after_calls tokens sender_entries given_after passes is_pending_changed line landings sent_flits takes handed_packets receiver_entries reception_of reception_by landing_view accepted is_training training run pending mode choice view_after shown_pointer last_begun others is_open go_back starts clears acked taken_fronts places unfinished copy_of copied_packet flit_of code_for irtry_in irtry_flit read_of bytes_read judgement_of seen_in poison_in is_clean has_length is_null_alone is_null packet_from command_in fitting spelling flits_with bytes_of covered cut check_of half_bytes word_bytes header_word header_of header_is_clean tail_word tail_of tail_is_clean head_in head_with named_by command_of all_commands table_line lng_of word_of half_of training_flit zero_flit crc_of remainder divide plus zeros divisor coefficients number_of bits_of bits_below xor
past-forth = refl

past-back : feeds_nothing (sender_entries link Back past) ≡ true
unfolding next_entry entries_after_calls tokens sender_entries given_after passes is_pending_changed line landings sent_flits takes handed_packets receiver_entries reception_of reception_by landing_view accepted is_training training run pending mode choice view_after shown_pointer last_begun others is_open go_back starts clears acked taken_fronts places unfinished copy_of copied_packet flit_of code_for irtry_in irtry_flit read_of bytes_read judgement_of seen_in poison_in is_clean has_length is_null_alone is_null packet_from command_in fitting spelling flits_with bytes_of covered cut check_of half_bytes word_bytes header_word header_of header_is_clean tail_word tail_of tail_is_clean head_in head_with named_by command_of all_commands table_line lng_of word_of half_of training_flit zero_flit crc_of remainder divide plus zeros divisor coefficients number_of bits_of bits_below xor
past-back = refl

past-handed : AreHanded One past
unfolding AreHanded
past-handed = tt

-- what the laws ask holds so far
past-kept : IsKept link past
past-kept = record {
  retry = lit≤ tt;
  lawful = past-lawful;
  met = record {
    handed = past-handed;
    forth = are_fed One (sender_entries link Forth past) past-forth;
    back = are_fed One (sender_entries link Back past) past-back;
  };
}

-- The front of the line, and masks that turn it into another flit

past-line : line One Forth past ≡ record { flit = flit_3; stamp = 0 } ∷ []
unfolding next_entry entries_after_calls tokens sender_entries given_after passes is_pending_changed line landings sent_flits takes handed_packets receiver_entries reception_of reception_by landing_view accepted is_training training run pending mode choice view_after shown_pointer last_begun others is_open go_back starts clears acked taken_fronts places unfinished copy_of copied_packet flit_of code_for irtry_in irtry_flit read_of bytes_read judgement_of seen_in poison_in is_clean has_length is_null_alone is_null packet_from command_in fitting spelling flits_with bytes_of covered cut check_of half_bytes word_bytes header_word header_of header_is_clean tail_word tail_of tail_is_clean head_in head_with named_by command_of all_commands table_line lng_of word_of half_of training_flit zero_flit crc_of remainder divide plus zeros divisor coefficients number_of bits_of bits_below xor
past-line = refl

-- this flit lands in place of the front under a mask, and passes a check
record LandsPassed (flit : List ℕ) (gives : Outcome) : Type 0 where
  pub is : under_mask (under_mask flit_3 flit) flit_3 ≡ flit
  pub passes : passes One Forth past (under_mask flit_3 flit) flit ≡ true
  pub outcome : (reception_of One (receiver_entries Forth past) flit).outcome ≡ gives

-- A read, with the pointer and the number of the TRET: it is accepted, and was never sent.

abbrev read : List ℕ
read = (0xb0 ∷ 0x10 ∷ 0 ∷ 0x40 ∷ 0 ∷ 0 ∷ 0 ∷ 0 ∷ 0 ∷ 2 ∷ 4 ∷ 0 ∷ 0x7b ∷ 0x72 ∷ 0x10 ∷ 0x1b ∷ [])

read-passed : LandsPassed read Accepted
unfolding next_entry entries_after_calls tokens sender_entries given_after passes is_pending_changed line landings sent_flits takes handed_packets receiver_entries reception_of reception_by landing_view accepted is_training training run pending mode choice view_after shown_pointer last_begun others is_open go_back starts clears acked taken_fronts places unfinished copy_of copied_packet flit_of code_for irtry_in irtry_flit read_of bytes_read judgement_of seen_in poison_in is_clean has_length is_null_alone is_null packet_from command_in fitting spelling flits_with bytes_of covered cut check_of half_bytes word_bytes header_word header_of header_is_clean tail_word tail_of tail_is_clean head_in head_with named_by command_of all_commands table_line lng_of word_of half_of training_flit zero_flit crc_of remainder divide plus zeros divisor coefficients number_of bits_of bits_below xor
read-passed = record { is = refl; passes = refl; outcome = refl }

abbrev read_landed : List LinkEntry
read_landed = LinkEntry.landed Forth (under_mask flit_3 read) read Accepted ∷ past

-- the address of the first packet
abbrev first_address : List Place → ℕ
first_address (Place.known packet ∷ _) = packet.address
first_address _ = 0

accepted-address : first_address (map Place.known (accepted_packets One Forth read_landed)) ≡ 64
unfolding next_entry entries_after_calls tokens sender_entries given_after passes is_pending_changed line landings sent_flits takes handed_packets receiver_entries reception_of reception_by landing_view accepted is_training training run pending mode choice view_after shown_pointer last_begun others is_open go_back starts clears acked taken_fronts places unfinished copy_of copied_packet flit_of code_for irtry_in irtry_flit read_of bytes_read judgement_of seen_in poison_in is_clean has_length is_null_alone is_null packet_from command_in fitting spelling flits_with bytes_of covered cut check_of half_bytes word_bytes header_word header_of header_is_clean tail_word tail_of tail_is_clean head_in head_with named_by command_of all_commands table_line lng_of word_of half_of training_flit zero_flit crc_of remainder divide plus zeros divisor coefficients number_of bits_of bits_below xor
accepted-address = refl

begun-address : first_address (take (accepted_in link Forth read_landed) (places_in link Forth read_landed)) ≡ 0
unfolding next_entry entries_after_calls tokens sender_entries given_after passes is_pending_changed line landings sent_flits takes handed_packets receiver_entries reception_of reception_by landing_view accepted is_training training run pending mode choice view_after shown_pointer last_begun others is_open go_back starts clears acked taken_fronts places unfinished copy_of copied_packet flit_of code_for irtry_in irtry_flit read_of bytes_read judgement_of seen_in poison_in is_clean has_length is_null_alone is_null packet_from command_in fitting spelling flits_with bytes_of covered cut check_of half_bytes word_bytes header_word header_of header_is_clean tail_word tail_of tail_is_clean head_in head_with named_by command_of all_commands table_line lng_of word_of half_of training_flit zero_flit crc_of remainder divide plus zeros divisor coefficients number_of bits_of bits_below xor
begun-address = refl

not_both : ◌≡◌ {A = ℕ} 64 0 → ⊥
not_both e = omega arith

-- the packets accepted are not those begun first
read-breaks : DirectionLaws link Forth read_landed → ⊥
read-breaks laws = not_both (sym accepted-address ∙ ap first_address laws.accepted ∙ begun-address)

-- A read with the pointer and the number after these: it is out of order.

abbrev later : List ℕ
later = (0xb0 ∷ 0x10 ∷ 0 ∷ 0x40 ∷ 0 ∷ 0 ∷ 0 ∷ 0 ∷ 0 ∷ 4 ∷ 8 ∷ 0 ∷ 0x98 ∷ 0x7d ∷ 0x62 ∷ 0xec ∷ [])

later-passed : LandsPassed later AbortedOrder
unfolding next_entry entries_after_calls tokens sender_entries given_after passes is_pending_changed line landings sent_flits takes handed_packets receiver_entries reception_of reception_by landing_view accepted is_training training run pending mode choice view_after shown_pointer last_begun others is_open go_back starts clears acked taken_fronts places unfinished copy_of copied_packet flit_of code_for irtry_in irtry_flit read_of bytes_read judgement_of seen_in poison_in is_clean has_length is_null_alone is_null packet_from command_in fitting spelling flits_with bytes_of covered cut check_of half_bytes word_bytes header_word header_of header_is_clean tail_word tail_of tail_is_clean head_in head_with named_by command_of all_commands table_line lng_of word_of half_of training_flit zero_flit crc_of remainder divide plus zeros divisor coefficients number_of bits_of bits_below xor
later-passed = record { is = refl; passes = refl; outcome = refl }

-- A PRET with the return pointer 7: the other direction has begun no packet, and its pointer is 0.

abbrev stray : List ℕ
stray = (0x81 ∷ 0 ∷ 0 ∷ 0 ∷ 0 ∷ 0 ∷ 0 ∷ 0 ∷ 7 ∷ 0 ∷ 0 ∷ 0 ∷ 0xb2 ∷ 0xf8 ∷ 0x78 ∷ 0x99 ∷ [])

stray-passed : LandsPassed stray Quiet
unfolding next_entry entries_after_calls tokens sender_entries given_after passes is_pending_changed line landings sent_flits takes handed_packets receiver_entries reception_of reception_by landing_view accepted is_training training run pending mode choice view_after shown_pointer last_begun others is_open go_back starts clears acked taken_fronts places unfinished copy_of copied_packet flit_of code_for irtry_in irtry_flit read_of bytes_read judgement_of seen_in poison_in is_clean has_length is_null_alone is_null packet_from command_in fitting spelling flits_with bytes_of covered cut check_of half_bytes word_bytes header_word header_of header_is_clean tail_word tail_of tail_is_clean head_in head_with named_by command_of all_commands table_line lng_of word_of half_of training_flit zero_flit crc_of remainder divide plus zeros divisor coefficients number_of bits_of bits_below xor
stray-passed = record { is = refl; passes = refl; outcome = refl }

-- it is counted
stray-counted : (reception_of One (receiver_entries Forth past) stray).rrp ≡ Some 7
unfolding next_entry entries_after_calls tokens sender_entries given_after passes is_pending_changed line landings sent_flits takes handed_packets receiver_entries reception_of reception_by landing_view accepted is_training training run pending mode choice view_after shown_pointer last_begun others is_open go_back starts clears acked taken_fronts places unfinished copy_of copied_packet flit_of code_for irtry_in irtry_flit read_of bytes_read judgement_of seen_in poison_in is_clean has_length is_null_alone is_null packet_from command_in fitting spelling flits_with bytes_of covered cut check_of half_bytes word_bytes header_word header_of header_is_clean tail_word tail_of tail_is_clean head_in head_with named_by command_of all_commands table_line lng_of word_of half_of training_flit zero_flit crc_of remainder divide plus zeros divisor coefficients number_of bits_of bits_below xor
stray-counted = refl

back-accepted : accepted_in link Back past ≡ 0
unfolding next_entry entries_after_calls tokens sender_entries given_after passes is_pending_changed line landings sent_flits takes handed_packets receiver_entries reception_of reception_by landing_view accepted is_training training run pending mode choice view_after shown_pointer last_begun others is_open go_back starts clears acked taken_fronts places unfinished copy_of copied_packet flit_of code_for irtry_in irtry_flit read_of bytes_read judgement_of seen_in poison_in is_clean has_length is_null_alone is_null packet_from command_in fitting spelling flits_with bytes_of covered cut check_of half_bytes word_bytes header_word header_of header_is_clean tail_word tail_of tail_is_clean head_in head_with named_by command_of all_commands table_line lng_of word_of half_of training_flit zero_flit crc_of remainder divide plus zeros divisor coefficients number_of bits_of bits_below xor
back-accepted = refl

back-pointer : pointer_after link Back past 0 ≡ 0
unfolding next_entry entries_after_calls tokens sender_entries given_after passes is_pending_changed line landings sent_flits takes handed_packets receiver_entries reception_of reception_by landing_view accepted is_training training run pending mode choice view_after shown_pointer last_begun others is_open go_back starts clears acked taken_fronts places unfinished copy_of copied_packet flit_of code_for irtry_in irtry_flit read_of bytes_read judgement_of seen_in poison_in is_clean has_length is_null_alone is_null packet_from command_in fitting spelling flits_with bytes_of covered cut check_of half_bytes word_bytes header_word header_of header_is_clean tail_word tail_of tail_is_clean head_in head_with named_by command_of all_commands table_line lng_of word_of half_of training_flit zero_flit crc_of remainder divide plus zeros divisor coefficients number_of bits_of bits_below xor
back-pointer = refl

not_seven : ◌≡◌ {A = ℕ} 7 0 → ⊥
not_seven e = omega arith

-- and it names no number of packets
stray-names : NamesOne link Back past 7 → ⊥
stray-names names =
    let none = back-accepted in
    let most = names.most in
    let stamp : names.front.stamp ≡ 0 = omega arith in
    not_seven (names.is ∙ ap (λ (n : ℕ). pointer_after link Back past n) stamp ∙ back-pointer)

-- Lists that are kept, so that the laws of a link say something of them: a packet sent again after a
-- landing was changed, a cut-through, and one that is poisoned in profile Two.
use Rattle.std.proofs.Common.{◌≡◌, ℕ, zero, suc, Bool, true, false, not, ◌&&◌, ◌||◌, List, [], ◌∷◌, length, reverse, Option, Some, None, refl, arith, leb-true, ltb-true}
use Rattle.std.specs.Prelude.{◌==◌, nat_lt, nat_le}
use Rattle.std.specs.Str.{bytes_eq}
use Rattle.std.proofs.lemmas.Bool.{and_parts, eqb-true, not-true}
use Rattle.std.proofs.lemmas.Slice.Eq.{bytes_eq-Decides}
use mathlib.Core.Bool.{xor}
use Rattle.hmc_codes.specs.Bytes.{IsBytes}
use Rattle.hmc_codes.specs.Codes.{all_commands, command_of}
use Rattle.hmc_codes.specs.Flit.{zero_flit, IsFlit}
use Rattle.hmc_codes.specs.Table.{table_line}
use Rattle.hmc_codes.specs.declared.profile.Profile.{Profile}
use Rattle.hmc_codes.specs.declared.profile.Profile.TheVariants.{One, Two}
use Rattle.hmc_codes.proofs.BytesLemmas.{IsBytes-[]}
use Rattle.hmc_codes.proofs.General.{is_zero}
use Rattle.hmc_crc.specs.Bits.{bits_below, bits_of, number_of}
use Rattle.hmc_crc.specs.Remainder.{coefficients, divisor, zeros, plus, divide, remainder, crc_of}
use Rattle.hmc_packet.specs.declared.feed.Feed.{Feed}
use Rattle.hmc_packet.specs.declared.feed.Feed.TheVariants.{Waiting, Whole, Last}
use Rattle.hmc_packet.specs.Copy.{copied_packet}
use Rattle.hmc_packet.specs.Head.{named_by, head_with, head_in}
use Rattle.hmc_packet.specs.Header.{header_word, header_of, header_is_clean}
use Rattle.hmc_packet.specs.Irtry.{irtry_in, irtry_flit}
use Rattle.hmc_packet.specs.Landings.{mode, pending, run, is_training, training, accepted}
use Rattle.hmc_packet.specs.Packet.{IsPacket}
use Rattle.hmc_packet.specs.Parts.{word_of, half_of, lng_of}
use Rattle.hmc_packet.specs.Reading.{is_null, is_null_alone, has_length, fitting, command_in, is_clean, poison_in, packet_from, seen_in, judgement_of, bytes_read, read_of}
use Rattle.hmc_packet.specs.Receptions.{landing_view, reception_by, reception_of}
use Rattle.hmc_packet.specs.Spelling.{word_bytes, half_bytes, covered, check_of, bytes_of, cut, flits_with, spelling, training_flit}
use Rattle.hmc_packet.specs.Tail.{tail_word, tail_of, tail_is_clean}
use Rattle.hmc_tokens.specs.Account.{code_for}
use Rattle.hmc_send.specs.declared.toward.Toward.TheVariants.{Forth, Back}
use Rattle.hmc_send.specs.Choice.{view_after, choice}
use Rattle.hmc_send.specs.Copies.{copy_of}
use Rattle.hmc_send.specs.Entries.{SenderEntry, Part, UnderWay, under_way, unfinished, places, taken_fronts, acked, clears, starts, go_back, is_open, others, last_begun, shown_pointer}
use Rattle.hmc_send.specs.IsSender.{IsFed}
use Rattle.hmc_send.specs.Kept.{IsFedNext, IsFedFor}
use Rattle.hmc_send.specs.LinkEntries.{receiver_entries, handed_packets, takes}
use Rattle.hmc_send.specs.LinkLines.{sent_flits, landings, line, is_pending_changed, passes}
use Rattle.hmc_send.specs.LinkSenders.{given_after, sender_entries, tokens}
use Rattle.hmc_send.specs.Places.{Place, flit_of}
use Rattle.hmc_send.proofs.WorkedLinkWords.{link}
use Rattle.hmc_send.proofs.WorkedLinkRetry.{packet_1, packet_2, repeated, repeated-lawful}
use Rattle.hmc_send.proofs.WorkedLinkThrough.{passed_on, passed_on-lawful}
use Rattle.hmc_send.proofs.WorkedLinkTwo as second
use Rattle.hmc_send.proofs.WorkedLinkTwo.{poisoned, poisoned-lawful}
use Rattle.hmc_wire.specs.Conditions.{AreHanded, IsHalf, IsFeed, AreFed}
use Rattle.hmc_wire.specs.LinkLaws.{IsKept}

-- ---- a test of what was fed

all_bytes : List ℕ → Bool
all_bytes [] = true
all_bytes (b ∷ bs) = nat_lt b 256 && all_bytes bs

bytes-are : (bs : List ℕ) → all_bytes bs ≡ true → IsBytes bs
unfolding all_bytes
bytes-are [] is k = IsBytes-[] k
bytes-are (b ∷ bs) is zero = ltb-true b 256 (and_parts (nat_lt b 256) (all_bytes bs) is).0
bytes-are (b ∷ bs) is (suc k) = bytes-are bs (and_parts (nat_lt b 256) (all_bytes bs) is).1 k

abbrev is_sized : (size : ℕ) → List ℕ → Bool
is_sized size bytes = all_bytes bytes && length bytes == size

flit-is : (flit : List ℕ) → is_sized 16 flit ≡ true → IsFlit flit
flit-is flit is =
    let both = and_parts (all_bytes flit) (length flit == 16) is in
    record { bytes = bytes-are flit both.0; long = eqb-true (length flit) 16 both.1 }

half-is : (half : List ℕ) → is_sized 8 half ≡ true → IsHalf half
half-is half is =
    let both = and_parts (all_bytes half) (length half == 8) is in
    record { bytes = bytes-are half both.0; long = eqb-true (length half) 8 both.1 }

abbrev is_feed : Feed → Bool
is_feed Waiting = true
is_feed (Whole flit) = is_sized 16 flit
is_feed (Last half slid errstat good) = is_sized 8 half

feed-is : (feed : Feed) → is_feed feed ≡ true → IsFeed feed
feed-is Waiting is = tt
feed-is (Whole flit) is = flit-is flit is
feed-is (Last half slid errstat good) is = half-is half is

abbrev fits_next : Part → (head : List ℕ) → Feed → Bool
fits_next part head Waiting = nat_le 1 (length part.sent)
fits_next part head (Whole flit) = not (suc (length part.sent) == part.flits) && (not (length part.sent == 0) || bytes_eq flit head)
fits_next part head (Last half slid errstat good) = (suc (length part.sent) == part.flits) && (nat_lt slid 8 && nat_lt errstat 128)

first-or : (none first : Bool) → (not none || first) ≡ true → none ≡ true → first ≡ true
first-or true first is so = is
first-or false first is so = let clash : false ≡ true = so in absurd cc

next-is : (part : Part) (head : List ℕ) (feed : Feed) → fits_next part head feed ≡ true → IsFedNext part head feed
next-is part head Waiting is = leb-true 1 (length part.sent) is
next-is part head (Whole flit) is =
    let both = and_parts (not (suc (length part.sent) == part.flits)) (not (length part.sent == 0) || bytes_eq flit head) is in (
      not-true (suc (length part.sent) == part.flits) both.0,
      λ none. (bytes_eq-Decides flit head).0 (first-or (length part.sent == 0) (bytes_eq flit head) both.1 (is_zero (length part.sent) none)),
    )
next-is part head (Last half slid errstat good) is =
    let a = and_parts (suc (length part.sent) == part.flits) (nat_lt slid 8 && nat_lt errstat 128) is in
    let b = and_parts (nat_lt slid 8) (nat_lt errstat 128) a.1 in
    (a.0, ltb-true slid 8 b.0, ltb-true errstat 128 b.1)

abbrev fits_place : Part → Place → Feed → Bool
fits_place part (Place.known packet) feed = true
fits_place part (Place.awaited head flits numbers) feed = fits_next part head feed

abbrev fits : Option UnderWay → Feed → Bool
fits None feed = true
fits (Some begun) feed = fits_place begun.part begun.place feed

place-is : (part : Part) (place : Place) (feed : Feed) → fits_place part place feed ≡ true → IsFedFor part place feed
place-is part (Place.known packet) feed is = tt
place-is part (Place.awaited head flits numbers) feed is = next-is part head feed is

fits-is : (u : Option UnderWay) (feed : Feed) → fits u feed ≡ true → IsFed u feed
fits-is None feed is = tt
fits-is (Some begun) feed is = place-is begun.part begun.place feed is

are_fed : Profile → List SenderEntry → Bool
are_fed q [] = true
are_fed q (SenderEntry.sent given what flit ∷ past) = fits (under_way q past) given.feed && (is_feed given.feed && are_fed q past)
are_fed q (SenderEntry.through head flits due ∷ past) = is_sized 16 head && are_fed q past
are_fed q (_ ∷ past) = are_fed q past

fed-is : (q : Profile) (t : List SenderEntry) → are_fed q t ≡ true → AreFed q t
unfolding AreFed are_fed
fed-is q [] is = tt
fed-is q (SenderEntry.sent given what flit ∷ past) is =
    let a = and_parts (fits (under_way q past) given.feed) (is_feed given.feed && are_fed q past) is in
    let b = and_parts (is_feed given.feed) (are_fed q past) a.1 in
    (fits-is (under_way q past) given.feed a.0, feed-is given.feed b.0, fed-is q past b.1)
fed-is q (SenderEntry.through head flits due ∷ past) is =
    let both = and_parts (is_sized 16 head) (are_fed q past) is in
    (flit-is head both.0, fed-is q past both.1)
fed-is q (SenderEntry.ran ∷ past) is = fed-is q past is
fed-is q (SenderEntry.acknowledged packets ∷ past) is = fed-is q past is

-- ---- the packets that are handed

write-packet : IsPacket packet_1
unfolding table_line all_bytes
write-packet = record {
  ranges = record { tag = omega arith; address = omega arith; cube = omega arith; slid = omega arith; errstat = omega arith; rtc = omega arith; seq = omega arith; frp = omega arith };
  layout = (refl, refl);
  payload = record { bytes = bytes-are packet_1.payload refl; whole = refl; allowed = refl };
}

read-packet : IsPacket packet_2
unfolding table_line all_bytes
read-packet = record {
  ranges = record { tag = omega arith; address = omega arith; cube = omega arith; slid = omega arith; errstat = omega arith; rtc = omega arith; seq = omega arith; frp = omega arith };
  layout = (refl, refl);
  payload = record { bytes = IsBytes-[]; whole = refl; allowed = refl };
}

repeated-fed_forth : are_fed One (sender_entries link Forth (reverse repeated)) ≡ true
unfolding are_fed all_bytes tokens sender_entries given_after passes is_pending_changed line landings sent_flits takes handed_packets receiver_entries reception_of reception_by landing_view accepted is_training training run pending mode choice view_after shown_pointer last_begun others is_open go_back starts clears acked taken_fronts places unfinished copy_of copied_packet flit_of code_for irtry_in irtry_flit read_of bytes_read judgement_of seen_in poison_in is_clean has_length is_null_alone is_null packet_from command_in fitting spelling flits_with bytes_of covered cut check_of half_bytes word_bytes header_word header_of header_is_clean tail_word tail_of tail_is_clean head_in head_with named_by command_of all_commands table_line lng_of word_of half_of training_flit zero_flit crc_of remainder divide plus zeros divisor coefficients number_of bits_of bits_below xor
repeated-fed_forth = refl

repeated-fed_back : are_fed One (sender_entries link Back (reverse repeated)) ≡ true
unfolding are_fed all_bytes tokens sender_entries given_after passes is_pending_changed line landings sent_flits takes handed_packets receiver_entries reception_of reception_by landing_view accepted is_training training run pending mode choice view_after shown_pointer last_begun others is_open go_back starts clears acked taken_fronts places unfinished copy_of copied_packet flit_of code_for irtry_in irtry_flit read_of bytes_read judgement_of seen_in poison_in is_clean has_length is_null_alone is_null packet_from command_in fitting spelling flits_with bytes_of covered cut check_of half_bytes word_bytes header_word header_of header_is_clean tail_word tail_of tail_is_clean head_in head_with named_by command_of all_commands table_line lng_of word_of half_of training_flit zero_flit crc_of remainder divide plus zeros divisor coefficients number_of bits_of bits_below xor
repeated-fed_back = refl

passed_on-fed_forth : are_fed One (sender_entries link Forth (reverse passed_on)) ≡ true
unfolding are_fed all_bytes tokens sender_entries given_after passes is_pending_changed line landings sent_flits takes handed_packets receiver_entries reception_of reception_by landing_view accepted is_training training run pending mode choice view_after shown_pointer last_begun others is_open go_back starts clears acked taken_fronts places unfinished copy_of copied_packet flit_of code_for irtry_in irtry_flit read_of bytes_read judgement_of seen_in poison_in is_clean has_length is_null_alone is_null packet_from command_in fitting spelling flits_with bytes_of covered cut check_of half_bytes word_bytes header_word header_of header_is_clean tail_word tail_of tail_is_clean head_in head_with named_by command_of all_commands table_line lng_of word_of half_of training_flit zero_flit crc_of remainder divide plus zeros divisor coefficients number_of bits_of bits_below xor
passed_on-fed_forth = refl

passed_on-fed_back : are_fed One (sender_entries link Back (reverse passed_on)) ≡ true
unfolding are_fed all_bytes tokens sender_entries given_after passes is_pending_changed line landings sent_flits takes handed_packets receiver_entries reception_of reception_by landing_view accepted is_training training run pending mode choice view_after shown_pointer last_begun others is_open go_back starts clears acked taken_fronts places unfinished copy_of copied_packet flit_of code_for irtry_in irtry_flit read_of bytes_read judgement_of seen_in poison_in is_clean has_length is_null_alone is_null packet_from command_in fitting spelling flits_with bytes_of covered cut check_of half_bytes word_bytes header_word header_of header_is_clean tail_word tail_of tail_is_clean head_in head_with named_by command_of all_commands table_line lng_of word_of half_of training_flit zero_flit crc_of remainder divide plus zeros divisor coefficients number_of bits_of bits_below xor
passed_on-fed_back = refl

poisoned-fed_forth : are_fed Two (sender_entries second.link Forth (reverse poisoned)) ≡ true
unfolding are_fed all_bytes tokens sender_entries given_after passes is_pending_changed line landings sent_flits takes handed_packets receiver_entries reception_of reception_by landing_view accepted is_training training run pending mode choice view_after shown_pointer last_begun others is_open go_back starts clears acked taken_fronts places unfinished copy_of copied_packet flit_of code_for irtry_in irtry_flit read_of bytes_read judgement_of seen_in poison_in is_clean has_length is_null_alone is_null packet_from command_in fitting spelling flits_with bytes_of covered cut check_of half_bytes word_bytes header_word header_of header_is_clean tail_word tail_of tail_is_clean head_in head_with named_by command_of all_commands table_line lng_of word_of half_of training_flit zero_flit crc_of remainder divide plus zeros divisor coefficients number_of bits_of bits_below xor
poisoned-fed_forth = refl

poisoned-fed_back : are_fed Two (sender_entries second.link Back (reverse poisoned)) ≡ true
unfolding are_fed all_bytes tokens sender_entries given_after passes is_pending_changed line landings sent_flits takes handed_packets receiver_entries reception_of reception_by landing_view accepted is_training training run pending mode choice view_after shown_pointer last_begun others is_open go_back starts clears acked taken_fronts places unfinished copy_of copied_packet flit_of code_for irtry_in irtry_flit read_of bytes_read judgement_of seen_in poison_in is_clean has_length is_null_alone is_null packet_from command_in fitting spelling flits_with bytes_of covered cut check_of half_bytes word_bytes header_word header_of header_is_clean tail_word tail_of tail_is_clean head_in head_with named_by command_of all_commands table_line lng_of word_of half_of training_flit zero_flit crc_of remainder divide plus zeros divisor coefficients number_of bits_of bits_below xor
poisoned-fed_back = refl

-- ---- lists that are kept

repeated-kept : IsKept link (reverse repeated)
unfolding AreHanded
repeated-kept = record {
  retry = omega arith;
  lawful = repeated-lawful;
  met = record {
    handed = (record { packet_is = read-packet; errstat = omega arith }, (record { packet_is = write-packet; errstat = omega arith }, tt));
    forth = fed-is One (sender_entries link Forth (reverse repeated)) repeated-fed_forth;
    back = fed-is One (sender_entries link Back (reverse repeated)) repeated-fed_back;
  };
}

passed_on-kept : IsKept link (reverse passed_on)
unfolding AreHanded
passed_on-kept = record {
  retry = omega arith;
  lawful = passed_on-lawful;
  met = record {
    handed = tt;
    forth = fed-is One (sender_entries link Forth (reverse passed_on)) passed_on-fed_forth;
    back = fed-is One (sender_entries link Back (reverse passed_on)) passed_on-fed_back;
  };
}

poisoned-kept : IsKept second.link (reverse poisoned)
unfolding AreHanded
poisoned-kept = record {
  retry = omega arith;
  lawful = poisoned-lawful;
  met = record {
    handed = tt;
    forth = fed-is Two (sender_entries second.link Forth (reverse poisoned)) poisoned-fed_forth;
    back = fed-is Two (sender_entries second.link Back (reverse poisoned)) poisoned-fed_back;
  };
}

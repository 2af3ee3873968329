-- Lists of a link's entries that break a law of its directions or of its tokens, one row for each
-- law that such a list can break. Few of these lists are lawful: a row shows what its law says by
-- itself.
use Rattle.std.proofs.Common.{◌≡◌, ◌≤◌, ◌<◌, ◌∙◌, ℕ, Bool, true, false, List, [], ◌∷◌, Result, Ok, Err, refl, sym, ap, arith}
use Rattle.std.specs.Prelude.{map, replicate, slice_index_or}
use mathlib.Core.Bool.{xor}
use Rattle.hmc_codes.specs.Codes.{all_commands, command_of}
use Rattle.hmc_codes.specs.Flit.{zero_flit}
use Rattle.hmc_codes.specs.Link.{LinkFields}
use Rattle.hmc_codes.specs.Table.{table_line}
use Rattle.hmc_codes.specs.declared.command.Command.TheVariants.{Inc8}
use Rattle.hmc_codes.specs.declared.profile.Profile.TheVariants.{One}
use Rattle.hmc_crc.specs.Bits.{bits_below, bits_of, number_of}
use Rattle.hmc_crc.specs.Remainder.{coefficients, divisor, zeros, plus, divide, remainder, crc_of}
use Rattle.hmc_packet.specs.declared.bad.Bad.{Bad}
use Rattle.hmc_packet.specs.declared.feed.Feed.TheVariants.{Waiting, Whole, Last}
use Rattle.hmc_packet.specs.declared.outcome.Outcome.TheVariants.{Accepted, Repeat}
use Rattle.hmc_packet.specs.declared.seen.Seen.{Seen}
use Rattle.hmc_packet.specs.declared.what.What.TheVariants as what
use Rattle.hmc_packet.specs.Copy.{copied_packet}
use Rattle.hmc_packet.specs.Head.{named_by}
use Rattle.hmc_packet.specs.Header.{header_of, header_is_clean}
use Rattle.hmc_packet.specs.Landings.{pending, accepted}
use Rattle.hmc_packet.specs.Packet.{PacketFields, null_packet}
use Rattle.hmc_packet.specs.Parts.{word_of, half_of, lng_of}
use Rattle.hmc_packet.specs.Reading.{is_null, is_null_alone, has_length, fitting, command_in, is_clean, poison_in, packet_from, seen_in, judgement_of, bytes_read, read_of}
use Rattle.hmc_packet.specs.Tail.{tail_word, tail_of, tail_is_clean}
use Rattle.hmc_tokens.specs.Account.{code_for}
use Rattle.hmc_send.specs.declared.toward.Toward.{Toward}
use Rattle.hmc_send.specs.declared.toward.Toward.TheVariants.{Forth, Back}
use Rattle.hmc_send.specs.Copies.{copy_of}
use Rattle.hmc_send.specs.Entries.{places, unfinished, taken_fronts, acked}
use Rattle.hmc_send.specs.LinkCalls.{IsLawful}
use Rattle.hmc_send.specs.LinkEntries.{LinkEntry, receiver_entries, accepted_packets, handed_packets, takes}
use Rattle.hmc_send.specs.LinkLines.{line, landings, sent_flits}
use Rattle.hmc_send.specs.LinkSenders.{given_after, sender_entries, tokens}
use Rattle.hmc_send.specs.Places.{Place}
use Rattle.hmc_ends.specs.List.{listed_place, leaves}
use Rattle.hmc_wire.specs.LinkLaws.{IsKept, DirectionLaws, TokenLaws, WasAccepted, HasNumbers, Put, IsBegunOf, AreBegunOf, begun_puts, puts, begun_of}
use Rattle.hmc_wire.proofs.LawsHold.{direction-laws}

-- ---- what never holds

not_true : false ≡ true → ⊥
not_true is = cc

abbrev is_empty : {X : Type 0} → List X → Bool
is_empty [] = true
is_empty (x ∷ xs) = false

-- ---- lists

abbrev link : LinkFields
link = record { line = 8; tokens = 17; retry = 17; output = 1; profile = One }

-- a packet of one flit with so many tokens, and a flit that says so
abbrev packet : PacketFields
packet = record null_packet { command = Inc8; address = 0x40 }

abbrev one_flit : List ℕ
one_flit = 0x80 ∷ replicate 15 0

-- it is begun
abbrev begun : List LinkEntry
begun = LinkEntry.sent Forth Waiting what.New one_flit ∷ LinkEntry.handed Forth packet ∷ []

-- a request under tag 0 that is accepted, and nothing was sent; one under tag 1; and a TRET of 32
-- tokens
abbrev request_flit : List ℕ
request_flit = 0xd0 ∷ 0 ∷ 0 ∷ 0x40 ∷ 0 ∷ 0 ∷ 0 ∷ 0x20 ∷ 0 ∷ 0x02 ∷ 0x04 ∷ 0 ∷ 0x02 ∷ 0xbe ∷ 0x64 ∷ 0x54 ∷ []

abbrev second_flit : List ℕ
second_flit = 0xb0 ∷ 0x10 ∷ 0 ∷ 0x40 ∷ 0 ∷ 0 ∷ 0 ∷ 0 ∷ 0 ∷ 2 ∷ 4 ∷ 0 ∷ 0x7b ∷ 0x72 ∷ 0x10 ∷ 0x1b ∷ []

abbrev tret_flit : List ℕ
tret_flit = 0x82 ∷ 0 ∷ 0 ∷ 0 ∷ 0 ∷ 0 ∷ 0 ∷ 0 ∷ 0 ∷ 2 ∷ 4 ∷ 0xc0 ∷ 0xc3 ∷ 7 ∷ 0xf5 ∷ 7 ∷ []

abbrev accepted_unsent : List LinkEntry
accepted_unsent = LinkEntry.landed Forth zero_flit request_flit Accepted ∷ []

-- a cut-through is begun as of three flits, and has its last flit as the second one
abbrev write_head : List ℕ
write_head = 8 ∷ 1 ∷ 0 ∷ 0x40 ∷ replicate 12 0

abbrev cut_short : List LinkEntry
cut_short = LinkEntry.sent Forth (Last (replicate 8 0) 0 0 true) what.New one_flit ∷ LinkEntry.sent Forth (Whole write_head) what.New write_head ∷ LinkEntry.through Forth write_head 3 ∷ []

-- ---- the laws of a direction

-- accepted, but not begun
accepted-unbegun : DirectionLaws link Forth accepted_unsent → ⊥
unfolding receiver_entries accepted pending sender_entries places
    read_of is_null_alone is_null zero_flit has_length lng_of word_of half_of bytes_read judgement_of command_in fitting all_commands command_of table_line is_clean header_is_clean tail_is_clean tail_word header_of tail_of poison_in packet_from seen_in crc_of remainder divide plus zeros divisor coefficients bits_below bits_of number_of xor
accepted-unbegun laws = not_true (ap is_empty laws.accepted)

begun-less : DirectionLaws link Forth accepted_unsent → ⊥
unfolding receiver_entries accepted pending sender_entries places
    read_of is_null_alone is_null zero_flit has_length lng_of word_of half_of bytes_read judgement_of command_in fitting all_commands command_of table_line is_clean header_is_clean tail_is_clean tail_word header_of tail_of poison_in packet_from seen_in crc_of remainder divide plus zeros divisor coefficients bits_below bits_of number_of xor
begun-less laws = let few : 1 ≤ 0 = laws.begun in omega (arith, few)

-- begun, but not put in
queued-none : DirectionLaws link Forth (LinkEntry.sent Forth Waiting what.New one_flit ∷ []) → ⊥
unfolding begun_puts puts sender_entries given_after unfinished taken_fronts handed_packets
queued-none laws = not_true (ap is_empty laws.queued)

-- a cut-through of another length than it was begun with, and the number of the place that follows
contents-short : DirectionLaws link Forth cut_short → ⊥
unfolding begun_of sender_entries given_after places unfinished copy_of copied_packet packet_from named_by command_of all_commands table_line header_of lng_of word_of half_of
contents-short laws = let off : ◌≡◌ {A = ℕ} 2 3 = laws.contents.0 in omega (arith, off)

numbered-short : DirectionLaws link Forth cut_short → ⊥
unfolding begun_of sender_entries given_after places unfinished copy_of copied_packet packet_from named_by command_of all_commands table_line header_of lng_of word_of half_of
numbered-short laws =
    let some : 0 < 1 = omega arith in
    let off : ◌≡◌ {A = ℕ} 3 2 = (laws.numbered 0 some).frp in omega (arith, off)

-- a flit of no bytes
flits-empty : DirectionLaws link Forth (LinkEntry.sent Forth Waiting what.Null [] ∷ []) → ⊥
unfolding line landings sent_flits receiver_entries accepted
flits-empty laws = let off : ◌≡◌ {A = ℕ} 0 16 = (laws.flits 0 (record { flit = []; stamp = 0 }) refl).long in omega (arith, off)

-- more flits to be sent again than the retry buffer has
kept-none : DirectionLaws (record link { retry = 0 }) Forth begun → ⊥
unfolding sender_entries given_after places unfinished taken_fronts handed_packets acked table_line
kept-none laws = let few : 1 ≤ 0 = laws.kept in omega (arith, few)

-- ---- what these laws are made of

numbers-seq : HasNumbers One (Place.known null_packet ∷ []) 0 → ⊥
numbers-seq is = let off : ◌≡◌ {A = ℕ} 0 1 = is.seq in omega (arith, off)

numbers-frp : HasNumbers One (Place.known (record packet { seq = 1; frp = 5 }) ∷ []) 0 → ⊥
numbers-frp is = let off : ◌≡◌ {A = ℕ} 5 1 = is.frp in omega (arith, off)

begun_of-other : IsBegunOf (Place.known packet) (Put.put_packet (record packet { address = 0x80 })) → ⊥
begun_of-other is = let off : ◌≡◌ {A = ℕ} 0x40 0x80 = ap (λ (p : PacketFields). p.address) is in omega (arith, off)

begun_of-packet : IsBegunOf (Place.awaited one_flit 2 (record { frp = 2; seq = 1; rtc = 0 })) (Put.put_packet packet) → ⊥
begun_of-packet is = is

begun_of-head : IsBegunOf (Place.awaited [] 2 (record { frp = 2; seq = 1; rtc = 0 })) (Put.put_through one_flit 2) → ⊥
begun_of-head is = let off : true ≡ false = ap is_empty is.0 in cc

begun_of-count : IsBegunOf (Place.awaited one_flit 2 (record { frp = 2; seq = 1; rtc = 0 })) (Put.put_through one_flit 3) → ⊥
begun_of-count is = let off : ◌≡◌ {A = ℕ} 2 3 = is.1 in omega (arith, off)

are_begun_of-more : AreBegunOf (Place.known packet ∷ []) [] → ⊥
are_begun_of-more is = is

are_begun_of-fewer : AreBegunOf [] (Put.put_packet packet ∷ []) → ⊥
are_begun_of-fewer is = is

-- what is taken for a repeat was accepted: of nothing accepted none was, and of a request none other
was_accepted-none : WasAccepted link Forth [] request_flit → ⊥
unfolding receiver_entries accepted
was_accepted-none was = let few : was.number < 0 = was.inside in omega (arith, few)

abbrev tag_at : List PacketFields → ℕ → ℕ
tag_at packets n = (slice_index_or packets n null_packet).tag

abbrev tag_seen : Result Seen Bad → ℕ
tag_seen (Ok seen) = seen.packet.tag
tag_seen (Err bad) = 9

was_accepted-other : WasAccepted link Forth accepted_unsent second_flit → ⊥
unfolding receiver_entries accepted pending
    read_of is_null_alone is_null zero_flit has_length lng_of word_of half_of bytes_read judgement_of command_in fitting all_commands command_of table_line is_clean header_is_clean tail_is_clean tail_word header_of tail_of poison_in packet_from seen_in crc_of remainder divide plus zeros divisor coefficients bits_below bits_of number_of xor
was_accepted-other was =
    let few : was.number < 1 = was.inside in
    let first : was.number ≡ 0 = omega (arith, few) in
    let same : tag_at (accepted_packets One Forth accepted_unsent) 0 ≡ was.seen.packet.tag = sym (ap (tag_at (accepted_packets One Forth accepted_unsent)) first) ∙ ap (λ (p : PacketFields). p.tag) was.same in
    let read : ◌≡◌ {A = ℕ} 1 was.seen.packet.tag = ap tag_seen was.read in
    let own : ◌≡◌ {A = ℕ} 0 was.seen.packet.tag = same in
    omega (arith, read, own)

-- a lawful list has its repeats of such packets
repeated-each : (link : LinkFields) (d : Toward) (past : List LinkEntry) (mask flit : List ℕ) → IsKept link past → IsLawful link (LinkEntry.landed d mask flit Repeat ∷ past) → WasAccepted link d past flit
repeated-each link d past mask flit kept lawful = (direction-laws link d past kept).repeated mask flit lawful

-- ---- the laws of tokens

-- begun without a token; accepted, but not begun; accepted, but without room; returned by nobody
held-none : TokenLaws link Forth begun → ⊥
unfolding sender_entries given_after places unfinished taken_fronts handed_packets receiver_entries accepted takes table_line code_for
held-none laws = let few : 1 ≤ 0 = laws.held in omega (arith, few)

transit-unbegun : TokenLaws link Forth accepted_unsent → ⊥
unfolding receiver_entries accepted pending sender_entries places
    read_of is_null_alone is_null zero_flit has_length lng_of word_of half_of bytes_read judgement_of command_in fitting all_commands command_of table_line is_clean header_is_clean tail_is_clean tail_word header_of tail_of poison_in packet_from seen_in crc_of remainder divide plus zeros divisor coefficients bits_below bits_of number_of xor
transit-unbegun laws = let few : 1 ≤ 0 = laws.transit in omega (arith, few)

fits-no_room : TokenLaws (record link { tokens = 0 }) Forth accepted_unsent → ⊥
unfolding receiver_entries accepted pending sender_entries places takes
    read_of is_null_alone is_null zero_flit has_length lng_of word_of half_of bytes_read judgement_of command_in fitting all_commands command_of table_line is_clean header_is_clean tail_is_clean tail_word header_of tail_of poison_in packet_from seen_in crc_of remainder divide plus zeros divisor coefficients bits_below bits_of number_of xor
fits-no_room laws = let few : 1 ≤ 0 = laws.fits in omega (arith, few)

returning-none : TokenLaws link Forth (LinkEntry.landed Back zero_flit tret_flit Accepted ∷ []) → ⊥
unfolding receiver_entries accepted pending sender_entries places
    read_of is_null_alone is_null zero_flit has_length lng_of word_of half_of bytes_read judgement_of command_in fitting all_commands command_of table_line is_clean header_is_clean tail_is_clean tail_word header_of tail_of poison_in packet_from seen_in crc_of remainder divide plus zeros divisor coefficients bits_below bits_of number_of xor
returning-none laws = let few : 32 ≤ 0 = laws.returning in omega (arith, few)

-- with the packet that was begun without a token there is one more than was advertised
sum-more : TokenLaws link Forth begun → ⊥
unfolding tokens sender_entries given_after places unfinished taken_fronts handed_packets receiver_entries accepted takes table_line code_for
sum-more laws = let off : ◌≡◌ {A = ℕ} 18 17 = laws.sum in omega (arith, off)

-- ---- the list of a direction, as the calls of a link show it

-- a packet in it has no numbers of its own, and all else; an open place likewise
listed-each : listed_place (Place.known (record packet { tag = 3; slid = 2; flag = true; errstat = 5; rtc = 6; seq = 7; frp = 8; poisoned = true; payload = 9 ∷ [] }))
    ≡ Place.known (record packet { tag = 3; slid = 2; flag = true; errstat = 5; poisoned = true; payload = 9 ∷ [] })
listed-each = refl

listed-open : listed_place (Place.awaited one_flit 2 (record { frp = 2; seq = 1; rtc = 3 })) ≡ Place.awaited one_flit 2 (record { frp = 0; seq = 0; rtc = 0 })
listed-open = refl

-- what leaves it: entries of the other direction, what is taken from a buffer, and unlocks
abbrev entries : Toward → List LinkEntry
entries way = LinkEntry.handed way packet ∷ LinkEntry.taken way ∷ LinkEntry.sent way Waiting what.Null zero_flit ∷ LinkEntry.landed way zero_flit zero_flit Repeat ∷ LinkEntry.unlocked way ∷ LinkEntry.through way one_flit 2 ∷ []

leaves-own : map (leaves Forth) (entries Forth) ≡ false ∷ true ∷ false ∷ false ∷ true ∷ false ∷ []
leaves-own = refl

leaves-other : map (leaves Forth) (entries Back) ≡ true ∷ true ∷ true ∷ true ∷ true ∷ true ∷ []
leaves-other = refl

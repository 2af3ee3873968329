-- A response of two flits that is forwarded from a link of profile One onto one of profile Two: what
-- the definitions say of its copy, also where they say no. The error number 77 becomes 5, its three low
-- bits. The flits are those of a model outside this repository.
use Rattle.std.proofs.Common.{◌≡◌, ◌∙◌, ℕ, zero, suc, Bool, true, false, List, [], ◌∷◌, ◌++◌, drop, Some, None, replicate, refl, sym, ap, arith, nat_lt, ltb-true}
use Rattle.std.specs.Prelude.{not, ◌&&◌}
use Rattle.std.proofs.lemmas.Bool.{and_parts}
use Rattle.std.proofs.lemmas.Option.{same_Some}
use mathlib.Core.Bool.{xor}
use Rattle.hmc_codes.specs.Bytes.{IsBytes}
use Rattle.hmc_codes.proofs.BytesLemmas.{IsBytes-[]}
use Rattle.hmc_codes.specs.Codes.{all_commands, command_of}
use Rattle.hmc_codes.specs.Flit.{zero_flit, IsFlit}
use Rattle.hmc_codes.specs.Table.{table_line}
use Rattle.hmc_codes.specs.declared.profile.Profile.TheVariants.{One, Two}
use Rattle.hmc_crc.specs.Bits.{bits_below, bits_of, number_of}
use Rattle.hmc_crc.specs.Remainder.{coefficients, divisor, zeros, plus, divide, remainder, crc_of}
use Rattle.hmc_packet.specs.declared.feed.Feed.{Feed}
use Rattle.hmc_packet.specs.declared.feed.Feed.TheVariants.{Whole, Last}
use Rattle.hmc_packet.specs.declared.landed.Landed.{Landed}
use Rattle.hmc_packet.specs.declared.landed.Landed.TheVariants as outcomes
use Rattle.hmc_packet.specs.declared.view.Mode.TheVariants.{Good}
use Rattle.hmc_packet.specs.declared.what.What.TheVariants.{New}
use Rattle.hmc_packet.specs.Copy.{last_feed, copied_packet}
use Rattle.hmc_packet.specs.Head.{named_by, head_in, head_with}
use Rattle.hmc_packet.specs.Header.{header_word, header_of, header_is_clean}
use Rattle.hmc_packet.specs.Packet.{PacketFields, null_packet}
use Rattle.hmc_packet.specs.Parts.{word_of, half_of, lng_of}
use Rattle.hmc_packet.specs.Reading.{command_in, fitting, packet_from}
use Rattle.hmc_packet.specs.Spelling.{word_bytes, half_bytes, covered, check_of, bytes_of, cut, flits_with, spelling, training_flit}
use Rattle.hmc_packet.specs.Tail.{tail_word, tail_of}
use Rattle.hmc_tokens.specs.Account.{code_for}
use Rattle.hmc_send.specs.Choice.{view_after, choice}
use Rattle.hmc_send.specs.Copies.{copy_of}
use Rattle.hmc_send.specs.Entries.{Given, unfinished, places, acked, clears, starts, go_back, is_open, others, last_begun, shown_pointer}
use Rattle.hmc_send.specs.Places.{Place, flit_of, numbers_at, packet_in}
use Rattle.hmc_send.specs.declared.numbers.Numbers.{Numbers}
use Rattle.hmc_through.specs.Pipe.{feed_at}
use Rattle.hmc_copies.specs.Calls.{Forwarding, CanBeForwarded, Call, pipe_after, sender_after, IsFedSend, CanCome, CanEnd, AreCalls, copy_place}
use Rattle.hmc_copies.specs.Copies.{last_tail, IsCopy}

abbrev head : List ℕ
head = (0x38 ∷ 0x91 ∷ 0 ∷ 0 ∷ 2 ∷ 2 ∷ 0 ∷ 0x60 ∷ 0x64 ∷ 0x65 ∷ 0x66 ∷ 0x67 ∷ 0x68 ∷ 0x69 ∷ 0x6a ∷ 0x6b ∷ [])

abbrev half : List ℕ
half = (0x6c ∷ 0x6d ∷ 0x6e ∷ 0x6f ∷ 0x70 ∷ 0x71 ∷ 0x72 ∷ 0x73 ∷ [])

-- the last flit as it comes, with ERRSTAT 77
abbrev last : List ℕ
last = half ++ (0 ∷ 0 ∷ 0x40 ∷ 0x13 ∷ 0 ∷ 0 ∷ 0 ∷ 0 ∷ [])

-- the last flit of the copy, with the return pointer 9
abbrev copied : List ℕ
copied = (0x6c ∷ 0x6d ∷ 0x6e ∷ 0x6f ∷ 0x70 ∷ 0x71 ∷ 0x72 ∷ 0x73 ∷ 9 ∷ 0x10 ∷ 0x40 ∷ 0x4a ∷ 0x62 ∷ 0x92 ∷ 0x24 ∷ 0x1c ∷ [])

abbrev f : Forwarding
f = record { profile = Two; retry = 17; past = []; due = 3; inbound = One; head = head; flits = 2 }

abbrev given : (rrp : ℕ) → Feed → Given
given rrp feed = record { own = record { mode = Good; rrp = rrp }; front = None; held = 0; due = 0; feed = feed }

-- the first flit is sent
abbrev first : List Call
first = Call.sends (given 4 (Whole head)) New head ∷ []

-- and then the last one comes with this outcome
abbrev whole : Landed → List Call
whole outcome = Call.ends outcome ∷ Call.comes last ∷ first

-- and is sent
abbrev sent : Landed → (good : Bool) → List Call
sent outcome good = Call.sends (given 9 (Last half 0 77 good)) New copied ∷ whole outcome

-- ---- the pipe

pipe-whole : pipe_after f (whole (outcomes.Accepted null_packet)) ≡ record { flits = 2; profile = One; came = head ∷ last ∷ []; good = Some true }
unfolding pipe_after
pipe-whole = refl

pipe-poisoned : (pipe_after f (whole (outcomes.Poisoned null_packet))).good ≡ Some false
unfolding pipe_after
pipe-poisoned = refl

errstat : (last_tail (pipe_after f (whole outcomes.Repeat))).errstat ≡ 77
unfolding pipe_after tail_of half_of named_by command_in fitting command_of all_commands table_line word_of
errstat = refl

-- ---- the calls

-- the place before the last flit is sent is open, with the numbers of the first packet of its direction
abbrev n : Numbers
n = record { frp = 2; seq = 1; rtc = 2 }

place-open : copy_place f (whole (outcomes.Accepted null_packet)) ≡ Place.awaited head 2 n
unfolding sender_after places unfinished code_for
place-open = refl

all_bytes : List ℕ → Bool
all_bytes [] = true
all_bytes (b ∷ bs) = nat_lt b 256 && all_bytes bs

bytes-are : (bs : List ℕ) → all_bytes bs ≡ true → IsBytes bs
unfolding all_bytes
bytes-are [] is k = IsBytes-[] k
bytes-are (b ∷ bs) is zero = ltb-true b 256 (and_parts (nat_lt b 256) (all_bytes bs) is).0
bytes-are (b ∷ bs) is (suc k) = bytes-are bs (and_parts (nat_lt b 256) (all_bytes bs) is).1 k

last-is_flit : IsFlit last
unfolding all_bytes
last-is_flit = record { bytes = bytes-are last refl; long = refl }

head-is_flit : IsFlit head
unfolding all_bytes
head-is_flit = record { bytes = bytes-are head refl; long = refl }

-- this packet may be forwarded
forwards : CanBeForwarded f
unfolding unfinished head_in head_with named_by header_of header_is_clean header_word command_in fitting command_of all_commands table_line word_of
forwards = record { nothing = refl; is_flit = head-is_flit; named = refl }

-- these calls may be made
calls-good : AreCalls f (sent (outcomes.Accepted null_packet) true)
unfolding AreCalls pipe_after sender_after last_feed tail_of choice view_after unfinished places acked clears starts go_back is_open others last_begun shown_pointer copy_of copied_packet flit_of code_for spelling flits_with bytes_of covered cut check_of half_bytes word_bytes header_word tail_word header_of packet_from named_by command_in fitting command_of all_commands table_line lng_of word_of half_of training_flit zero_flit crc_of remainder divide plus zeros divisor coefficients number_of bits_of bits_below xor
calls-good = (
  record { chosen = refl; fed = λ at is. ap (feed_at (pipe_after f (whole (outcomes.Accepted null_packet)))) (same_Some 1 at is) },
  (
    record { gathers = refl; whole = λ is. refl },
    (
      record { is_flit = last-is_flit; gathers = refl; left = omega arith },
      (record { chosen = refl; fed = λ at is. ap (feed_at (pipe_after f [])) (same_Some 0 at is) }, tt),
    ),
  ),
)

-- no flit comes after the end of the gathering
late : CanCome (pipe_after f (whole outcomes.Repeat)) last → ⊥
unfolding pipe_after
late may = let clash : Some false ≡ None = may.gathers in cc

-- a packet whose last flit is missing isn't accepted
short : CanEnd (pipe_after f first) (outcomes.Accepted null_packet) → ⊥
unfolding pipe_after
short may = let off : ◌≡◌ {A = ℕ} 1 2 = may.whole refl in omega (arith, off)

-- the first flit of the copy is the one that came
other : IsFedSend f (sender_after f []) (pipe_after f []) (given 4 (Whole zero_flit)) New zero_flit → ⊥
unfolding pipe_after sender_after places unfinished last_begun zero_flit
other is = let off : ◌≡◌ {A = ℕ} 0 0x38 = ap first_byte (is.fed 0 refl) in omega (arith, off)
  where
    first_byte : Feed → ℕ
    first_byte (Whole (x ∷ flit)) = x
    first_byte feed = 1

-- ---- the copy

-- the packet of the place after these calls
abbrev packet : List Call → PacketFields
packet calls = packet_in (copy_place f calls)

copy-errstat : (packet (sent (outcomes.Accepted null_packet) true)).errstat ≡ 5
unfolding sender_after pipe_after places unfinished copy_of copied_packet packet_from header_of named_by command_in fitting command_of all_commands table_line word_of code_for
copy-errstat = refl

copy-numbers : numbers_at (copy_place f (sent (outcomes.Accepted null_packet) true)) ≡ n
unfolding sender_after pipe_after places unfinished copy_of copied_packet packet_from header_of named_by command_in fitting command_of all_commands table_line word_of code_for
copy-numbers = refl

copy-payload : (packet (sent (outcomes.Accepted null_packet) true)).payload ≡ drop 8 head ++ half
unfolding sender_after pipe_after places unfinished copy_of copied_packet packet_from header_of named_by command_in fitting command_of all_commands table_line word_of code_for
copy-payload = refl

copy-good : (packet (sent (outcomes.Accepted null_packet) true)).poisoned ≡ false
unfolding sender_after pipe_after places unfinished copy_of copied_packet packet_from header_of named_by command_in fitting command_of all_commands table_line word_of code_for
copy-good = refl

-- after a repeat the copy is poisoned
copy-repeat : (packet (sent outcomes.Repeat false)).poisoned ≡ true
unfolding sender_after pipe_after places unfinished copy_of copied_packet packet_from header_of named_by command_in fitting command_of all_commands table_line word_of code_for
copy-repeat = refl

-- where the last flit never came, it is zero
copy-short : drop 8 (packet (Call.sends (given 9 (Last (replicate 8 0) 0 0 false)) New copied ∷ Call.ends outcomes.Quiet ∷ first)).payload ≡ replicate 8 0
unfolding sender_after pipe_after places unfinished copy_of copied_packet packet_from header_of named_by command_in fitting command_of all_commands table_line word_of code_for
copy-short = refl

-- and that is what the pipe gives then
gives-short : feed_at (pipe_after f (Call.ends outcomes.Quiet ∷ first)) 1 ≡ Last (replicate 8 0) 0 0 false
unfolding pipe_after last_feed tail_of half_of named_by command_in fitting command_of all_commands table_line word_of zero_flit
gives-short = refl

-- a poisoned packet is no copy of an accepted one
no-poisoned : (p : PacketFields) → p.poisoned ≡ true → IsCopy Two (pipe_after f (whole (outcomes.Accepted null_packet))) n p → ⊥
unfolding pipe_after
no-poisoned p is copy = let clash : Some true ≡ Some false = copy.good ∙ ap (λ (b : Bool). Some (not b)) is in cc

-- nor is one with the numbers of the link on which it came
no-numbers : (p : PacketFields) → p.frp ≡ 3 → IsCopy Two (pipe_after f (whole (outcomes.Accepted null_packet))) n p → ⊥
no-numbers p is copy = let off : ◌≡◌ {A = ℕ} 3 2 = sym is ∙ ap (λ (m : Numbers). m.frp) copy.numbers in omega (arith, off)

-- while it is gathered, no packet is a copy
no-open : (p : PacketFields) → IsCopy Two (pipe_after f first) n p → ⊥
unfolding pipe_after
no-open p copy = let clash : None ≡ Some (not p.poisoned) = copy.good in cc

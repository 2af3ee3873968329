-- Cut-throughs, worked, in profile Two from a link of profile One: begun, starved, filled, sent again, and
-- a copy of a packet that was not accepted. The error number 77 becomes 5, its three low bits.
use Rattle.std.proofs.Common.{◌≡◌, ℕ, true, false, List, [], ◌∷◌, ◌++◌, Option, None, replicate, refl}
use mathlib.Core.Bool.{xor}
use Rattle.hmc_codes.specs.Codes.{all_commands, command_of}
use Rattle.hmc_codes.specs.Flit.{zero_flit}
use Rattle.hmc_codes.specs.Table.{table_line}
use Rattle.hmc_codes.specs.declared.profile.Profile.{Profile}
use Rattle.hmc_codes.specs.declared.profile.Profile.TheVariants.{Two}
use Rattle.hmc_crc.specs.Bits.{bits_below, bits_of, number_of}
use Rattle.hmc_crc.specs.Remainder.{coefficients, divisor, zeros, plus, divide, remainder, crc_of}
use Rattle.hmc_packet.specs.declared.feed.Feed.{Feed}
use Rattle.hmc_packet.specs.Copy.{copied_packet}
use Rattle.hmc_packet.specs.declared.feed.Feed.TheVariants.{Waiting, Whole, Last}
use Rattle.hmc_packet.specs.declared.view.Mode.{Mode}
use Rattle.hmc_packet.specs.declared.view.Mode.TheVariants as mode
use Rattle.hmc_packet.specs.declared.what.What.TheVariants as what
use Rattle.hmc_packet.specs.Head.{named_by}
use Rattle.hmc_packet.specs.Header.{header_word, header_of}
use Rattle.hmc_packet.specs.Irtry.{irtry_flit}
use Rattle.hmc_packet.specs.Packet.{PacketFields}
use Rattle.hmc_packet.specs.Parts.{word_of, half_of, lng_of}
use Rattle.hmc_packet.specs.Reading.{command_in, fitting, packet_from}
use Rattle.hmc_packet.specs.Spelling.{word_bytes, half_bytes, covered, check_of, bytes_of, cut, flits_with, spelling, training_flit}
use Rattle.hmc_packet.specs.Tail.{tail_word}
use Rattle.hmc_tokens.specs.Account.{code_for}
use Rattle.hmc_send.specs.declared.sent.Sent.{Sent}
use Rattle.hmc_send.specs.declared.sent.Sent.TheVariants.{Out, Starved}
use Rattle.hmc_send.specs.Choice.{view_after, choice}
use Rattle.hmc_send.specs.Copies.{copy_of}
use Rattle.hmc_send.specs.Entries.{SenderEntry, Given, unfinished, places, acked, clears, starts, go_back, is_open, others, last_begun, shown_pointer}
use Rattle.hmc_send.specs.Places.{flit_of}
use Rattle.hmc_send.specs.StandsFor.{entries_after}

-- a send, with what it is given, or another entry
data Step : Type 0 where
  gives : Given → Step
  does : SenderEntry → Step

abbrev times : {X : Type 0} → ℕ → X → List X
times count x = replicate count x

abbrev given : Mode → (rrp : ℕ) → Option PacketFields → (held due : ℕ) → Feed → Given
given mode rrp front held due feed = record { own = record { mode = mode; rrp = rrp }; front = front; held = held; due = due; feed = feed }

-- what the sends of a sender give
unfoldable outs : Profile → (retry : ℕ) → List Step → List SenderEntry → List Sent
outs profile retry [] past = []
outs profile retry (gives g ∷ steps) past =
    let x = choice profile (view_after profile retry past g) in x ∷ outs profile retry steps (entries_after g x past)
outs profile retry (does entry ∷ steps) past = outs profile retry steps (entry ∷ past)

-- a response of two flits, as it comes on a link of profile One
abbrev head : List ℕ
head = (0x38 ∷ 0x91 ∷ 0 ∷ 0 ∷ 2 ∷ 2 ∷ 0 ∷ 0x60 ∷ 0x64 ∷ 0x65 ∷ 0x66 ∷ 0x67 ∷ 0x68 ∷ 0x69 ∷ 0x6a ∷ 0x6b ∷ [])

abbrev half : List ℕ
half = (0x6c ∷ 0x6d ∷ 0x6e ∷ 0x6f ∷ 0x70 ∷ 0x71 ∷ 0x72 ∷ 0x73 ∷ [])

-- the flits are those of a model outside this repository
abbrev flit_1 : List ℕ
flit_1 = (0x83 ∷ 0 ∷ 0 ∷ 0 ∷ 0 ∷ 0 ∷ 0 ∷ 0 ∷ 0 ∷ 8 ∷ 0 ∷ 0 ∷ 0x69 ∷ 0xd3 ∷ 0x80 ∷ 9 ∷ [])

abbrev flit_2 : List ℕ
flit_2 = (0x83 ∷ 0 ∷ 0 ∷ 0 ∷ 0 ∷ 0 ∷ 0 ∷ 0 ∷ 0 ∷ 0x10 ∷ 0 ∷ 0 ∷ 0x9a ∷ 0xbc ∷ 0xa8 ∷ 0xed ∷ [])

abbrev flit_3 : List ℕ
flit_3 = (0x38 ∷ 0x91 ∷ 0 ∷ 0 ∷ 2 ∷ 2 ∷ 0 ∷ 0x60 ∷ 0x64 ∷ 0x65 ∷ 0x66 ∷ 0x67 ∷ 0x68 ∷ 0x69 ∷ 0x6a ∷ 0x6b ∷ [])

abbrev flit_4 : List ℕ
flit_4 = (0x6c ∷ 0x6d ∷ 0x6e ∷ 0x6f ∷ 0x70 ∷ 0x71 ∷ 0x72 ∷ 0x73 ∷ 9 ∷ 0x10 ∷ 0x40 ∷ 0x4a ∷ 0x62 ∷ 0x92 ∷ 0x24 ∷ 0x1c ∷ [])

abbrev flit_5 : List ℕ
flit_5 = (0x83 ∷ 0 ∷ 0 ∷ 0 ∷ 0 ∷ 0 ∷ 0 ∷ 0 ∷ 9 ∷ 0x10 ∷ 0 ∷ 0 ∷ 0x15 ∷ 0x98 ∷ 0xad ∷ 0xa4 ∷ [])

abbrev flit_6 : List ℕ
flit_6 = (0x6c ∷ 0x6d ∷ 0x6e ∷ 0x6f ∷ 0x70 ∷ 0x71 ∷ 0x72 ∷ 0x73 ∷ 0xa ∷ 0x10 ∷ 0x40 ∷ 0x4a ∷ 0xca ∷ 0xc7 ∷ 0x4d ∷ 0x78 ∷ [])

abbrev flit_7 : List ℕ
flit_7 = (0x6c ∷ 0x6d ∷ 0x6e ∷ 0x6f ∷ 0x70 ∷ 0x71 ∷ 0x72 ∷ 0x73 ∷ 0xa ∷ 0x20 ∷ 0x80 ∷ 0xa ∷ 0x6d ∷ 0x74 ∷ 0x61 ∷ 0xd7 ∷ [])

abbrev steps : List Step
steps =
    times 1 (gives (given mode.Abort 0 None 0 0 Waiting))
    ++ times 1 (does SenderEntry.ran)
    ++ times 31 (gives (given mode.Good 0 None 0 0 Waiting))
    ++ times 32 (gives (given mode.Good 0 None 0 0 Waiting))
    ++ times 1 (does (SenderEntry.through head 2 3))
    ++ times 1 (gives (given mode.Good 0 None 0 0 (Whole head)))
    ++ times 2 (gives (given mode.Good 4 None 0 0 Waiting))
    ++ times 1 (gives (given mode.Good 9 None 0 0 (Last half 0 77 true)))
    ++ times 1 (gives (given mode.Good 9 None 0 0 Waiting))
    ++ times 1 (does SenderEntry.ran)
    ++ times 32 (gives (given mode.Good 9 None 0 0 Waiting))
    ++ times 1 (gives (given mode.Good 9 None 0 0 Waiting))
    ++ times 1 (gives (given mode.Good 10 None 0 0 Waiting))
    ++ times 1 (gives (given mode.Good 10 None 0 0 Waiting))
    ++ times 1 (does (SenderEntry.acknowledged 1))
    ++ times 1 (does (SenderEntry.through head 2 0))
    ++ times 1 (gives (given mode.Good 10 None 0 0 (Whole head)))
    ++ times 1 (gives (given mode.Good 10 None 0 0 (Last half 0 77 false)))

abbrev expected : List Sent
expected =
    times 32 (Out flit_1 what.Start)
    ++ times 32 (Out flit_2 what.Clear)
    ++ times 1 (Out flit_3 what.New)
    ++ times 2 Starved
    ++ times 1 (Out flit_4 what.New)
    ++ times 1 (Out zero_flit what.Null)
    ++ times 32 (Out flit_5 what.Clear)
    ++ times 1 (Out flit_3 what.Again)
    ++ times 1 (Out flit_6 what.Again)
    ++ times 1 (Out zero_flit what.Null)
    ++ times 1 (Out flit_3 what.New)
    ++ times 1 (Out flit_7 what.New)

life : outs Two 17 steps [] ≡ expected
unfolding outs choice view_after unfinished places acked clears starts go_back is_open others last_begun shown_pointer copy_of copied_packet flit_of code_for irtry_flit spelling flits_with bytes_of covered cut check_of half_bytes word_bytes header_word tail_word header_of packet_from named_by command_in fitting command_of all_commands table_line lng_of word_of half_of training_flit zero_flit crc_of remainder divide plus zeros divisor coefficients number_of bits_of bits_below xor
life = refl

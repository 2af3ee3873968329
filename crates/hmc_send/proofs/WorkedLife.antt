-- A sender's life, worked, in profile One with room for 17 flits: trained, two bursts of Starts with 64
-- other flits between them, opened, a TRET, a write that is acknowledged and gone back over in its middle,
-- a PRET after an acceptance, no new packet without room, and a go-back while the room is 0.
use Rattle.std.proofs.Common.{◌≡◌, ℕ, List, [], ◌∷◌, ◌++◌, Option, Some, None, replicate, refl}
use mathlib.Core.Bool.{xor}
use Rattle.hmc_codes.specs.Codes.{all_commands, command_of}
use Rattle.hmc_codes.specs.Flit.{zero_flit}
use Rattle.hmc_codes.specs.Table.{table_line}
use Rattle.hmc_codes.specs.declared.command.Command.TheVariants.{Wr32, Rd16, Wr256}
use Rattle.hmc_codes.specs.declared.profile.Profile.{Profile}
use Rattle.hmc_codes.specs.declared.profile.Profile.TheVariants.{One}
use Rattle.hmc_crc.specs.Bits.{bits_below, bits_of, number_of}
use Rattle.hmc_crc.specs.Remainder.{coefficients, divisor, zeros, plus, divide, remainder, crc_of}
use Rattle.hmc_packet.specs.declared.feed.Feed.{Feed}
use Rattle.hmc_packet.specs.Copy.{copied_packet}
use Rattle.hmc_packet.specs.declared.feed.Feed.TheVariants.{Waiting}
use Rattle.hmc_packet.specs.declared.view.Mode.{Mode}
use Rattle.hmc_packet.specs.declared.view.Mode.TheVariants as mode
use Rattle.hmc_packet.specs.declared.what.What.TheVariants as what
use Rattle.hmc_packet.specs.Head.{named_by}
use Rattle.hmc_packet.specs.Header.{header_word, header_of}
use Rattle.hmc_packet.specs.Irtry.{irtry_flit}
use Rattle.hmc_packet.specs.Packet.{PacketFields, null_packet}
use Rattle.hmc_packet.specs.Parts.{word_of, half_of, lng_of}
use Rattle.hmc_packet.specs.Reading.{command_in, fitting, packet_from}
use Rattle.hmc_packet.specs.Spelling.{word_bytes, half_bytes, covered, check_of, bytes_of, cut, flits_with, spelling, training_flit}
use Rattle.hmc_packet.specs.Tail.{tail_word}
use Rattle.hmc_tokens.specs.Account.{code_for}
use Rattle.hmc_send.specs.declared.sent.Sent.{Sent}
use Rattle.hmc_send.specs.declared.sent.Sent.TheVariants.{Out}
use Rattle.hmc_send.specs.Choice.{view_after, choice}
use Rattle.hmc_send.specs.Copies.{copy_of}
use Rattle.hmc_send.specs.Entries.{SenderEntry, Given, unfinished, places, acked, clears, starts, go_back, is_open, others, last_begun, shown_pointer}
use Rattle.hmc_send.specs.Places.{flit_of}
use Rattle.hmc_send.specs.StandsFor.{entries_after}

-- a send, with what it is given, or another entry
data Step : Type 0 where
  gives : Given → Step
  does : SenderEntry → Step

abbrev times : {X : Type 0} → ℕ → X → List X
times count x = replicate count x

abbrev given : Mode → (rrp : ℕ) → Option PacketFields → (held due : ℕ) → Feed → Given
given mode rrp front held due feed = record { own = record { mode = mode; rrp = rrp }; front = front; held = held; due = due; feed = feed }

-- what the sends of a sender give
unfoldable outs : Profile → (retry : ℕ) → List Step → List SenderEntry → List Sent
outs profile retry [] past = []
outs profile retry (gives g ∷ steps) past =
    let x = choice profile (view_after profile retry past g) in x ∷ outs profile retry steps (entries_after g x past)
outs profile retry (does entry ∷ steps) past = outs profile retry steps (entry ∷ past)

abbrev wr32 : PacketFields
wr32 = record null_packet { command = Wr32; tag = 5; address = 64; cube = 1; slid = 2; payload = (0 ∷ 1 ∷ 2 ∷ 3 ∷ 4 ∷ 5 ∷ 6 ∷ 7 ∷ 8 ∷ 9 ∷ 0xa ∷ 0xb ∷ 0xc ∷ 0xd ∷ 0xe ∷ 0xf ∷ 0x10 ∷ 0x11 ∷ 0x12 ∷ 0x13 ∷ 0x14 ∷ 0x15 ∷ 0x16 ∷ 0x17 ∷ 0x18 ∷ 0x19 ∷ 0x1a ∷ 0x1b ∷ 0x1c ∷ 0x1d ∷ 0x1e ∷ 0x1f ∷ []) }

abbrev rd16 : PacketFields
rd16 = record null_packet { command = Rd16; tag = 6; address = 128; cube = 0; slid = 1; payload = [] }

abbrev wr256 : PacketFields
wr256 = record null_packet { command = Wr256; tag = 7; address = 256; cube = 0; slid = 0; payload = (0 ∷ 1 ∷ 2 ∷ 3 ∷ 4 ∷ 5 ∷ 6 ∷ 7 ∷ 8 ∷ 9 ∷ 0xa ∷ 0xb ∷ 0xc ∷ 0xd ∷ 0xe ∷ 0xf ∷ 0x10 ∷ 0x11 ∷ 0x12 ∷ 0x13 ∷ 0x14 ∷ 0x15 ∷ 0x16 ∷ 0x17 ∷ 0x18 ∷ 0x19 ∷ 0x1a ∷ 0x1b ∷ 0x1c ∷ 0x1d ∷ 0x1e ∷ 0x1f ∷ 0x20 ∷ 0x21 ∷ 0x22 ∷ 0x23 ∷ 0x24 ∷ 0x25 ∷ 0x26 ∷ 0x27 ∷ 0x28 ∷ 0x29 ∷ 0x2a ∷ 0x2b ∷ 0x2c ∷ 0x2d ∷ 0x2e ∷ 0x2f ∷ 0x30 ∷ 0x31 ∷ 0x32 ∷ 0x33 ∷ 0x34 ∷ 0x35 ∷ 0x36 ∷ 0x37 ∷ 0x38 ∷ 0x39 ∷ 0x3a ∷ 0x3b ∷ 0x3c ∷ 0x3d ∷ 0x3e ∷ 0x3f ∷ 0x40 ∷ 0x41 ∷ 0x42 ∷ 0x43 ∷ 0x44 ∷ 0x45 ∷ 0x46 ∷ 0x47 ∷ 0x48 ∷ 0x49 ∷ 0x4a ∷ 0x4b ∷ 0x4c ∷ 0x4d ∷ 0x4e ∷ 0x4f ∷ 0x50 ∷ 0x51 ∷ 0x52 ∷ 0x53 ∷ 0x54 ∷ 0x55 ∷ 0x56 ∷ 0x57 ∷ 0x58 ∷ 0x59 ∷ 0x5a ∷ 0x5b ∷ 0x5c ∷ 0x5d ∷ 0x5e ∷ 0x5f ∷ 0x60 ∷ 0x61 ∷ 0x62 ∷ 0x63 ∷ 0x64 ∷ 0x65 ∷ 0x66 ∷ 0x67 ∷ 0x68 ∷ 0x69 ∷ 0x6a ∷ 0x6b ∷ 0x6c ∷ 0x6d ∷ 0x6e ∷ 0x6f ∷ 0x70 ∷ 0x71 ∷ 0x72 ∷ 0x73 ∷ 0x74 ∷ 0x75 ∷ 0x76 ∷ 0x77 ∷ 0x78 ∷ 0x79 ∷ 0x7a ∷ 0x7b ∷ 0x7c ∷ 0x7d ∷ 0x7e ∷ 0x7f ∷ 0x80 ∷ 0x81 ∷ 0x82 ∷ 0x83 ∷ 0x84 ∷ 0x85 ∷ 0x86 ∷ 0x87 ∷ 0x88 ∷ 0x89 ∷ 0x8a ∷ 0x8b ∷ 0x8c ∷ 0x8d ∷ 0x8e ∷ 0x8f ∷ 0x90 ∷ 0x91 ∷ 0x92 ∷ 0x93 ∷ 0x94 ∷ 0x95 ∷ 0x96 ∷ 0x97 ∷ 0x98 ∷ 0x99 ∷ 0x9a ∷ 0x9b ∷ 0x9c ∷ 0x9d ∷ 0x9e ∷ 0x9f ∷ 0xa0 ∷ 0xa1 ∷ 0xa2 ∷ 0xa3 ∷ 0xa4 ∷ 0xa5 ∷ 0xa6 ∷ 0xa7 ∷ 0xa8 ∷ 0xa9 ∷ 0xaa ∷ 0xab ∷ 0xac ∷ 0xad ∷ 0xae ∷ 0xaf ∷ 0xb0 ∷ 0xb1 ∷ 0xb2 ∷ 0xb3 ∷ 0xb4 ∷ 0xb5 ∷ 0xb6 ∷ 0xb7 ∷ 0xb8 ∷ 0xb9 ∷ 0xba ∷ 0xbb ∷ 0xbc ∷ 0xbd ∷ 0xbe ∷ 0xbf ∷ 0xc0 ∷ 0xc1 ∷ 0xc2 ∷ 0xc3 ∷ 0xc4 ∷ 0xc5 ∷ 0xc6 ∷ 0xc7 ∷ 0xc8 ∷ 0xc9 ∷ 0xca ∷ 0xcb ∷ 0xcc ∷ 0xcd ∷ 0xce ∷ 0xcf ∷ 0xd0 ∷ 0xd1 ∷ 0xd2 ∷ 0xd3 ∷ 0xd4 ∷ 0xd5 ∷ 0xd6 ∷ 0xd7 ∷ 0xd8 ∷ 0xd9 ∷ 0xda ∷ 0xdb ∷ 0xdc ∷ 0xdd ∷ 0xde ∷ 0xdf ∷ 0xe0 ∷ 0xe1 ∷ 0xe2 ∷ 0xe3 ∷ 0xe4 ∷ 0xe5 ∷ 0xe6 ∷ 0xe7 ∷ 0xe8 ∷ 0xe9 ∷ 0xea ∷ 0xeb ∷ 0xec ∷ 0xed ∷ 0xee ∷ 0xef ∷ 0xf0 ∷ 0xf1 ∷ 0xf2 ∷ 0xf3 ∷ 0xf4 ∷ 0xf5 ∷ 0xf6 ∷ 0xf7 ∷ 0xf8 ∷ 0xf9 ∷ 0xfa ∷ 0 ∷ 1 ∷ 2 ∷ 3 ∷ 4 ∷ []) }

abbrev head : List ℕ
head = []

abbrev half : List ℕ
half = []

-- the flits are those of a model outside this repository
abbrev flit_1 : List ℕ
flit_1 = (0x83 ∷ 0 ∷ 0 ∷ 0 ∷ 0 ∷ 0 ∷ 0 ∷ 0 ∷ 0 ∷ 2 ∷ 0 ∷ 0 ∷ 0x32 ∷ 0xda ∷ 0x95 ∷ 0xa5 ∷ [])

abbrev flit_2 : List ℕ
flit_2 = (0x83 ∷ 0 ∷ 0 ∷ 0 ∷ 0 ∷ 0 ∷ 0 ∷ 0 ∷ 0 ∷ 4 ∷ 0 ∷ 0 ∷ 0xfb ∷ 0x22 ∷ 0x99 ∷ 0xc1 ∷ [])

abbrev flit_3 : List ℕ
flit_3 = (0x82 ∷ 0 ∷ 0 ∷ 0 ∷ 0 ∷ 0 ∷ 0 ∷ 0 ∷ 0 ∷ 2 ∷ 4 ∷ 0x80 ∷ 0x1c ∷ 0x15 ∷ 0x69 ∷ 0x94 ∷ [])

abbrev flit_4 : List ℕ
flit_4 = (0x89 ∷ 0x51 ∷ 0 ∷ 0x40 ∷ 0 ∷ 0 ∷ 0 ∷ 0x20 ∷ 0 ∷ 1 ∷ 2 ∷ 3 ∷ 4 ∷ 5 ∷ 6 ∷ 7 ∷ [])

abbrev flit_5 : List ℕ
flit_5 = (8 ∷ 9 ∷ 0xa ∷ 0xb ∷ 0xc ∷ 0xd ∷ 0xe ∷ 0xf ∷ 0x10 ∷ 0x11 ∷ 0x12 ∷ 0x13 ∷ 0x14 ∷ 0x15 ∷ 0x16 ∷ 0x17 ∷ [])

abbrev flit_6 : List ℕ
flit_6 = (0x18 ∷ 0x19 ∷ 0x1a ∷ 0x1b ∷ 0x1c ∷ 0x1d ∷ 0x1e ∷ 0x1f ∷ 1 ∷ 8 ∷ 8 ∷ 0x28 ∷ 0xb9 ∷ 0x99 ∷ 0x90 ∷ 0x56 ∷ [])

abbrev flit_7 : List ℕ
flit_7 = (0x83 ∷ 0 ∷ 0 ∷ 0 ∷ 0 ∷ 0 ∷ 0 ∷ 0 ∷ 1 ∷ 4 ∷ 0 ∷ 0 ∷ 0x2e ∷ 0x6a ∷ 0xb7 ∷ 0x31 ∷ [])

abbrev flit_8 : List ℕ
flit_8 = (0x18 ∷ 0x19 ∷ 0x1a ∷ 0x1b ∷ 0x1c ∷ 0x1d ∷ 0x1e ∷ 0x1f ∷ 3 ∷ 8 ∷ 8 ∷ 0x28 ∷ 0xc4 ∷ 0x84 ∷ 0xd7 ∷ 0xc2 ∷ [])

abbrev flit_9 : List ℕ
flit_9 = (0xb0 ∷ 0x60 ∷ 0 ∷ 0x80 ∷ 0 ∷ 0 ∷ 0 ∷ 0 ∷ 3 ∷ 0xa ∷ 0xc ∷ 0x64 ∷ 0x2a ∷ 0x1d ∷ 0xa5 ∷ 0x5f ∷ [])

abbrev flit_10 : List ℕ
flit_10 = (0x81 ∷ 0 ∷ 0 ∷ 0 ∷ 0 ∷ 0 ∷ 0 ∷ 0 ∷ 5 ∷ 0 ∷ 0 ∷ 0 ∷ 0xcf ∷ 0xe5 ∷ 0x3f ∷ 0xd ∷ [])

abbrev flit_11 : List ℕ
flit_11 = (0xcf ∷ 0x78 ∷ 0 ∷ 0 ∷ 1 ∷ 0 ∷ 0 ∷ 0 ∷ 0 ∷ 1 ∷ 2 ∷ 3 ∷ 4 ∷ 5 ∷ 6 ∷ 7 ∷ [])

abbrev flit_12 : List ℕ
flit_12 = (0x18 ∷ 0x19 ∷ 0x1a ∷ 0x1b ∷ 0x1c ∷ 0x1d ∷ 0x1e ∷ 0x1f ∷ 0x20 ∷ 0x21 ∷ 0x22 ∷ 0x23 ∷ 0x24 ∷ 0x25 ∷ 0x26 ∷ 0x27 ∷ [])

abbrev flit_13 : List ℕ
flit_13 = (0x28 ∷ 0x29 ∷ 0x2a ∷ 0x2b ∷ 0x2c ∷ 0x2d ∷ 0x2e ∷ 0x2f ∷ 0x30 ∷ 0x31 ∷ 0x32 ∷ 0x33 ∷ 0x34 ∷ 0x35 ∷ 0x36 ∷ 0x37 ∷ [])

abbrev flit_14 : List ℕ
flit_14 = (0x38 ∷ 0x39 ∷ 0x3a ∷ 0x3b ∷ 0x3c ∷ 0x3d ∷ 0x3e ∷ 0x3f ∷ 0x40 ∷ 0x41 ∷ 0x42 ∷ 0x43 ∷ 0x44 ∷ 0x45 ∷ 0x46 ∷ 0x47 ∷ [])

abbrev flit_15 : List ℕ
flit_15 = (0x48 ∷ 0x49 ∷ 0x4a ∷ 0x4b ∷ 0x4c ∷ 0x4d ∷ 0x4e ∷ 0x4f ∷ 0x50 ∷ 0x51 ∷ 0x52 ∷ 0x53 ∷ 0x54 ∷ 0x55 ∷ 0x56 ∷ 0x57 ∷ [])

abbrev flit_16 : List ℕ
flit_16 = (0x58 ∷ 0x59 ∷ 0x5a ∷ 0x5b ∷ 0x5c ∷ 0x5d ∷ 0x5e ∷ 0x5f ∷ 0x60 ∷ 0x61 ∷ 0x62 ∷ 0x63 ∷ 0x64 ∷ 0x65 ∷ 0x66 ∷ 0x67 ∷ [])

abbrev flit_17 : List ℕ
flit_17 = (0x68 ∷ 0x69 ∷ 0x6a ∷ 0x6b ∷ 0x6c ∷ 0x6d ∷ 0x6e ∷ 0x6f ∷ 0x70 ∷ 0x71 ∷ 0x72 ∷ 0x73 ∷ 0x74 ∷ 0x75 ∷ 0x76 ∷ 0x77 ∷ [])

abbrev flit_18 : List ℕ
flit_18 = (0x78 ∷ 0x79 ∷ 0x7a ∷ 0x7b ∷ 0x7c ∷ 0x7d ∷ 0x7e ∷ 0x7f ∷ 0x80 ∷ 0x81 ∷ 0x82 ∷ 0x83 ∷ 0x84 ∷ 0x85 ∷ 0x86 ∷ 0x87 ∷ [])

abbrev flit_19 : List ℕ
flit_19 = (0x88 ∷ 0x89 ∷ 0x8a ∷ 0x8b ∷ 0x8c ∷ 0x8d ∷ 0x8e ∷ 0x8f ∷ 0x90 ∷ 0x91 ∷ 0x92 ∷ 0x93 ∷ 0x94 ∷ 0x95 ∷ 0x96 ∷ 0x97 ∷ [])

abbrev flit_20 : List ℕ
flit_20 = (0x98 ∷ 0x99 ∷ 0x9a ∷ 0x9b ∷ 0x9c ∷ 0x9d ∷ 0x9e ∷ 0x9f ∷ 0xa0 ∷ 0xa1 ∷ 0xa2 ∷ 0xa3 ∷ 0xa4 ∷ 0xa5 ∷ 0xa6 ∷ 0xa7 ∷ [])

abbrev flit_21 : List ℕ
flit_21 = (0xa8 ∷ 0xa9 ∷ 0xaa ∷ 0xab ∷ 0xac ∷ 0xad ∷ 0xae ∷ 0xaf ∷ 0xb0 ∷ 0xb1 ∷ 0xb2 ∷ 0xb3 ∷ 0xb4 ∷ 0xb5 ∷ 0xb6 ∷ 0xb7 ∷ [])

abbrev flit_22 : List ℕ
flit_22 = (0xb8 ∷ 0xb9 ∷ 0xba ∷ 0xbb ∷ 0xbc ∷ 0xbd ∷ 0xbe ∷ 0xbf ∷ 0xc0 ∷ 0xc1 ∷ 0xc2 ∷ 0xc3 ∷ 0xc4 ∷ 0xc5 ∷ 0xc6 ∷ 0xc7 ∷ [])

abbrev flit_23 : List ℕ
flit_23 = (0xc8 ∷ 0xc9 ∷ 0xca ∷ 0xcb ∷ 0xcc ∷ 0xcd ∷ 0xce ∷ 0xcf ∷ 0xd0 ∷ 0xd1 ∷ 0xd2 ∷ 0xd3 ∷ 0xd4 ∷ 0xd5 ∷ 0xd6 ∷ 0xd7 ∷ [])

abbrev flit_24 : List ℕ
flit_24 = (0xd8 ∷ 0xd9 ∷ 0xda ∷ 0xdb ∷ 0xdc ∷ 0xdd ∷ 0xde ∷ 0xdf ∷ 0xe0 ∷ 0xe1 ∷ 0xe2 ∷ 0xe3 ∷ 0xe4 ∷ 0xe5 ∷ 0xe6 ∷ 0xe7 ∷ [])

abbrev flit_25 : List ℕ
flit_25 = (0xe8 ∷ 0xe9 ∷ 0xea ∷ 0xeb ∷ 0xec ∷ 0xed ∷ 0xee ∷ 0xef ∷ 0xf0 ∷ 0xf1 ∷ 0xf2 ∷ 0xf3 ∷ 0xf4 ∷ 0xf5 ∷ 0xf6 ∷ 0xf7 ∷ [])

abbrev flit_26 : List ℕ
flit_26 = (0xf8 ∷ 0xf9 ∷ 0xfa ∷ 0 ∷ 1 ∷ 2 ∷ 3 ∷ 4 ∷ 5 ∷ 0x2c ∷ 0x10 ∷ 0 ∷ 0xd3 ∷ 0x40 ∷ 0x54 ∷ 0x93 ∷ [])

abbrev flit_27 : List ℕ
flit_27 = (0x83 ∷ 0 ∷ 0 ∷ 0 ∷ 0 ∷ 0 ∷ 0 ∷ 0 ∷ 5 ∷ 4 ∷ 0 ∷ 0 ∷ 3 ∷ 0xdc ∷ 0x22 ∷ 0x6d ∷ [])

abbrev flit_28 : List ℕ
flit_28 = (0x81 ∷ 0 ∷ 0 ∷ 0 ∷ 0 ∷ 0 ∷ 0 ∷ 0 ∷ 6 ∷ 0 ∷ 0 ∷ 0 ∷ 0x67 ∷ 0xb0 ∷ 0x56 ∷ 0x69 ∷ [])

abbrev steps : List Step
steps =
    times 1 (gives (given mode.Train 0 None 0 0 Waiting))
    ++ times 32 (gives (given mode.Abort 0 None 0 0 Waiting))
    ++ times 64 (gives (given mode.Abort 0 None 0 0 Waiting))
    ++ times 32 (gives (given mode.Abort 0 (Some wr32) 20 9 Waiting))
    ++ times 1 (does SenderEntry.ran)
    ++ times 32 (gives (given mode.Good 0 (Some wr32) 20 9 Waiting))
    ++ times 1 (gives (given mode.Good 0 (Some wr32) 2 9 Waiting))
    ++ times 1 (gives (given mode.Good 0 (Some wr32) 3 1 Waiting))
    ++ times 1 (does (SenderEntry.acknowledged 1))
    ++ times 1 (does SenderEntry.ran)
    ++ times 1 (gives (given mode.Good 0 (Some rd16) 20 7 Waiting))
    ++ times 1 (gives (given mode.Good 1 (Some rd16) 20 7 Waiting))
    ++ times 32 (gives (given mode.Good 1 (Some rd16) 20 7 Waiting))
    ++ times 2 (gives (given mode.Good 1 (Some rd16) 20 7 Waiting))
    ++ times 1 (gives (given mode.Good 3 (Some rd16) 20 7 Waiting))
    ++ times 1 (gives (given mode.Good 3 (Some rd16) 20 7 Waiting))
    ++ times 1 (gives (given mode.Good 3 None 0 0 Waiting))
    ++ times 1 (gives (given mode.Good 5 None 0 0 Waiting))
    ++ times 1 (gives (given mode.Good 5 None 0 0 Waiting))
    ++ times 1 (gives (given mode.Good 5 (Some wr256) 17 0 Waiting))
    ++ times 1 (does (SenderEntry.acknowledged 3))
    ++ times 17 (gives (given mode.Good 5 (Some wr256) 17 0 Waiting))
    ++ times 1 (gives (given mode.Good 5 (Some rd16) 20 7 Waiting))
    ++ times 1 (does SenderEntry.ran)
    ++ times 32 (gives (given mode.Good 5 (Some rd16) 20 7 Waiting))
    ++ times 17 (gives (given mode.Good 5 (Some rd16) 20 7 Waiting))
    ++ times 1 (gives (given mode.Good 6 (Some rd16) 20 7 Waiting))

abbrev expected : List Sent
expected =
    times 1 (Out training_flit what.Train)
    ++ times 32 (Out flit_1 what.Start)
    ++ times 64 (Out zero_flit what.Null)
    ++ times 32 (Out flit_1 what.Start)
    ++ times 32 (Out flit_2 what.Clear)
    ++ times 1 (Out flit_3 what.Tret)
    ++ times 1 (Out flit_4 what.New)
    ++ times 1 (Out flit_5 what.New)
    ++ times 1 (Out flit_6 what.New)
    ++ times 32 (Out flit_7 what.Clear)
    ++ times 1 (Out flit_4 what.Again)
    ++ times 1 (Out flit_5 what.Again)
    ++ times 1 (Out flit_8 what.Again)
    ++ times 1 (Out flit_9 what.New)
    ++ times 1 (Out zero_flit what.Null)
    ++ times 1 (Out flit_10 what.Pret)
    ++ times 2 (Out zero_flit what.Null)
    ++ times 1 (Out flit_11 what.New)
    ++ times 1 (Out flit_5 what.New)
    ++ times 1 (Out flit_12 what.New)
    ++ times 1 (Out flit_13 what.New)
    ++ times 1 (Out flit_14 what.New)
    ++ times 1 (Out flit_15 what.New)
    ++ times 1 (Out flit_16 what.New)
    ++ times 1 (Out flit_17 what.New)
    ++ times 1 (Out flit_18 what.New)
    ++ times 1 (Out flit_19 what.New)
    ++ times 1 (Out flit_20 what.New)
    ++ times 1 (Out flit_21 what.New)
    ++ times 1 (Out flit_22 what.New)
    ++ times 1 (Out flit_23 what.New)
    ++ times 1 (Out flit_24 what.New)
    ++ times 1 (Out flit_25 what.New)
    ++ times 1 (Out flit_26 what.New)
    ++ times 1 (Out zero_flit what.Null)
    ++ times 32 (Out flit_27 what.Clear)
    ++ times 1 (Out flit_11 what.Again)
    ++ times 1 (Out flit_5 what.Again)
    ++ times 1 (Out flit_12 what.Again)
    ++ times 1 (Out flit_13 what.Again)
    ++ times 1 (Out flit_14 what.Again)
    ++ times 1 (Out flit_15 what.Again)
    ++ times 1 (Out flit_16 what.Again)
    ++ times 1 (Out flit_17 what.Again)
    ++ times 1 (Out flit_18 what.Again)
    ++ times 1 (Out flit_19 what.Again)
    ++ times 1 (Out flit_20 what.Again)
    ++ times 1 (Out flit_21 what.Again)
    ++ times 1 (Out flit_22 what.Again)
    ++ times 1 (Out flit_23 what.Again)
    ++ times 1 (Out flit_24 what.Again)
    ++ times 1 (Out flit_25 what.Again)
    ++ times 1 (Out flit_26 what.Again)
    ++ times 1 (Out flit_28 what.Pret)

life : outs One 17 steps [] ≡ expected
unfolding outs choice view_after unfinished places acked clears starts go_back is_open others last_begun shown_pointer copy_of copied_packet flit_of code_for irtry_flit spelling flits_with bytes_of covered cut check_of half_bytes word_bytes header_word tail_word header_of packet_from named_by command_in fitting command_of all_commands table_line lng_of word_of half_of training_flit zero_flit crc_of remainder divide plus zeros divisor coefficients number_of bits_of bits_below xor
life = refl

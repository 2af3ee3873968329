-- Packets of profile Two, worked. The flits are those of models outside this repository.
use Rattle.std.proofs.Common.{◌≡◌, [], ◌∷◌, true, Ok, Err, refl, arith}
use mathlib.Core.Bool.{xor}
use Rattle.hmc_codes.specs.declared.profile.Profile.TheVariants.{One, Two}
use Rattle.hmc_codes.specs.Table.{table_line}
use Rattle.hmc_codes.specs.declared.command.Command.TheVariants.{Pret, Tret, Irtry, Rd64, Rd96, WrRs}
use Rattle.hmc_crc.specs.Bits.{bits_below, bits_of, number_of}
use Rattle.hmc_crc.specs.Remainder.{coefficients, divisor, zeros, plus, divide, remainder, crc_of}
use Rattle.hmc_packet.specs.declared.bad.Bad.TheVariants as bads
use Rattle.hmc_codes.specs.Codes.{all_commands, command_of}
use Rattle.hmc_packet.specs.Header.{header_word, header_of, header_is_clean}
use Rattle.hmc_packet.specs.Tail.{FitsField, tail_layout, tail_word, tail_is_clean, tail_of}
use Rattle.hmc_packet.specs.Packet.{null_packet}
use Rattle.hmc_packet.specs.Spelling.{word_bytes, half_bytes, covered, check_of, bytes_of, cut, flits_with, spelling}
use Rattle.hmc_codes.specs.Flit.{zero_flit}
use Rattle.hmc_packet.specs.Parts.{word_of, half_of, lng_of}
use Rattle.hmc_packet.specs.Reading.{is_null, is_null_alone, has_length, fitting, command_in, is_clean, poison_in, packet_from, seen_in, judgement_of, bytes_read, read_of}

-- tokens returned
spelling-tret : spelling Two (record null_packet { command = Tret; rtc = 5; seq = 1; frp = 1 }) 0 ≡ (0x82 ∷ 0 ∷ 0 ∷ 0 ∷ 0 ∷ 0 ∷ 0 ∷ 0 ∷ 0 ∷ 8 ∷ 0x40 ∷ 0xa0 ∷ 0x37 ∷ 0x85 ∷ 0x69 ∷ 0x90 ∷ []) ∷ []
unfolding spelling flits_with cut bytes_of covered check_of word_bytes half_bytes header_word tail_word table_line crc_of remainder divide plus zeros divisor coefficients bits_below bits_of number_of xor
spelling-tret = refl

-- the greatest return pointer
spelling-pret : spelling Two (record null_packet { command = Pret }) 2047 ≡ (0x81 ∷ 0 ∷ 0 ∷ 0 ∷ 0 ∷ 0 ∷ 0 ∷ 0 ∷ 0xff ∷ 7 ∷ 0 ∷ 0 ∷ 0x58 ∷ 0x70 ∷ 0x27 ∷ 0xce ∷ []) ∷ []
unfolding spelling flits_with cut bytes_of covered check_of word_bytes half_bytes header_word tail_word table_line crc_of remainder divide plus zeros divisor coefficients bits_below bits_of number_of xor
spelling-pret = refl

-- an IRTRY that clears
spelling-irtry : spelling Two (record null_packet { command = Irtry; frp = 2 }) 2047 ≡ (0x83 ∷ 0 ∷ 0 ∷ 0 ∷ 0 ∷ 0 ∷ 0 ∷ 0 ∷ 0xff ∷ 0x17 ∷ 0 ∷ 0 ∷ 0xf5 ∷ 0xd7 ∷ 0xb ∷ 0x82 ∷ []) ∷ []
unfolding spelling flits_with cut bytes_of covered check_of word_bytes half_bytes header_word tail_word table_line crc_of remainder divide plus zeros divisor coefficients bits_below bits_of number_of xor
spelling-irtry = refl

-- the greatest pointer of profile One
spelling-below : spelling Two (record null_packet { command = Rd64; tag = 640; address = 0x11f80a4e8; cube = 6; slid = 5; rtc = 2; seq = 3; frp = 511 }) 600 ≡ (0xb3 ∷ 0 ∷ 0x28 ∷ 0xe8 ∷ 0xa4 ∷ 0x80 ∷ 0x1f ∷ 0xc1 ∷ 0x58 ∷ 0xfa ∷ 0xcf ∷ 0x4a ∷ 0x4b ∷ 0xf8 ∷ 0xee ∷ 0xeb ∷ []) ∷ []
unfolding spelling flits_with cut bytes_of covered check_of word_bytes half_bytes header_word tail_word table_line crc_of remainder divide plus zeros divisor coefficients bits_below bits_of number_of xor
spelling-below = refl

-- the first pointer that profile One has not
spelling-at : spelling Two (record null_packet { command = Rd96; tag = 1870; address = 0x831ef5c3; cube = 3; slid = 7; rtc = 2; seq = 3; frp = 512 }) 2047 ≡ (0xb5 ∷ 0xe0 ∷ 0x74 ∷ 0xc3 ∷ 0xf5 ∷ 0x1e ∷ 0x83 ∷ 0x60 ∷ 0xff ∷ 7 ∷ 0xd0 ∷ 0x4e ∷ 0x62 ∷ 0x68 ∷ 0xad ∷ 0x50 ∷ []) ∷ []
unfolding spelling flits_with cut bytes_of covered check_of word_bytes half_bytes header_word tail_word table_line crc_of remainder divide plus zeros divisor coefficients bits_below bits_of number_of xor
spelling-at = refl

-- a response: its error number has three bits
spelling-response : spelling Two (record null_packet { command = WrRs; tag = 964; cube = 6; slid = 6; flag = true; errstat = 6; rtc = 1; seq = 6; frp = 1995 }) 2047 ≡ (0xb9 ∷ 0x40 ∷ 0x3c ∷ 0 ∷ 2 ∷ 3 ∷ 0 ∷ 0xc0 ∷ 0xff ∷ 0x5f ∷ 0xbe ∷ 0x2d ∷ 0xe ∷ 5 ∷ 0xd3 ∷ 0xb6 ∷ []) ∷ []
unfolding spelling flits_with cut bytes_of covered check_of word_bytes half_bytes header_word tail_word table_line crc_of remainder divide plus zeros divisor coefficients bits_below bits_of number_of xor
spelling-response = refl

-- bit 28 of a response has no field in profile Two
read_of-bit_28 : read_of Two ((0xb9 ∷ 0x50 ∷ 0 ∷ 0 ∷ 0x82 ∷ 0 ∷ 0 ∷ 0x40 ∷ 0 ∷ 0 ∷ 0 ∷ 0x10 ∷ 0x16 ∷ 0x10 ∷ 0xe0 ∷ 0x56 ∷ []) ∷ []) ≡ Err bads.Reserved
unfolding read_of is_null_alone is_null zero_flit has_length lng_of word_of half_of bytes_read judgement_of command_in fitting all_commands command_of table_line is_clean header_is_clean tail_is_clean tail_word tail_of header_of seen_in poison_in packet_from crc_of remainder divide plus zeros divisor coefficients bits_below bits_of number_of xor
read_of-bit_28 = refl

-- in profile One it is the greatest of the error number
read_of-bit_28_in_one : read_of One ((0xb9 ∷ 0x50 ∷ 0 ∷ 0 ∷ 0x82 ∷ 0 ∷ 0 ∷ 0x40 ∷ 0 ∷ 0 ∷ 0 ∷ 0x10 ∷ 0x16 ∷ 0x10 ∷ 0xe0 ∷ 0x56 ∷ []) ∷ []) ≡ Ok (record { packet = record null_packet { command = WrRs; tag = 5; cube = 2; slid = 1; flag = true; errstat = 64 }; rrp = 0 })
unfolding read_of is_null_alone is_null zero_flit has_length lng_of word_of half_of bytes_read judgement_of command_in fitting all_commands command_of table_line is_clean header_is_clean tail_is_clean tail_word tail_of header_of seen_in poison_in packet_from crc_of remainder divide plus zeros divisor coefficients bits_below bits_of number_of xor
read_of-bit_28_in_one = refl

-- seven ones are no error number of profile Two, and 512 is no pointer of profile One
errstat-127 : ¬ FitsField (tail_layout Two).errstat 127
errstat-127 fits = omega (arith, fits)

pointer-512 : ¬ FitsField (tail_layout One).frp 512
pointer-512 fits = omega (arith, fits)

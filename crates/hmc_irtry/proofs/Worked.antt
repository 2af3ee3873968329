-- IRTRYs, runs, training and bursts, worked.
use Rattle.std.proofs.Common.{◌≡◌, ℕ, true, false, [], ◌∷◌, Some, None, refl}
use mathlib.Core.Bool.{xor}
use Rattle.hmc_codes.specs.declared.profile.Profile.TheVariants.{One, Two}
use Rattle.hmc_codes.specs.Codes.{all_commands, command_of}
use Rattle.hmc_codes.specs.Flit.{zero_flit}
use Rattle.hmc_codes.specs.Table.{table_line}
use Rattle.hmc_crc.specs.Bits.{bits_below, bits_of, number_of}
use Rattle.hmc_crc.specs.Remainder.{coefficients, divisor, zeros, plus, divide, remainder, crc_of}
use Rattle.hmc_packet.specs.declared.kind.Kind.{Kind}
use Rattle.hmc_packet.specs.declared.kind.Kind.TheVariants.{Start, Clear}
use Rattle.hmc_packet.specs.Header.{header_word, header_of, header_is_clean}
use Rattle.hmc_packet.specs.Irtry.{irtry_flit, irtry_in}
use Rattle.hmc_packet.specs.Parts.{word_of, half_of, lng_of}
use Rattle.hmc_packet.specs.Reading.{is_null, is_null_alone, has_length, fitting, command_in, is_clean, poison_in, packet_from, seen_in, judgement_of, bytes_read, read_of}
use Rattle.hmc_packet.specs.Spelling.{word_bytes, half_bytes, covered, check_of, bytes_of, cut, flits_with, spelling}
use Rattle.hmc_packet.specs.Tail.{tail_word, tail_is_clean, tail_of}
use Rattle.hmc_irtry.specs.Burst.{empty_burst, is_empty, next_of}
use Rattle.hmc_irtry.specs.declared.runs.Counted.TheVariants.{Below, Now, After}
use Rattle.hmc_irtry.specs.Runs.{RunFields, after_seen, counted_of}
use Rattle.hmc_irtry.specs.Train.{TrainFields, after_flit, ends_training}

-- the flits are those of a model outside this repository
flit-start : irtry_flit One Start 0 ≡ (0x83 ∷ 0 ∷ 0 ∷ 0 ∷ 0 ∷ 0 ∷ 0 ∷ 0 ∷ 0 ∷ 2 ∷ 0 ∷ 0 ∷ 0x32 ∷ 0xda ∷ 0x95 ∷ 0xa5 ∷ [])
unfolding irtry_flit spelling flits_with cut bytes_of covered check_of word_bytes half_bytes header_word tail_word table_line crc_of remainder divide plus zeros divisor coefficients bits_below bits_of number_of xor
flit-start = refl

flit-clear : irtry_flit Two Clear 2047 ≡ (0x83 ∷ 0 ∷ 0 ∷ 0 ∷ 0 ∷ 0 ∷ 0 ∷ 0 ∷ 0xff ∷ 0x17 ∷ 0 ∷ 0 ∷ 0xf5 ∷ 0xd7 ∷ 0xb ∷ 0x82 ∷ [])
unfolding irtry_flit spelling flits_with cut bytes_of covered check_of word_bytes half_bytes header_word tail_word table_line crc_of remainder divide plus zeros divisor coefficients bits_below bits_of number_of xor
flit-clear = refl

found-start : irtry_in One (0x83 ∷ 0 ∷ 0 ∷ 0 ∷ 0 ∷ 0 ∷ 0 ∷ 0 ∷ 0 ∷ 2 ∷ 0 ∷ 0 ∷ 0x32 ∷ 0xda ∷ 0x95 ∷ 0xa5 ∷ []) ≡ Some (Start, 0)
unfolding irtry_in read_of is_null_alone is_null zero_flit has_length lng_of word_of half_of bytes_read judgement_of command_in fitting all_commands command_of table_line is_clean header_is_clean tail_is_clean tail_word tail_of header_of seen_in poison_in packet_from crc_of remainder divide plus zeros divisor coefficients bits_below bits_of number_of xor
found-start = refl

found-clear : irtry_in Two (0x83 ∷ 0 ∷ 0 ∷ 0 ∷ 0 ∷ 0 ∷ 0 ∷ 0 ∷ 0xff ∷ 0x17 ∷ 0 ∷ 0 ∷ 0xf5 ∷ 0xd7 ∷ 0xb ∷ 0x82 ∷ []) ≡ Some (Clear, 2047)
unfolding irtry_in read_of is_null_alone is_null zero_flit has_length lng_of word_of half_of bytes_read judgement_of command_in fitting all_commands command_of table_line is_clean header_is_clean tail_is_clean tail_word tail_of header_of seen_in poison_in packet_from crc_of remainder divide plus zeros divisor coefficients bits_below bits_of number_of xor
found-clear = refl

-- one whose check is changed is none, nor is a NULL
found-changed : irtry_in One (0x83 ∷ 0 ∷ 0 ∷ 0 ∷ 0 ∷ 0 ∷ 0 ∷ 0 ∷ 0 ∷ 2 ∷ 0 ∷ 0 ∷ 0x32 ∷ 0xda ∷ 0x95 ∷ 0xa4 ∷ []) ≡ None
unfolding irtry_in read_of is_null_alone is_null zero_flit has_length lng_of word_of half_of bytes_read judgement_of command_in fitting all_commands command_of table_line is_clean header_is_clean tail_is_clean tail_word tail_of header_of seen_in poison_in packet_from crc_of remainder divide plus zeros divisor coefficients bits_below bits_of number_of xor
found-changed = refl

found-null : irtry_in One zero_flit ≡ None
unfolding irtry_in read_of is_null_alone is_null zero_flit has_length lng_of word_of half_of bytes_read judgement_of command_in fitting all_commands command_of table_line is_clean header_is_clean tail_is_clean tail_word tail_of header_of seen_in poison_in packet_from crc_of remainder divide plus zeros divisor coefficients bits_below bits_of number_of xor
found-null = refl

-- so many of a kind in a row
abbrev run : Kind → ℕ → RunFields
run kind count = record { kind = kind; count = count }

-- the 23rd is below, the 24th is the one, and the 25th comes after it
counted-23 : counted_of (Some (Start, 7)) (run Start 22) ≡ Below
counted-23 = refl

counted-24 : counted_of (Some (Start, 7)) (run Start 23) ≡ Now
counted-24 = refl

counted-25 : counted_of (Some (Start, 7)) (run Start 24) ≡ After
counted-25 = refl

left-25 : after_seen (Some (Start, 7)) (run Start 24) ≡ run Start 24
left-25 = refl

-- any other flit ends a run, and one of the other kind begins its own
left-null : after_seen None (run Start 23) ≡ run Start 0
left-null = refl

left-other : after_seen (Some (Clear, 7)) (run Start 23) ≡ run Clear 1
left-other = refl

counted-other : counted_of (Some (Clear, 7)) (run Start 23) ≡ Below
counted-other = refl

abbrev train : ℕ → TrainFields
train count = record { profile = One; count = count }

-- the eighth training flit in a row ends training, and neither the seventh nor the ninth
ends-7 : ends_training true (train 6) ≡ false
ends-7 = refl

ends-8 : ends_training true (train 7) ≡ true
ends-8 = refl

ends-9 : ends_training true (train 8) ≡ false
ends-9 = refl

-- another flit begins the count anew
left-untrained : after_flit false (train 7) ≡ train 0
left-untrained = refl

-- a burst gives 32, and then none
next-first : next_of Start 32 ≡ Some Start
next-first = refl

next-last : next_of Clear 1 ≡ Some Clear
next-last = refl

next-none : next_of Clear 0 ≡ None
next-none = refl

-- one that is empty gives none, and one with a single IRTRY left isn't empty
next-empty : next_of empty_burst.kind empty_burst.left ≡ None
next-empty = refl

empty-none : is_empty empty_burst ≡ true
empty-none = refl

empty-one : is_empty (record { kind = Start; left = 1 }) ≡ false
empty-one = refl

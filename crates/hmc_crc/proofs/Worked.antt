-- The definition computed, apart from the code: the divisor as a number, the checks of zeros and of
-- the three lowest bits, worked by hand, and checks that a stock CRC library gave.
use Rattle.std.proofs.Common.{◌≡◌, [], ◌∷◌, refl}
use mathlib.Core.Bool.{xor}
use Rattle.hmc_crc.specs.Bits.{bits_below, bits_of, number_of}
use Rattle.hmc_crc.specs.Remainder.{coefficients, divisor, zeros, plus, divide, remainder, crc_of, crc_update}

pub number_of-divisor : number_of divisor ≡ 0x741B_8CD7
unfolding divisor coefficients number_of
number_of-divisor = refl

pub crc_of_nothing : crc_of [] ≡ 0
unfolding crc_of remainder divide plus zeros divisor coefficients bits_of bits_below number_of xor
crc_of_nothing = refl

pub crc_of_zeros : crc_of (
    0x00 ∷ 0x00 ∷ 0x00 ∷ 0x00 ∷ 0x00 ∷ 0x00 ∷ 0x00 ∷ 0x00 ∷ 0x00 ∷ 0x00 ∷ 0x00 ∷ 0x00 ∷ []
    ) ≡ 0
unfolding crc_of remainder divide plus zeros divisor coefficients bits_of bits_below number_of xor
crc_of_zeros = refl

pub crc_of_lowest_bit : crc_of (
    0x00 ∷ 0x00 ∷ 0x00 ∷ 0x00 ∷ 0x00 ∷ 0x00 ∷ 0x00 ∷ 0x00 ∷ 0x00 ∷ 0x00 ∷ 0x00 ∷ 0x01 ∷ []
    ) ≡ 0x741B_8CD7
unfolding crc_of remainder divide plus zeros divisor coefficients bits_of bits_below number_of xor
crc_of_lowest_bit = refl

pub crc_of_second_bit : crc_of (
    0x00 ∷ 0x00 ∷ 0x00 ∷ 0x00 ∷ 0x00 ∷ 0x00 ∷ 0x00 ∷ 0x00 ∷ 0x00 ∷ 0x00 ∷ 0x00 ∷ 0x02 ∷ []
    ) ≡ 0xE837_19AE
unfolding crc_of remainder divide plus zeros divisor coefficients bits_of bits_below number_of xor
crc_of_second_bit = refl

pub crc_of_third_bit : crc_of (
    0x00 ∷ 0x00 ∷ 0x00 ∷ 0x00 ∷ 0x00 ∷ 0x00 ∷ 0x00 ∷ 0x00 ∷ 0x00 ∷ 0x00 ∷ 0x00 ∷ 0x04 ∷ []
    ) ≡ 0xA475_BF8B
unfolding crc_of remainder divide plus zeros divisor coefficients bits_of bits_below number_of xor
crc_of_third_bit = refl

pub crc_of_byte : crc_of (0xa5 ∷ []) ≡ 0x708E_5531
unfolding crc_of remainder divide plus zeros divisor coefficients bits_of bits_below number_of xor
crc_of_byte = refl

pub crc_of_two_bytes : crc_of (0xca ∷ 0x18 ∷ []) ≡ 0xE0D4_954A
unfolding crc_of remainder divide plus zeros divisor coefficients bits_of bits_below number_of xor
crc_of_two_bytes = refl

pub crc_of_seven_bytes : crc_of (0x7b ∷ 0x2e ∷ 0xd9 ∷ 0x1e ∷ 0x3f ∷ 0x72 ∷ 0x1f ∷ []) ≡ 0x5CD7_9DBF
unfolding crc_of remainder divide plus zeros divisor coefficients bits_of bits_below number_of xor
crc_of_seven_bytes = refl

pub crc_of_sixteen_bytes : crc_of (
    0xb5 ∷ 0x56 ∷ 0x3b ∷ 0xfc ∷ 0x1e ∷ 0x6f ∷ 0x93 ∷ 0x42 ∷ 0x7e ∷ 0xcb ∷ 0xc8 ∷ 0xfe ∷
    0x29 ∷ 0x55 ∷ 0xe5 ∷ 0xcd ∷ []
    ) ≡ 0xF756_3C6E
unfolding crc_of remainder divide plus zeros divisor coefficients bits_of bits_below number_of xor
crc_of_sixteen_bytes = refl

pub crc_of_sixty_bytes : crc_of (
    0xc9 ∷ 0x35 ∷ 0xf6 ∷ 0xcd ∷ 0x1f ∷ 0x61 ∷ 0x22 ∷ 0x6a ∷ 0xe1 ∷ 0x53 ∷ 0x38 ∷ 0xae ∷
    0x1a ∷ 0x34 ∷ 0x00 ∷ 0x4d ∷ 0x33 ∷ 0xba ∷ 0x0d ∷ 0x24 ∷ 0x6a ∷ 0xc0 ∷ 0x4c ∷ 0x81 ∷
    0xb1 ∷ 0xba ∷ 0xf2 ∷ 0x3e ∷ 0x3b ∷ 0xf9 ∷ 0xee ∷ 0xf5 ∷ 0xf7 ∷ 0x9f ∷ 0x2b ∷ 0x49 ∷
    0x34 ∷ 0xaf ∷ 0x87 ∷ 0xf5 ∷ 0x52 ∷ 0x0b ∷ 0x69 ∷ 0xb9 ∷ 0x4b ∷ 0x0d ∷ 0x98 ∷ 0x2e ∷
    0x85 ∷ 0xbb ∷ 0x55 ∷ 0xb6 ∷ 0x72 ∷ 0xa8 ∷ 0x72 ∷ 0x63 ∷ 0x7a ∷ 0xcd ∷ 0x74 ∷ 0x66 ∷ []
    ) ≡ 0x5EE3_CF2F
unfolding crc_of remainder divide plus zeros divisor coefficients bits_of bits_below number_of xor
crc_of_sixty_bytes = refl

-- checks that go on over more bytes
pub crc_update_by_nothing : crc_update 0xFFFF_FFFF [] ≡ 0xFFFF_FFFF
unfolding crc_update divide plus zeros divisor coefficients bits_of bits_below number_of xor
crc_update_by_nothing = refl

pub crc_update_by_zeros : crc_update 0 (0x00 ∷ 0x00 ∷ 0x00 ∷ 0x00 ∷ []) ≡ 0
unfolding crc_update divide plus zeros divisor coefficients bits_of bits_below number_of xor
crc_update_by_zeros = refl

pub crc_update_by_three_bytes : crc_update 0xE0D4_954A (0x7b ∷ 0x2e ∷ 0xd9 ∷ []) ≡ 0xEF29_2D67
unfolding crc_update divide plus zeros divisor coefficients bits_of bits_below number_of xor
crc_update_by_three_bytes = refl

pub crc_of_five_bytes : crc_of (0xca ∷ 0x18 ∷ 0x7b ∷ 0x2e ∷ 0xd9 ∷ []) ≡ 0xEF29_2D67
unfolding crc_of remainder divide plus zeros divisor coefficients bits_of bits_below number_of xor
crc_of_five_bytes = refl

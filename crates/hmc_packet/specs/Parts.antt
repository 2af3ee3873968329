-- The parts of a packet's bytes, and the numbers that they spell.
use Rattle.std.specs.Prelude.{◌-◌, ℕ, List, length, take, drop}
use Rattle.std.specs.Int.{w32, w64, from_le_bytes}
use Rattle.hmc_packet.specs.Bits.{bits_from}

-- the number of eight bytes, the lowest first
unfoldable pub word_of : List ℕ → ℕ
word_of bytes = from_le_bytes w64 bytes

-- the number of four bytes
unfoldable pub half_of : List ℕ → ℕ
half_of bytes = from_le_bytes w32 bytes

-- Of the bytes of a packet, of which there are at least 16, the first eight: the header.
abbrev pub header_in : List ℕ → ℕ
header_in bytes = word_of (take 8 bytes)

-- all but the first eight and the last eight: the payload
abbrev pub payload_in : List ℕ → List ℕ
payload_in bytes = take (length bytes - 16) (drop 8 bytes)

-- the first four of the last eight: the tail's fields
abbrev pub tail_in : List ℕ → ℕ
tail_in bytes = half_of (take 4 (drop (length bytes - 8) bytes))

-- the last four: the check
abbrev pub check_in : List ℕ → ℕ
check_in bytes = half_of (drop (length bytes - 4) bytes)

-- all bytes but the check
abbrev pub covered_in : List ℕ → List ℕ
covered_in bytes = take (length bytes - 4) bytes

-- the length in flits that a packet's first flit names
unfoldable pub lng_of : List ℕ → ℕ
lng_of flit = bits_from 7 5 (header_in flit)

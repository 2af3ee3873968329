-- What is spelled of a packet before its return pointer is known.
use Rattle.std.specs.Prelude.{ℕ, List, ◌++◌}
use Rattle.hmc_codes.specs.declared.profile.Profile.{Profile}
use Rattle.hmc_codes.specs.Commands.{layout_of}
use Rattle.hmc_crc.specs.Remainder.{crc_of}
use Rattle.hmc_packet.specs.declared.draft.Draft.{Draft}
use Rattle.hmc_packet.specs.Header.{header_word}
use Rattle.hmc_packet.specs.Tail.{tail_word}
use Rattle.hmc_packet.specs.Packet.{PacketFields}
use Rattle.hmc_packet.specs.Spelling.{header_fields, tail_fields, word_bytes, half_bytes}

-- the word of its header
abbrev pub header_of_packet : PacketFields → ℕ
header_of_packet p = header_word (layout_of p.command) (header_fields p)

-- the bytes before the tail
unfoldable pub front_bytes : PacketFields → List ℕ
front_bytes p = word_bytes (header_of_packet p) ++ p.payload

-- the four bytes of its tail, which the check follows
unfoldable pub tail_of_packet : Profile → PacketFields → (rrp : ℕ) → List ℕ
tail_of_packet profile p rrp =
    half_bytes (tail_word profile (layout_of p.command) (tail_fields p rrp))

-- the word of its header, and the check of all bytes before the tail
unfoldable pub draft_of : PacketFields → Draft
draft_of p = record { header = header_of_packet p; check = crc_of (front_bytes p) }

-- Definitions worked at packets of one or two flits.
use Rattle.std.proofs.Common.{◌≡◌, ℕ, List, [], ◌∷◌, true, false, Some, None, Err, refl}
use mathlib.Core.Bool.{xor}
use Rattle.hmc_codes.specs.declared.profile.Profile.TheVariants.{One}
use Rattle.hmc_codes.specs.Table.{table_line}
use Rattle.hmc_codes.specs.declared.command.Command.TheVariants.{Irtry, Rd16, Mdwr, MdRdRs, MdWrRs}
use Rattle.hmc_codes.specs.declared.answer.Answer.TheVariants.{Done, Register, Stored, Refused}
use Rattle.hmc_crc.specs.Bits.{bits_below, bits_of, number_of}
use Rattle.hmc_crc.specs.Remainder.{coefficients, divisor, zeros, plus, divide, remainder, crc_of}
use Rattle.hmc_packet.specs.declared.bad.Bad.TheVariants as bads
use Rattle.hmc_codes.specs.Codes.{all_commands, command_of}
use Rattle.hmc_packet.specs.Header.{header_word, header_of, header_is_clean}
use Rattle.hmc_packet.specs.Tail.{tail_word, tail_is_clean, tail_of}
use Rattle.hmc_packet.specs.Packet.{null_packet}
use Rattle.hmc_packet.specs.Spelling.{word_bytes, half_bytes, covered, check_of, bytes_of, cut, flits_with, spelling}
use Rattle.hmc_codes.specs.Flit.{zero_flit}
use Rattle.hmc_packet.specs.Parts.{word_of, half_of, lng_of}
use Rattle.hmc_packet.specs.Reading.{is_null, is_null_alone, has_length, fitting, command_in, is_clean, poison_in, packet_from, judgement_of, bytes_read, read_of}
use Rattle.hmc_packet.specs.Transactions.{with_zeros, reply_packet, payload_of, request_in, answer_by, answer_in}
use Rattle.hmc_packet.specs.Draft.{front_bytes, draft_of}
use Rattle.hmc_packet.specs.Copy.{copied_packet}
use Rattle.hmc_packet.specs.Head.{named_by, head_with, head_in}

-- an IRTRY that asks the other end to begin again
spelling-start : spelling One (record null_packet { command = Irtry; frp = 1 }) 0 ≡ (0x83 ∷ 0 ∷ 0 ∷ 0 ∷ 0 ∷ 0 ∷ 0 ∷ 0 ∷ 0 ∷ 2 ∷ 0 ∷ 0 ∷ 0x32 ∷ 0xda ∷ 0x95 ∷ 0xa5 ∷ []) ∷ []
unfolding spelling flits_with cut bytes_of covered check_of word_bytes half_bytes header_word tail_word table_line crc_of remainder divide plus zeros divisor coefficients bits_below bits_of number_of xor
spelling-start = refl

-- a poisoned request
spelling-poisoned : spelling One (record null_packet { command = Rd16; address = 0x40; seq = 1; frp = 1; poisoned = true }) 0 ≡ (0xb0 ∷ 0 ∷ 0 ∷ 0x40 ∷ 0 ∷ 0 ∷ 0 ∷ 0 ∷ 0 ∷ 2 ∷ 4 ∷ 0 ∷ 0xf2 ∷ 0xd1 ∷ 0x1f ∷ 0x66 ∷ []) ∷ []
unfolding spelling flits_with cut bytes_of covered check_of word_bytes half_bytes header_word tail_word table_line crc_of remainder divide plus zeros divisor coefficients bits_below bits_of number_of xor
spelling-poisoned = refl

-- the last bits of a check are changed
read_of-changed : read_of One ((0x83 ∷ 0 ∷ 0 ∷ 0 ∷ 0 ∷ 0 ∷ 0 ∷ 0 ∷ 0 ∷ 2 ∷ 0 ∷ 0 ∷ 0x32 ∷ 0xda ∷ 0x95 ∷ 0xa4 ∷ []) ∷ []) ≡ Err bads.Crc
unfolding read_of is_null_alone is_null zero_flit has_length lng_of word_of half_of bytes_read judgement_of command_in fitting all_commands command_of table_line is_clean header_is_clean tail_is_clean tail_word tail_of poison_in crc_of remainder divide plus zeros divisor coefficients bits_below bits_of number_of xor
read_of-changed = refl

-- the value of a register as an answer, under tag 5 from cube 2 to host link 1
reply_packet-register : spelling One (reply_packet (Register 0x12345678) 5 1 2) 0 ≡ (0x3a ∷ 0x51 ∷ 0 ∷ 0 ∷ 0x80 ∷ 0 ∷ 0 ∷ 0x40 ∷ 0x78 ∷ 0x56 ∷ 0x34 ∷ 0x12 ∷ 0 ∷ 0 ∷ 0 ∷ 0 ∷ []) ∷ (0 ∷ 0 ∷ 0 ∷ 0 ∷ 0 ∷ 0 ∷ 0 ∷ 0 ∷ 0 ∷ 0 ∷ 0 ∷ 0 ∷ 0 ∷ 0x39 ∷ 0x4a ∷ 0x73 ∷ []) ∷ []
unfolding reply_packet with_zeros spelling flits_with cut bytes_of covered check_of word_bytes half_bytes header_word tail_word table_line crc_of remainder divide plus zeros divisor coefficients bits_below bits_of number_of xor
reply_packet-register = refl

-- a flag without bytes
reply_packet-done : spelling One (reply_packet (Done true) 5 1 2) 0 ≡ (0xb9 ∷ 0x50 ∷ 0 ∷ 0 ∷ 0x82 ∷ 0 ∷ 0 ∷ 0x40 ∷ 0 ∷ 0 ∷ 0 ∷ 0 ∷ 0x94 ∷ 0xf7 ∷ 0x01 ∷ 0x2f ∷ []) ∷ []
unfolding reply_packet spelling flits_with cut bytes_of covered check_of word_bytes half_bytes header_word tail_word table_line crc_of remainder divide plus zeros divisor coefficients bits_below bits_of number_of xor
reply_packet-done = refl

-- an error
reply_packet-refused : spelling One (reply_packet (Refused 6) 5 1 2) 0 ≡ (0xbe ∷ 0x50 ∷ 0 ∷ 0 ∷ 0x80 ∷ 0 ∷ 0 ∷ 0x40 ∷ 0 ∷ 0 ∷ 0x80 ∷ 0x01 ∷ 0xcf ∷ 0x79 ∷ 0xcc ∷ 0x79 ∷ []) ∷ []
unfolding reply_packet spelling flits_with cut bytes_of covered check_of word_bytes half_bytes header_word tail_word table_line crc_of remainder divide plus zeros divisor coefficients bits_below bits_of number_of xor
reply_packet-refused = refl

-- a register that was written, at the other ends of the ranges
reply_packet-stored : spelling One (reply_packet Stored 2047 7 7) 0 ≡ (0xbb ∷ 0xf0 ∷ 0x7f ∷ 0 ∷ 0x80 ∷ 0x03 ∷ 0 ∷ 0xe0 ∷ 0 ∷ 0 ∷ 0 ∷ 0 ∷ 0x53 ∷ 0x9c ∷ 0x9e ∷ 0x7d ∷ []) ∷ []
unfolding reply_packet spelling flits_with cut bytes_of covered check_of word_bytes half_bytes header_word tail_word table_line crc_of remainder divide plus zeros divisor coefficients bits_below bits_of number_of xor
reply_packet-stored = refl

-- of the payload of an mdwr the first four bytes count
abbrev sixteen : List ℕ
sixteen = 0xef ∷ 0xbe ∷ 0xad ∷ 0xde ∷ 1 ∷ 2 ∷ 3 ∷ 4 ∷ 5 ∷ 6 ∷ 7 ∷ 8 ∷ 9 ∷ 10 ∷ 11 ∷ 12 ∷ []

request_in-mdwr : request_in (record null_packet { command = Mdwr; tag = 9; address = 4; cube = 3; slid = 6; payload = sixteen }) ≡ Some (record { command = Mdwr; cube = 3; address = 4; payload = 0xef ∷ 0xbe ∷ 0xad ∷ 0xde ∷ 0 ∷ 0 ∷ 0 ∷ 0 ∷ 0 ∷ 0 ∷ 0 ∷ 0 ∷ 0 ∷ 0 ∷ 0 ∷ 0 ∷ [] })
unfolding request_in payload_of with_zeros table_line
request_in-mdwr = refl

-- and of the payload of its answer too
answer_in-register : answer_in (record null_packet { command = MdRdRs; errstat = 3; payload = sixteen }) ≡ Some (Register 0xdeadbeef)
unfolding answer_in answer_by half_of
answer_in-register = refl

-- a response is no request, and a request no answer
request_in-response : request_in (record null_packet { command = MdWrRs }) ≡ None
unfolding request_in table_line
request_in-response = refl

answer_in-request : answer_in (record null_packet { command = Rd16 }) ≡ None
unfolding answer_in answer_by
answer_in-request = refl

-- the first flit of the answer above, and the same with a reserved bit
head_in-response : head_in (0x3a ∷ 0x51 ∷ 0 ∷ 0 ∷ 0x80 ∷ 0 ∷ 0 ∷ 0x40 ∷ 0x78 ∷ 0x56 ∷ 0x34 ∷ 0x12 ∷ 0 ∷ 0 ∷ 0 ∷ 0 ∷ []) ≡ Some (record { command = MdRdRs; flits = 2; cube = 2; slid = 1 })
unfolding head_in named_by head_with header_of header_is_clean word_of half_of command_in fitting all_commands command_of table_line
head_in-response = refl

head_in-reserved : head_in (0x3a ∷ 0x51 ∷ 0x80 ∷ 0 ∷ 0x80 ∷ 0 ∷ 0 ∷ 0x40 ∷ 0x78 ∷ 0x56 ∷ 0x34 ∷ 0x12 ∷ 0 ∷ 0 ∷ 0 ∷ 0 ∷ []) ≡ None
unfolding head_in named_by head_with header_of header_is_clean word_of half_of command_in fitting all_commands command_of table_line
head_in-reserved = refl

-- a request's SLID stands in its tail, and a flow packet has no head
head_in-request : head_in (0xb0 ∷ 0 ∷ 0 ∷ 0x40 ∷ 0 ∷ 0 ∷ 0 ∷ 0x60 ∷ 0 ∷ 2 ∷ 4 ∷ 0x18 ∷ 0 ∷ 0 ∷ 0 ∷ 0 ∷ []) ≡ Some (record { command = Rd16; flits = 1; cube = 3; slid = 0 })
unfolding head_in named_by head_with header_of header_is_clean word_of half_of command_in fitting all_commands command_of table_line
head_in-request = refl

head_in-irtry : head_in (0x83 ∷ 0 ∷ 0 ∷ 0 ∷ 0 ∷ 0 ∷ 0 ∷ 0 ∷ 0 ∷ 2 ∷ 0 ∷ 0 ∷ 0x32 ∷ 0xda ∷ 0x95 ∷ 0xa5 ∷ []) ≡ None
unfolding head_in named_by head_with header_of header_is_clean word_of half_of command_in fitting all_commands command_of table_line
head_in-irtry = refl

-- drafts: a request without payload, whose poison counts in the last flit alone, and an answer
draft_of-request : draft_of (record null_packet { command = Rd16; address = 0x40; seq = 1; frp = 1; poisoned = true }) ≡ record { header = 0x400000b0; check = 0x0862d8a5 }
unfolding draft_of front_bytes word_bytes header_word table_line crc_of remainder divide plus zeros divisor coefficients bits_below bits_of number_of xor
draft_of-request = refl

draft_of-register : draft_of (reply_packet (Register 0x12345678) 5 1 2) ≡ record { header = 0x400000800000513a; check = 0x019bc8ce }
unfolding draft_of front_bytes reply_packet with_zeros half_bytes word_bytes header_word table_line crc_of remainder divide plus zeros divisor coefficients bits_below bits_of number_of xor
draft_of-register = refl

-- the copy of this answer with other numbers, where it was not accepted; the SLID of a tail is no answer's
copied-register : copied_packet MdRdRs (0x3a ∷ 0x51 ∷ 0 ∷ 0 ∷ 0x80 ∷ 0 ∷ 0 ∷ 0x40 ∷ 0x78 ∷ 0x56 ∷ 0x34 ∷ 0x12 ∷ 0 ∷ 0 ∷ 0 ∷ 0 ∷ 0 ∷ 0 ∷ 0 ∷ 0 ∷ 0 ∷ 0 ∷ 0 ∷ 0 ∷ []) (record { rrp = 0; frp = 7; seq = 2; slid = 6; errstat = 3; rtc = 1 }) false ≡
    record null_packet { command = MdRdRs; tag = 5; cube = 2; slid = 1; errstat = 3; rtc = 1; seq = 2; frp = 7; poisoned = true; payload = 0x78 ∷ 0x56 ∷ 0x34 ∷ 0x12 ∷ 0 ∷ 0 ∷ 0 ∷ 0 ∷ 0 ∷ 0 ∷ 0 ∷ 0 ∷ 0 ∷ 0 ∷ 0 ∷ 0 ∷ [] }
unfolding copied_packet packet_from header_of word_of table_line
copied-register = refl

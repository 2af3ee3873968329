-- Definitions computed at a read of one flit and a write of two.
use Rattle.std.proofs.Common.{◌≡◌, [], ◌∷◌, true, false, refl}
use Rattle.std.specs.Prelude.{map, replicate}
use Rattle.hmc_codes.specs.declared.command.Command.TheVariants.{Rd16, Wr16}
use Rattle.hmc_packet.specs.Packet.{PacketFields, flits_of, null_packet}
use Rattle.hmc_tokens.specs.declared.moving.Moved.TheVariants.{Empty, Full, Done}
use Rattle.hmc_tokens.specs.Intake.{has_room}
use Rattle.hmc_tokens.specs.Moving.{moved_by, moved_packets}
use Rattle.hmc_tokens.specs.Queue.{one}
use Rattle.hmc_tokens.specs.Account.{tokens_of_code, code_for, opening_account}

abbrev read : PacketFields
read = record null_packet { command = Rd16 }

abbrev write : PacketFields
write = record null_packet { command = Wr16; payload = replicate 16 0 }

-- beside three flits a write has room in five, and beside two packets in three
has_room-flits : map (λ size. has_room (read ∷ write ∷ []) size flits_of write) (4 ∷ 5 ∷ 6 ∷ []) ≡ false ∷ true ∷ true ∷ []
has_room-flits = refl

has_room-packets : map (λ size. has_room (read ∷ write ∷ []) size one write) (2 ∷ 3 ∷ []) ≡ false ∷ true ∷ []
has_room-packets = refl

-- nothing is there, also where there is no room; the front alone counts
moved_by-empty : moved_by [] (has_room (read ∷ []) 1 one) ≡ Empty
moved_by-empty = refl

moved_by-buffer : map (λ size. moved_by (write ∷ read ∷ []) (has_room (read ∷ []) size flits_of)) (2 ∷ 3 ∷ []) ≡ Full ∷ Done write ∷ []
moved_by-buffer = refl

moved_packets-each : map moved_packets (Empty ∷ Full ∷ Done write ∷ []) ≡ [] ∷ [] ∷ (write ∷ []) ∷ []
moved_packets-each = refl

-- the code that returns as many due tokens as one can: 1 to 7 return 1, 2, 4, 8, 16, 32 and 64
code-0 : code_for 0 ≡ 0
unfolding code_for
code-0 = refl

code-1 : code_for 1 ≡ 1
unfolding code_for
code-1 = refl

code-2 : code_for 2 ≡ 2
unfolding code_for
code-2 = refl

code-3 : code_for 3 ≡ 2
unfolding code_for
code-3 = refl

code-63 : code_for 63 ≡ 6
unfolding code_for
code-63 = refl

code-64 : code_for 64 ≡ 7
unfolding code_for
code-64 = refl

code-65 : code_for 65 ≡ 7
unfolding code_for
code-65 = refl

code-1024 : code_for 1024 ≡ 7
unfolding code_for
code-1024 = refl

-- each code returns twice what the one before it does
tokens-3 : tokens_of_code 3 ≡ 4
tokens-3 = refl

tokens-7 : tokens_of_code 7 ≡ 64
tokens-7 = refl

-- what an end advertises is due at first, and it holds nothing
opening-34 : opening_account 34 ≡ record { held = 0; due = 34 }
opening-34 = refl

-- Which answers a response can carry, and which values fit their types.
use Rattle.std.specs.Prelude.{◌≡◌, ◌<◌, ◌^◌, ◌%◌, ℕ, Bool, true, ◌==◌, ◌&&◌, ◌||◌, nat_le, length}
use Rattle.hmc_codes.specs.Bytes.{IsBytes}
use Rattle.hmc_codes.specs.declared.answer.Answer.{Answer}
use Rattle.hmc_codes.specs.declared.answer.Answer.TheVariants.{Silent, Read, Register, Refused}

-- a response can carry this number of bytes: 16 to 128 in steps of 16, or 256
abbrev pub is_returned : ℕ → Bool
is_returned bytes = (bytes % 16 == 0 && (nat_le 16 bytes && nat_le bytes 128)) || bytes == 256

-- a response can carry the answer
abbrev pub CanReply : Answer → Type 0
CanReply Silent = ⊥
CanReply (Read flag payload) = is_returned (length payload) ≡ true
CanReply (Refused errstat) = errstat < 2 ^ 7
CanReply _ = Unit {0}

-- the answer's number and bytes fit their types
abbrev pub IsAnswer : Answer → Type 0
IsAnswer (Read flag payload) = IsBytes payload
IsAnswer (Register value) = value < 2 ^ 32
IsAnswer _ = Unit {0}

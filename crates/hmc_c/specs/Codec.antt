-- Packets, as C sees them.
use Rattle.std.specs.Prelude.{◌≡◌, ℕ, List, Option, Some, None, Result, Ok, Err}
use Rattle.hmc_codec.specs.declared.plain.PlainPacket.{PlainPacket}
use Rattle.hmc_packet.specs.declared.bad.Bad.{Bad}
use Rattle.hmc_packet.specs.declared.bad.Bad.TheVariants as bads
use Rattle.hmc_c.specs.Lines.{IsWritten}
use Rattle.hmc_c.specs.Status.{bad, ok}

-- the status of the first test that flits fail
abbrev pub bad_status : Bad → ℕ
bad_status bads.Length = 16
bad_status bads.Command = 17
bad_status bads.Reserved = 18
bad_status bads.Crc = 19

-- the flits of a packet are written, if the numbers are one
abbrev pub FlitsShown : (status written : ℕ) → Option (List (List ℕ)) →
    (old new : List (List ℕ)) → Type 0
FlitsShown status written None old new = (status ≡ bad) × (written ≡ 0) × (new ≡ old)
FlitsShown status written (Some flits) old new = IsWritten status written flits old new

-- the packet that was read is shown
abbrev pub PacketShown : (status : ℕ) → Result PlainPacket Bad → (old new : PlainPacket) → Type 0
PacketShown status (Ok packet) old new = (status ≡ ok) × (new ≡ packet)
PacketShown status (Err bad) old new = (status ≡ bad_status bad) × (new ≡ old)

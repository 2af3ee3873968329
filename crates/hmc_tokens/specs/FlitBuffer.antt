-- Buffers of flits as intakes.
use Rattle.std.specs.Prelude.{◌≤◌, ℕ, List, sum_by}
use Rattle.hmc_packet.specs.Packet.{PacketFields, flits_of}
use Rattle.hmc_tokens.specs.declared.flit_buffer.FlitBuffer.{FlitBuffer}

-- the packets of a buffer, the front first
abbrev pub packets_of : FlitBuffer → List PacketFields
packets_of buffer = buffer.kept.packets

-- the number of flits that a buffer has room for
abbrev pub size_of : FlitBuffer → ℕ
size_of buffer = buffer.kept.most

-- the flits of its packets are at most its size
pub within_size : (buffer : FlitBuffer) → sum_by flits_of (packets_of buffer) ≤ size_of buffer
within_size buffer = buffer.within

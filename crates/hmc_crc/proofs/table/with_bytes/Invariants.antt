-- Dividing what is still to come, with the register added onto its front, gives what the first
-- register and all of the bytes give.
use Rattle.std.proofs.Common.{◌≡◌, ◌^◌, ◌<◌, drop}
use Rattle.hmc_crc.proofs.Check.{remainder_from}
use Rattle.hmc_crc.proofs.table.with_bytes.Given as goal

abbrev pub invariant-loop-byte : goal.invariant-loop-byte
invariant-loop-byte l = record {
  fits : l.register < 2 ^ 32;
  whole : remainder_from l.register (drop l.byte-index l.bytes) ≡ remainder_from l.start l.bytes;
}

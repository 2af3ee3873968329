-- Dividing what is still to come, with the register added onto its front, gives what the first
-- register and all of the bytes give.
use Rattle.std.proofs.Common.{◌≡◌, ◌-◌, ◌^◌, ◌<◌, ◌≤◌, drop, length}
use Rattle.hmc_crc.proofs.Check.{remainder_from}
use Rattle.hmc_crc.proofs.table.crc_update.Given as goal

abbrev pub invariant-words : goal.invariant-words
invariant-words l = record {
  within : l.at ≤ length l.more;
  fits : l.register < 2 ^ 32;
  remains : remainder_from l.register (drop l.at l.more) ≡ remainder_from l.check l.more;
}

abbrev pub decreases-words : goal.decreases-words
decreases-words l = length l.more - l.at

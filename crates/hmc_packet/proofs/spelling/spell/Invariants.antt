-- So many flits are there.
use Rattle.std.proofs.Common.{◌≡◌, take}
use Rattle.hmc_packet.specs.Spelling.{spelling}
use Rattle.hmc_packet.proofs.spelling.spell.Given as goal

abbrev pub invariant-loop-at : goal.invariant-loop-at
invariant-loop-at l = record { flits : l.flits.items ≡ take l.at (spelling l.profile l.packet l.rrp) }

use Rattle.std.proofs.Common.{refl, sym}
use Rattle.hmc_packet.proofs.reading.poison_read.Goals as goal

pub returns-then-not-is_clean : goal.returns-then-not-is_clean
returns-then-not-is_clean c = rw (sym c.if-not-is_clean.ensures) refl

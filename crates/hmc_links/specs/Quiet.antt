-- When a link holds no packet.
use Rattle.hmc_link.specs.Held.{LinkHeld}
use Rattle.hmc_ends.specs.End.{IsQuiet}

-- neither end of a link holds a packet, and each packet that was begun was accepted
pub record IsQuietLink (link : LinkHeld) : Type 0 where
  pub a : IsQuiet link.a
  pub b : IsQuiet link.b

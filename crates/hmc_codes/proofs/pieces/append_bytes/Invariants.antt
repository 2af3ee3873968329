-- The digits of the sixteens so far are written.
use Rattle.std.proofs.Common.{◌≡◌, ◌*◌, ◌++◌, take}
use Rattle.hex.specs.Hex.{encode_lower}
use Rattle.hmc_codes.proofs.pieces.append_bytes.Given as goal

abbrev pub invariant-sixteens : goal.invariant-sixteens
invariant-sixteens g l = l.into.bytes ≡ l.fn.into.bytes ++ encode_lower (take (16 * l.block) l.bytes)

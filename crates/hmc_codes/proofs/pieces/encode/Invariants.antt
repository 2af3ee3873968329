-- The bytes so far are written; what is behind them is as it was.
use Rattle.std.proofs.Common.{◌≡◌, ◌*◌, ◌++◌, take, drop}
use Rattle.hex.specs.Hex.{encode_lower}
use Rattle.hmc_codes.proofs.pieces.encode.Given as goal

abbrev pub invariant-bytes : goal.invariant-bytes
invariant-bytes l = l.digits ≡ encode_lower (take l.at l.bytes) ++ drop (2 * l.at) l.fn.digits

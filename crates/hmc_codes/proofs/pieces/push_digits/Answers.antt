use Rattle.hmc_codes.proofs.Digits.{IsUtf8-encode_lower}
use Rattle.hmc_codes.proofs.pieces.push_digits.Goals as goal

pub from_utf8_unchecked-requires : goal.from_utf8_unchecked-requires
from_utf8_unchecked-requires g c = rw c.encode.ensures (IsUtf8-encode_lower c.args.bytes.now)

use Rattle.std.proofs.Common.{[], arith, false}
use Rattle.std.specs.Fmt.{digits}
use Rattle.hmc_codes.proofs.Digits.{hex_length, within}
use Rattle.hmc_codes.proofs.pieces.hex_digits.Goals as goal

pub returns-clause-few : goal.returns-clause-few
returns-clause-few c =
    within [] _ (digits 16 false c.args.number) 16 (cc (c.new-digits.ensures, c.append_hex_digits.ensures)) (hex_length c.args.number (omega (arith, c.ranges.number.fits)))

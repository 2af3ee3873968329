use Rattle.std.proofs.Common.{[], arith}
use Rattle.std.specs.Fmt.{decimal}
use Rattle.hmc_codes.proofs.Digits.{decimal_length, within}
use Rattle.hmc_codes.proofs.pieces.decimal_digits.Goals as goal

pub returns-clause-few : goal.returns-clause-few
returns-clause-few c =
    within [] _ (decimal c.args.number) 20 (cc (c.new-digits.ensures, c.append_decimal_digits.ensures)) (decimal_length c.args.number (omega (arith, c.ranges.number.fits)))

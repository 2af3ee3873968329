-- Two digits are pushed one by one.
use Rattle.std.proofs.Common.{◌/◌, arith}
use Rattle.hmc_codes.proofs.Digits.{decimal_first, decimal_last, two_pushed}
use Rattle.hmc_codes.proofs.pieces.append_spaced.Goals as goal

pub returns-then-number-lt100-clause-text : goal.returns-then-number-lt100-clause-text
returns-then-number-lt100-clause-text g c =
    two_pushed _ _ _ _ _ _ _ _ _ c.push_str-then-number-lt100.ensures.bytes c.spaced_digit-then-number-lt100.ensures c.push_str-then-number-lt100-2.ensures.bytes c.digit_word.ensures
    (decimal_first c.args.number c.if-number-lt10.false (omega (arith, c.ranges.number.fits)))
    (decimal_last (c.args.number / 10) (omega (arith, c.if-number-lt100.true)))

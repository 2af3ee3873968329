use Rattle.std.proofs.Common.{◌/◌, arith}
use Rattle.std.specs.Fmt.{decimal}
use Rattle.hmc_codes.proofs.Digits.{decimal_first, decimal_longer, with_last, last_fits}
use Rattle.hmc_codes.proofs.pieces.+append_decimal_digits.Goals as goal

pub append_decimal_digits-requires : goal.append_decimal_digits-requires
append_decimal_digits-requires t c =
    let longer = decimal_longer c.args.number c.if-number-lt10.false (omega (arith, c.ranges.number.fits)) in
    (omega (arith, c.decreases, c.if-number-lt10.false), omega (arith, longer, c.requires.room))

pub push_str-requires-else-number-lt10 : goal.push_str-requires-else-number-lt10
push_str-requires-else-number-lt10 t c =
    let longer = decimal_longer c.args.number c.if-number-lt10.false (omega (arith, c.ranges.number.fits)) in
    (omega arith, last_fits _ (decimal (c.args.number / 10)) _ _ _ _ _ c.append_decimal_digits.ensures c.digit_word-else-number-lt10.ensures longer c.requires.room)

pub returns-else-number-lt10 : goal.returns-else-number-lt10
returns-else-number-lt10 t c =
    let first = decimal_first c.args.number c.if-number-lt10.false (omega (arith, c.ranges.number.fits)) in
    with_last _ _ _ _ _ _ _ c.append_decimal_digits.ensures c.digit_word-else-number-lt10.ensures c.push_str-else-number-lt10.ensures.bytes first

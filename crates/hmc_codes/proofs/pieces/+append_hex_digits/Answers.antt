use Rattle.std.proofs.Common.{◌/◌, arith, false}
use Rattle.std.specs.Fmt.{digits}
use Rattle.hmc_codes.proofs.Digits.{hex_first, hex_longer, with_last, last_fits}
use Rattle.hmc_codes.proofs.pieces.+append_hex_digits.Goals as goal

pub append_hex_digits-requires : goal.append_hex_digits-requires
append_hex_digits-requires t c =
    let longer = hex_longer c.args.number c.if-number-lt16.false (omega (arith, c.ranges.number.fits)) in
    (omega (arith, c.decreases, c.if-number-lt16.false), omega (arith, longer, c.requires.room))

pub push_str-requires-else-number-lt16 : goal.push_str-requires-else-number-lt16
push_str-requires-else-number-lt16 t c =
    let longer = hex_longer c.args.number c.if-number-lt16.false (omega (arith, c.ranges.number.fits)) in
    (omega arith, last_fits _ (digits 16 false (c.args.number / 16)) _ _ _ _ _ c.append_hex_digits.ensures c.digit_word-else-number-lt16.ensures longer c.requires.room)

pub returns-else-number-lt16 : goal.returns-else-number-lt16
returns-else-number-lt16 t c =
    let first = hex_first c.args.number c.if-number-lt16.false (omega (arith, c.ranges.number.fits)) in
    with_last _ _ _ _ _ _ _ c.append_hex_digits.ensures c.digit_word-else-number-lt16.ensures c.push_str-else-number-lt16.ensures.bytes first

-- One digit, or one after the others.
use Rattle.std.proofs.Common.{◌∙◌, ◌++◌, ℕ, List, ap, sym, arith}
use Rattle.hmc_codes.proofs.Digits.{hex_first, hex_last, with_last}
use Rattle.hmc_codes.proofs.pieces.push_hex_three.Goals as goal

pub returns-then-number-lt16-clause-text : goal.returns-then-number-lt16-clause-text
returns-then-number-lt16-clause-text g c =
    c.push_str.ensures.bytes ∙ ap (λ (l : List ℕ). c.args.into.now.bytes ++ l) (c.digit_word.ensures ∙ sym (hex_last c.args.number c.if-number-lt16.true))

pub returns-else-number-lt16-clause-text : goal.returns-else-number-lt16-clause-text
returns-else-number-lt16-clause-text g c =
    with_last _ _ _ _ _ _ _ c.push_hex_two.ensures.text c.digit_word-else-number-lt16.ensures c.push_str-else-number-lt16.ensures.bytes (hex_first c.args.number c.if-number-lt16.false (omega (arith, c.requires.small)))

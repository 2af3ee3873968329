-- Most numbers have one digit.
use Rattle.std.proofs.Common.{◌∙◌, ℕ, false, List, [], ◌∷◌, ◌++◌, ap, sym}
use Rattle.std.specs.Fmt.{digit_glyph}
use Rattle.hmc_codes.proofs.Digits.{decimal_last}
use Rattle.hmc_entries.proofs.pieces.push_number.Goals as goal

pub returns-then-number-lt10-clause-text : goal.returns-then-number-lt10-clause-text
returns-then-number-lt10-clause-text g c =
    c.push_str.ensures.bytes ∙ ap (λ (l : List ℕ). c.args.into.now.bytes ++ l)
    (c.spaced_digit.ensures ∙ ap (λ (n : ℕ). 32 ∷ digit_glyph false n ∷ []) c.from.ensures ∙ ap (λ (l : List ℕ). 32 ∷ l) (sym (decimal_last c.args.number c.if-number-lt10.true)))

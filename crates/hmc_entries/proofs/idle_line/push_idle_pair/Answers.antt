-- The first number has one digit.
use Rattle.std.proofs.Common.{◌∙◌, ℕ, false, [], ◌∷◌, ap}
use Rattle.std.specs.Fmt.{digit_glyph}
use Rattle.hmc_codes.proofs.Digits.{decimal_last}
use Rattle.hmc_entries.proofs.IdleLines.{after_digit}
use Rattle.hmc_entries.proofs.idle_line.push_idle_pair.Goals as goal

pub returns-then-first-lt10-clause-text : goal.returns-then-first-lt10-clause-text
returns-then-first-lt10-clause-text g c =
    after_digit _ _ _ _ _ _ _ _ _ c.push_str.ensures.bytes c.push_str-then-first-lt10.ensures.bytes
    (c.spaced_digit.ensures ∙ ap (λ (n : ℕ). 32 ∷ digit_glyph false n ∷ []) c.from.ensures) (decimal_last c.args.first c.if-first-lt10.true) c.push_idle_end.ensures.text

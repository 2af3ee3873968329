-- The numbers of the cube and of the vault have one digit.
use Rattle.std.proofs.Common.{◌∙◌, ℕ, false, [], ◌∷◌, ap}
use Rattle.std.specs.Fmt.{digit_glyph}
use Rattle.hmc_codes.proofs.Digits.{decimal_last}
use Rattle.hmc_entries.proofs.IdleLines.{after_digits}
use Rattle.hmc_entries.proofs.idle_line.push_idle_bank.Goals as goal

pub returns-then-vault-lt10-clause-text : goal.returns-then-vault-lt10-clause-text
returns-then-vault-lt10-clause-text g c =
    after_digits _ _ _ _ _ _ _ _ _ _ _ _ _ c.push_str.ensures.bytes c.push_str-then-vault-lt10.ensures.bytes
    (c.spaced_digit.ensures ∙ ap (λ (n : ℕ). 32 ∷ digit_glyph false n ∷ []) c.from.ensures) (decimal_last c.args.cube c.if-cube-lt10.true) c.push_str-then-vault-lt10-2.ensures.bytes
    (c.spaced_digit-then-vault-lt10.ensures ∙ ap (λ (n : ℕ). 32 ∷ digit_glyph false n ∷ []) c.from-then-vault-lt10.ensures) (decimal_last c.args.vault c.if-vault-lt10.true) c.push_idle_end.ensures.text

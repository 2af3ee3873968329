-- The number of the cube has one digit.
use Rattle.std.proofs.Common.{◌∙◌, ℕ, false, [], ◌∷◌, ap}
use Rattle.std.specs.Fmt.{digit_glyph}
use Rattle.hmc_codes.proofs.Digits.{decimal_last}
use Rattle.hmc_entries.proofs.IdleLines.{after_digit}
use Rattle.hmc_entries.proofs.idle_line.push_idle_lift.Goals as goal

pub returns-then-cube-lt10-clause-text : goal.returns-then-cube-lt10-clause-text
returns-then-cube-lt10-clause-text g c =
    after_digit _ _ _ _ _ _ _ _ _ c.push_str.ensures.bytes c.push_str-then-cube-lt10.ensures.bytes
    (c.spaced_digit.ensures ∙ ap (λ (n : ℕ). 32 ∷ digit_glyph false n ∷ []) c.from.ensures) (decimal_last c.args.cube c.if-cube-lt10.true) c.push_lift_end.ensures.text

-- The digits of a NULL are known.
use Rattle.std.proofs.Common.{◌∙◌, ℕ, List, ◌∷◌, ◌++◌, ap, sym}
use Rattle.hex.specs.Hex.{encode_lower}
use Rattle.hmc_entries.proofs.NullLines.{zero_digits}
use Rattle.hmc_entries.proofs.pieces.push_flit.Goals as goal

pub returns-then-is_null-clause-text : goal.returns-then-is_null-clause-text
returns-then-is_null-clause-text g c =
    c.push_str.ensures.bytes ∙ ap (λ (l : List ℕ). c.args.into.now.bytes ++ (32 ∷ l)) (sym (ap encode_lower (c.is_null.ensures.zeros.0 c.if-is_null.true) ∙ zero_digits))

-- The line of a NULL.
use Rattle.std.proofs.Common.{◌≡◌, ◌∙◌, ℕ, List, ◌++◌, codes, ap, sym, append_assoc, true≢false}
use Rattle.hex.specs.Hex.{encode_lower}
use Rattle.hmc_entries.specs.Lines.{what_text}
use Rattle.hmc_entries.proofs.NullLines.{zero_digits, sent_null}
use Rattle.hmc_entries.proofs.line.sent_line.Goals as goal
use Rattle.hmc_entries.proofs.line.sent_line.Goals.{in-Null, in_default}

pub returns-then-is_null-clause-text : goal.returns-then-is_null-clause-text
returns-then-is_null-clause-text g c =
    let is : what_text c.args.what ≡ codes "null" = elim c.match-matches.branch [
      | in-Null w ↦ ap what_text w.in-Null.is
      | in_default w ↦ absurd (true≢false (sym c.if-matches.true ∙ w.matches-is))
    ] in
    let zero = ap encode_lower (c.is_null.ensures.zeros.0 c.if-is_null.true) ∙ zero_digits in
    let end : List ℕ = codes " null 00000000000000000000000000000000\n" in
    c.push_str.ensures.bytes ∙ ap (λ (l : List ℕ). l ++ end) c.push_numbered.ensures.text
    ∙ append_assoc c.args.into.now.bytes _ end
    ∙ ap (λ (l : List ℕ). c.args.into.now.bytes ++ l) (sent_null c.args.direction _ _ is zero)

-- The document of a case.
use Rattle.std.proofs.Common.{◌≡◌, ℕ, List, cond, Some, None, Ok, Err, sym, ap, ◌∙◌}
use Rattle.std.proofs.lemmas.Bool.{false_from_ne_true}
use Rattle.std.proofs.lemmas.Str.{IsUtf8-from_is_utf8, is_utf8-from_IsUtf8}
use Rattle.std.specs.Str.{IsUtf8, is_utf8}
use Rattle.toml.specs.Data.{Members}
use Rattle.toml.specs.Parse.{parse_document}
use Rattle.hmc_text.specs.Reading.{or_fault}
use Rattle.hmc_case.specs.Parts.{table_in}
use Rattle.hmc_case.specs.declared.fault.CaseKind.TheVariants.{Syntax}

-- bytes that are no text
pub table_in-err : (bytes : List ℕ) → ¬ (IsUtf8 bytes) → table_in bytes ≡ Err Syntax
table_in-err bytes none =
    let no = false_from_ne_true (is_utf8 bytes) (λ yes. none (IsUtf8-from_is_utf8 bytes yes)) in
    ap (λ b. or_fault Syntax (cond b (parse_document bytes) None)) no

-- bytes that are a document
pub table_in-ok : (bytes text : List ℕ) (table : Members) → text ≡ bytes → IsUtf8 bytes → parse_document text ≡ Some table → table_in bytes ≡ Ok table
table_in-ok bytes text table same utf8 parsed =
    ap (λ b. or_fault Syntax (cond b (parse_document bytes) None)) (is_utf8-from_IsUtf8 bytes utf8)
    ∙ ap (or_fault Syntax) (ap parse_document (sym same) ∙ parsed)

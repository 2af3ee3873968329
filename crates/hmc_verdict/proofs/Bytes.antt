-- Bytes that are a text, and others.
use Rattle.std.proofs.Common.{◌≡◌, ℕ, List, Err, ap}
use Rattle.std.specs.Prelude.{if◌then◌else◌}
use Rattle.std.specs.Str.{IsUtf8, is_utf8}
use Rattle.std.proofs.lemmas.Bool.{false_from_ne_true}
use Rattle.std.proofs.lemmas.Str.{IsUtf8-from_is_utf8, is_utf8-from_IsUtf8}
use Rattle.hmc_case.specs.Case.{CaseFields}
use Rattle.hmc_log.specs.Fault.{no_text_line}
use Rattle.hmc_verdict.specs.Subject.{log_in, log_in_bytes}

pub no_text : (case : CaseFields) (bytes : List ℕ) → (IsUtf8 bytes → ⊥) →
    log_in_bytes case bytes ≡ Err no_text_line
unfolding log_in_bytes
no_text case bytes none =
    ap (λ b. if b then log_in case bytes else Err no_text_line)
    (false_from_ne_true (is_utf8 bytes) (λ yes. none (IsUtf8-from_is_utf8 bytes yes)))

pub is_text : (case : CaseFields) (bytes : List ℕ) → IsUtf8 bytes →
    log_in_bytes case bytes ≡ log_in case bytes
unfolding log_in_bytes
is_text case bytes some =
    ap (λ b. if b then log_in case bytes else Err no_text_line) (is_utf8-from_IsUtf8 bytes some)

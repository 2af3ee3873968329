-- The line by which a fault is reported.
use Rattle.std.specs.Prelude.{ℕ, List, [], ◌∷◌, codes}
use Rattle.std.specs.Fmt.{decimal}
use Rattle.hmc_codes.specs.Text.{line}
use Rattle.hmc_log.specs.declared.fault.LogKind.{LogKind}
use Rattle.hmc_log.specs.Kind.{kind_word}

-- the line of the log, and what is wrong there
unfoldable pub bad_line : ℕ × LogKind → List ℕ
bad_line fault = line (codes "bad" ∷ codes "log" ∷ decimal fault.0 ∷ kind_word fault.1 ∷ [])

-- the bytes are no text
unfoldable pub no_text_line : List ℕ
no_text_line = line (codes "bad" ∷ codes "log" ∷ codes "0" ∷ codes "text" ∷ [])

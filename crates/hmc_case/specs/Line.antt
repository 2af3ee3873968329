-- The line by which a fault is reported.
use Rattle.std.specs.Prelude.{ℕ, List, [], ◌∷◌, codes}
use Rattle.std.specs.Fmt.{decimal}
use Rattle.hmc_codes.specs.Text.{line}
use Rattle.hmc_case.specs.Kind.{section_word, kind_word}
use Rattle.hmc_case.specs.Reading.{Fault}

-- the section, the line there, and what is wrong
unfoldable pub bad_line : Fault → List ℕ
bad_line fault =
    line (codes "bad" ∷ section_word fault.section ∷ decimal fault.line ∷ kind_word fault.kind ∷ [])

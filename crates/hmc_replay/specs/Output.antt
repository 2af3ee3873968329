-- Writing lines, each by one write, and handing them on.
use Rattle.std.specs.Prelude.{◌≡◌, ℕ, Bool, List, [], ◌∷◌, Result, Ok, Err}
use Rattle.std.specs.Fmt.{decimal}
use Rattle.hmc_codes.specs.Text.{line}
use Rattle.hmc_outside.specs.Finish.{HandsOn, FailsToHandOn}
use Rattle.hmc_outside.specs.Lines.{WritesLines, BreaksOff}
use Rattle.hmc_outside.specs.Views.{SinkView}
use Rattle.hmc_outside.specs.declared.counts.Failed.{Failed}

-- the line of a word and a number
unfoldable pub number_line : (word : List ℕ) → (number : ℕ) → List ℕ
number_line word number = line (word ∷ decimal number ∷ [])

-- all lines were written, or some before a write failed
abbrev pub Writes : {T : Type 0} → Result T Failed → (old new : SinkView) → List (List ℕ) → Type 0
Writes (Ok done) old new lines = WritesLines old new lines
Writes (Err failed) old new lines = BreaksOff old new lines

-- all lines were written and handed on, or a call failed
abbrev pub Delivers : {T : Type 0} → Result T Failed → (old new : SinkView) → List (List ℕ) →
    Type 0
Delivers (Ok done) old new lines = HandsOn old new lines
Delivers (Err failed) old new lines = FailsToHandOn old new lines

-- the same of a report, of which this was returned: whether a landing passed
abbrev pub WritesReport : Result Bool Failed → List (List ℕ) → (passes : Bool) →
    (old new : SinkView) → Type 0
WritesReport (Ok passed) lines passes old new = WritesLines old new lines × (passed ≡ passes)
WritesReport (Err failed) lines passes old new = BreaksOff old new lines

abbrev pub DeliversReport : Result Bool Failed → List (List ℕ) → (passes : Bool) →
    (old new : SinkView) → Type 0
DeliversReport (Ok passed) lines passes old new = HandsOn old new lines × (passed ≡ passes)
DeliversReport (Err failed) lines passes old new = FailsToHandOn old new lines

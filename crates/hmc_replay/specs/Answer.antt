-- What each form of words answers.
use Rattle.std.specs.Prelude.{ℕ, List, Option, Some, None}
use Rattle.hmc_codes.specs.Limits.{most_input, most_check_input}
use Rattle.hmc_units.specs.Unit.{UnitFields}
use Rattle.hmc_replay.specs.BoundAnswer.{IsBoundAnswer}
use Rattle.hmc_replay.specs.CheckAnswer.{IsCheckAnswer}
use Rattle.hmc_replay.specs.MakeAnswer.{IsMakeAnswer}
use Rattle.hmc_replay.specs.RunAnswer.{IsRunAnswer}
use Rattle.hmc_replay.specs.TraceAnswer.{IsTraceAnswer}
use Rattle.hmc_replay.specs.declared.form.Form.{Form}
use Rattle.hmc_replay.specs.declared.form.Form.TheVariants.{Run, Make, Check, Bound, Trace}

-- how many bytes an input may have; `None` where none is read
abbrev pub limit_of : Form → Option ℕ
limit_of Run = Some most_input
limit_of (Make number) = None
limit_of Check = Some most_check_input
limit_of Bound = Some most_input
limit_of Trace = Some most_input

-- This status and these lines are due for this input; where none is read, for no bytes. `slots` has
-- the logic units as they were handed in.
abbrev pub IsAnswer : Form → (slots : List (Option UnitFields)) → (input : List ℕ) →
    (status : ℕ) → List (List ℕ) → Type 0
IsAnswer Run slots input status lines = IsRunAnswer slots input status lines
IsAnswer (Make number) slots input status lines = IsMakeAnswer number slots status lines
IsAnswer Check slots input status lines = IsCheckAnswer slots input status lines
IsAnswer Bound slots input status lines = IsBoundAnswer slots input status lines
IsAnswer Trace slots input status lines = IsTraceAnswer input status lines

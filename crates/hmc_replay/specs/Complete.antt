-- When what is due comes.
use Rattle.std.specs.Prelude.{◌≡◌, ◌≤◌, ◌<◌, ℕ, List, [], ◌∷◌, length, Option, None, Some, IfSome}
use Rattle.hmc_units.specs.Unit.{UnitFields}
use Rattle.hmc_replay.specs.Answer.{limit_of, IsAnswer}
use Rattle.hmc_replay.specs.Top.{OneOf}
use Rattle.hmc_replay.specs.declared.form.Form.{Form}

-- Every input gets what is due for it, unless memory runs out (1), or the source (3) or the sink
-- (4) fails. `left` are the bytes that the source had, where it shows them.
pub record IsComplete (form : Form) (slots : List (Option UnitFields)) (left : Option (List ℕ))
    (status : ℕ) : Type 0 where
  -- An input that is not too long ends the call with the status that is due for it.
  pub answered : (most : ℕ) → limit_of form ≡ Some most → IfSome left
      (λ input. length input ≤ most → (due : ℕ) (lines : List (List ℕ)) →
      IsAnswer form slots input due lines → OneOf (due ∷ 1 ∷ 3 ∷ 4 ∷ []) status)
  -- One that is too long ends it with 5.
  pub too_long : (most : ℕ) → limit_of form ≡ Some most → IfSome left
      (λ input. most < length input → OneOf (5 ∷ 1 ∷ 3 ∷ []) status)
  -- A form that reads nothing ends with the status that is due for no bytes.
  pub made : limit_of form ≡ None → (due : ℕ) (lines : List (List ℕ)) →
      IsAnswer form slots [] due lines → OneOf (due ∷ 1 ∷ 4 ∷ []) status

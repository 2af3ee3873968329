-- Definitions computed: words, and the inputs of `check`.
use Rattle.std.proofs.Common.{◌≡◌, [], ◌∷◌, ◌++◌, Some, None, refl}
use Rattle.std.specs.Prelude.{codes, map}
use Rattle.hmc_text.specs.Number.{number_in, number_after}
use Rattle.hmc_replay.specs.CheckInput.{head_length, check_input}
use Rattle.hmc_replay.specs.Words.{form_of}
use Rattle.hmc_replay.specs.declared.form.Form.TheVariants.{Run, Check, Bound}

-- `run` alone is that form
form_of-run : map form_of ([] ∷ (codes "run" ∷ []) ∷ (codes "run" ∷ codes "run" ∷ []) ∷ (codes "Run" ∷ []) ∷ (codes "ru" ∷ []) ∷ (codes "make" ∷ []) ∷ []) ≡
    None ∷ Some Run ∷ None ∷ None ∷ None ∷ None ∷ []
form_of-run = refl

-- `bound` alone is that form
form_of-bound : map form_of ((codes "bound" ∷ []) ∷ (codes "bound" ∷ codes "1" ∷ []) ∷ (codes "Bound" ∷ []) ∷ (codes "bounds" ∷ []) ∷ []) ≡
    Some Bound ∷ None ∷ None ∷ None ∷ []
form_of-bound = refl

-- `check` alone is that form
form_of-check : map form_of ((codes "check" ∷ []) ∷ (codes "check" ∷ codes "1" ∷ []) ∷ (codes "Check" ∷ []) ∷ []) ≡
    Some Check ∷ None ∷ None ∷ []
form_of-check = refl

-- a case of two bytes and a report
parts-two : check_input (codes "case 02" ++ (10 ∷ codes "abcde")) ≡
    Some (record { case = codes "ab"; report = codes "cde" })
unfolding check_input head_length number_in number_after
parts-two = refl

-- fewer bytes than that; nine digits; no digit; no line feed
parts-none : map check_input ((codes "case 6" ++ (10 ∷ codes "abcde"))
    ∷ (codes "case 000000002" ++ (10 ∷ codes "abcde")) ∷ (codes "case " ++ (10 ∷ codes "abcde"))
    ∷ codes "case 2 abcde" ∷ []) ≡ None ∷ None ∷ None ∷ None ∷ []
unfolding check_input head_length number_in number_after
parts-none = refl

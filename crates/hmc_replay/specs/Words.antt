-- The words that are a defined form.
use Rattle.std.specs.Prelude.{◌≡◌, ℕ, if◌then◌else◌, List, [], ◌∷◌, codes, bytes_eq, Option, Some, None}
use Rattle.std.specs.Option.{option_map}
use Rattle.hmc_make.specs.Word.{case_number}
use Rattle.hmc_replay.specs.declared.form.Form.{Form}
use Rattle.hmc_replay.specs.declared.form.Form.TheVariants.{Run, Make, Check, Bound, Trace}

-- `make` with this word, if it is the number of a case
abbrev pub make_form : List ℕ → Option Form
make_form word = option_map Make (case_number word)

-- the form of a word alone
abbrev pub word_form : List ℕ → Option Form
word_form word =
    if bytes_eq word (codes "run") then Some Run
    else (if bytes_eq word (codes "check") then Some Check
    else (if bytes_eq word (codes "bound") then Some Bound
    else (if bytes_eq word (codes "trace") then Some Trace else None)))

-- the form of two words: `make` with the second
abbrev pub pair_form : List ℕ → List ℕ → Option Form
pair_form word other = if bytes_eq word (codes "make") then make_form other else None

-- what the words ask for: `run`, `check`, `bound` or `trace`, or `make` and the number of a case
abbrev pub form_of : List (List ℕ) → Option Form
form_of (word ∷ []) = word_form word
form_of (word ∷ other ∷ []) = pair_form word other
form_of _ = None

-- they ask for the case that is read
abbrev pub IsRun : List (List ℕ) → Type 0
IsRun words = form_of words ≡ Some Run

-- they ask for the case of this number
abbrev pub IsMake : List (List ℕ) → (number : ℕ) → Type 0
IsMake words number = form_of words ≡ Some (Make number)

-- The input of `check`: a line with the length of a case, the case, and a report.
use Rattle.std.specs.Prelude.{ℕ, suc, Bool, ◌==◌, nat_le, nat_eq, if◌then◌else◌, List, length, take, drop, codes, position, Option, None, Some, option_and_then}
use Rattle.std.specs.List.{starts_with}
use Rattle.hmc_text.specs.Number.{number_in}

-- the bytes of the case, and those of the report
pub record CheckInput : Type 0 where
  pub case : List ℕ
  pub report : List ℕ

-- the byte that ends the first line
abbrev pub is_feed : ℕ → Bool
is_feed byte = byte == 10

-- what follows the word `case` and a space, if the line begins so
abbrev pub after_case : List ℕ → Option (List ℕ)
after_case head = if starts_with nat_eq head (codes "case ") then Some (drop 5 head) else None

-- the number that one to eight decimal digits make
abbrev pub case_length : List ℕ → Option ℕ
case_length digits = if nat_le (length digits) 8 then number_in 10 digits else None

-- the length of the case that the first line names
unfoldable pub head_length : (head : List ℕ) → Option ℕ
head_length head = option_and_then case_length (after_case head)

-- so many bytes are the case, and the others are the report, if there are so many
abbrev pub parted : (rest : List ℕ) → (bytes : ℕ) → Option CheckInput
parted rest bytes =
    if nat_le bytes (length rest)
    then Some (record { case = take bytes rest; report = drop bytes rest }) else None

-- the parts of an input whose first line ends at this place
abbrev pub parts_at : (input : List ℕ) → (end : ℕ) → Option CheckInput
parts_at input end =
    option_and_then (parted (drop (suc end) input)) (head_length (take end input))

-- the parts of an input, if it has such a line and so many bytes follow
unfoldable pub check_input : List ℕ → Option CheckInput
check_input input = option_and_then (parts_at input) (position is_feed input)

-- Definitions computed: lines and words of a text, numbers at their ends, and a reader that sums up numbers line by line.
use Rattle.std.proofs.Common.{◌≡◌, ℕ, ◌+◌, List, [], ◌∷◌, ◌++◌, Some, None, Result, Ok, Err, refl}
use Rattle.std.specs.Prelude.{codes, map, option_map}
use Rattle.hmc_text.specs.InTurn.{after_lines, next_number}
use Rattle.hmc_text.specs.Lines.{lines_of}
use Rattle.hmc_text.specs.Number.{number_after, number_in, number_of}
use Rattle.hmc_text.specs.Reading.{or_fault}
use Rattle.hmc_text.specs.Words.{words_of}

-- one carriage return is dropped at the end of each line, of the last one too
lines_of-returns : lines_of (codes "a" ++ 13 ∷ 10 ∷ 13 ∷ 10 ∷ codes "b" ++ 13 ∷ 13 ∷ []) ≡ codes "a" ∷ [] ∷ (codes "b" ++ 13 ∷ []) ∷ []
unfolding lines_of
lines_of-returns = refl

-- the text after the last line feed is a line, even where it is empty
lines_of-ends : map lines_of ([] ∷ (10 ∷ []) ∷ []) ≡ ([] ∷ []) ∷ ([] ∷ [] ∷ []) ∷ []
unfolding lines_of
lines_of-ends = refl

words_of-blanks : words_of (32 ∷ 9 ∷ codes "a b" ++ 9 ∷ codes "c#" ++ 32 ∷ []) ≡ codes "a" ∷ codes "b" ∷ codes "c#" ∷ []
unfolding words_of
words_of-blanks = refl

-- only a space and a tab part words: a line feed, a vertical tab, a form feed, a return and a
-- non-breaking space don't
words_of-blanks_only : map (λ between. words_of (97 ∷ between ∷ 98 ∷ [])) (32 ∷ 9 ∷ 10 ∷ 11 ∷ 12 ∷ 13 ∷ 160 ∷ []) ≡
    (codes "a" ∷ codes "b" ∷ []) ∷ (codes "a" ∷ codes "b" ∷ []) ∷
    ((97 ∷ 10 ∷ 98 ∷ []) ∷ []) ∷ ((97 ∷ 11 ∷ 98 ∷ []) ∷ []) ∷ ((97 ∷ 12 ∷ 98 ∷ []) ∷ []) ∷ ((97 ∷ 13 ∷ 98 ∷ []) ∷ []) ∷ ((97 ∷ 160 ∷ 98 ∷ []) ∷ []) ∷ []
unfolding words_of
words_of-blanks_only = refl

-- a number that passes 64 bits is a number
number_of-ends : map number_of (codes "0" ∷ codes "0064" ∷ codes "0xfF" ∷ codes "99999999999999999999" ∷ codes "0x00000000000000000001" ∷ []) ≡
    Some 0 ∷ Some 64 ∷ Some 255 ∷ Some 99999999999999999999 ∷ Some 1 ∷ []
unfolding number_of number_in number_after
number_of-ends = refl

number_of-none : map number_of ([] ∷ codes "0x" ∷ codes "0X40" ∷ codes "4a" ∷ codes "0x4g" ∷ codes "+1" ∷ codes "000000000000000000001" ∷ []) ≡
    None ∷ None ∷ None ∷ None ∷ None ∷ None ∷ None ∷ []
unfolding number_of number_in number_after
number_of-none = refl

next_number-end : map next_number (1 ∷ 4294967294 ∷ 4294967295 ∷ []) ≡ 2 ∷ 4294967295 ∷ 4294967295 ∷ []
next_number-end = refl

-- adds the number on the line, or refuses the line
abbrev sum : ℕ → List ℕ → Result ℕ (List ℕ)
sum total line = or_fault line (option_map (λ n. total + n) (number_of line))

after_lines-good : after_lines sum 1 0 (codes "2" ∷ codes "0x10" ∷ []) ≡ Ok 18
unfolding after_lines number_of number_in number_after
after_lines-good = refl

-- the first line at fault is reported with its number
after_lines-fault : after_lines sum 7 0 (codes "2" ∷ codes "x" ∷ codes "y" ∷ []) ≡ Err (8, codes "x")
unfolding after_lines number_of number_in number_after
after_lines-fault = refl

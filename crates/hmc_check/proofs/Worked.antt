-- Rows: lines of reports, computed, and answers that are no verdict.
use Rattle.std.proofs.Common.{◌≡◌, ◌<◌, ℕ, List, [], ◌∷◌, Some, None, Ok, Err, refl, arith}
use Rattle.hmc_journal.specs.Setup.{Setup}
use Rattle.hmc_check.specs.declared.checker.CheckFault.TheVariants.{Unlawful}
use Rattle.hmc_check.specs.Due.{line_at}
use Rattle.hmc_check.specs.Fronts.{front_lines, feeds_in, is_open_after, lines_in}
use Rattle.hmc_check.specs.Verdict.{IsLawfulReport, IsLeastUnfit, IsVerdict, capped}
use Rattle.hmc_check.proofs.Verdicts.{one_least}

-- ---- lines

-- two lines and a piece
abbrev pieced : List ℕ
pieced = 97 ∷ 10 ∷ 98 ∷ 10 ∷ 99 ∷ []

no-lines : front_lines 0 pieced ≡ []
unfolding front_lines
no-lines = refl

two-lines : front_lines 2 pieced ≡ 97 ∷ 10 ∷ 98 ∷ 10 ∷ []
unfolding front_lines
two-lines = refl

-- the piece is the third line, and there is no fourth one
three-lines : front_lines 3 pieced ≡ pieced
unfolding front_lines
three-lines = refl

four-lines : front_lines 4 pieced ≡ pieced
unfolding front_lines
four-lines = refl

-- a line feed alone is a line
feed-alone : front_lines 1 (10 ∷ 97 ∷ []) ≡ 10 ∷ []
unfolding front_lines
feed-alone = refl

count-pieced : lines_in pieced ≡ 3
unfolding feeds_in is_open_after
count-pieced = refl

count-whole : lines_in (97 ∷ 10 ∷ 98 ∷ 10 ∷ []) ≡ 2
unfolding feeds_in is_open_after
count-whole = refl

count-feeds : lines_in (10 ∷ 10 ∷ []) ≡ 2
unfolding feeds_in is_open_after
count-feeds = refl

count-piece : lines_in (97 ∷ []) ≡ 1
unfolding feeds_in is_open_after
count-piece = refl

count-none : lines_in [] ≡ 0
unfolding feeds_in is_open_after
count-none = refl

-- ---- numbers of lines

line-0 : line_at 0 ((97 ∷ []) ∷ []) ≡ None
line-0 = refl

line-1 : line_at 1 ((97 ∷ []) ∷ []) ≡ Some (97 ∷ [])
line-1 = refl

line-2 : line_at 2 ((97 ∷ []) ∷ []) ≡ None
line-2 = refl

most-line : capped 4294967296 ≡ 4294967295
most-line = refl

-- ---- what is no verdict

-- a report that no whole lawful journal has isn't lawful
never-lawful : (setup : Setup) (report : List ℕ) (entries : ℕ) → ((n : ℕ) → IsLawfulReport setup report n → ⊥) → IsVerdict setup report (Ok entries) → ⊥
never-lawful setup report entries none verdict = none entries (verdict.lawful entries refl)

-- one that some has isn't unlawful
never-unlawful : (setup : Setup) (report : List ℕ) (entries line : ℕ) → IsLawfulReport setup report entries → IsVerdict setup report (Err (Unlawful line)) → ⊥
never-unlawful setup report entries line lawful verdict = verdict.none line entries refl lawful

-- lines count from 1
never-line-0 : (setup : Setup) (report : List ℕ) → IsLeastUnfit setup report 0 → ⊥
never-line-0 setup report least = let one = least.from_one in absurd (omega (arith, one))

-- no line is unfit that is before the least one
never-before : (setup : Setup) (report : List ℕ) (j k : ℕ) → IsLeastUnfit setup report k → j < k → IsLeastUnfit setup report j → ⊥
never-before setup report j k least less other = let same = one_least setup report j k other least in absurd (omega (arith, same, less))

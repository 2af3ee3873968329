-- The first line in which a report differs from a text.
use Rattle.std.specs.Prelude.{◌≡◌, ◌≤◌, ◌<◌, ◌⊎◌, ℕ, suc, ◌+◌, ◌-◌, ◌^◌, Bool, false, ◌==◌, nat_lt, if◌then◌else◌, List, [], ◌∷◌, ◌++◌, length, take, Option, Some, None, Result, Ok, Err}
use Rattle.std.specs.Borrow.{Bor}
use Rattle.hmc_check.specs.declared.checker.CheckFault.{CheckFault}
use Rattle.hmc_check.specs.declared.checker.CheckFault.TheVariants.{Unlawful}
use Rattle.hmc_check.specs.Fronts.{front_lines, feeds_in, is_open_after, lines_in}
use Rattle.hmc_check.specs.Verdict.{capped}

-- a text begins with these bytes
pub record BeginsWith (text bytes : List ℕ) : Type 0 where
  pub rest : List ℕ
  pub is : text ≡ bytes ++ rest

-- Line k, from 1, is the first by which a report differs from a text: the text begins with the
-- lines before it, and doesn't begin with these and the line. Where it begins with all lines, and
-- the report isn't the text, k is the number of lines and one more.
pub record DiffersAt (text report : List ℕ) (k : ℕ) : Type 0 where
  pub some : 1 ≤ k
  pub before : (j : ℕ) → j < k → BeginsWith text (front_lines j report)
  pub at : ((k ≤ lines_in report) × (BeginsWith text (front_lines k report) → ⊥))
      ⊎ ((k ≡ suc (lines_in report)) × (report ≡ text → ⊥))

-- a report is a text, or differs from it first in a line with this number
abbrev pub Compares : (text report : List ℕ) → Option ℕ → Type 0
Compares text report None = report ≡ text
Compares text report (Some line) = (k : ℕ) × (line ≡ capped k) × DiffersAt text report k

-- two texts have so many bytes in common from their fronts on, and no more
pub record HaveInCommon (a b : List ℕ) (n : ℕ) : Type 0 where
  pub came : List ℕ
  pub a_rest : List ℕ
  pub b_rest : List ℕ
  pub a_is : a ≡ came ++ a_rest
  pub b_is : b ≡ came ++ b_rest
  pub count : length came ≡ n
  pub apart : (x : ℕ) (xs ys : List ℕ) → a_rest ≡ x ∷ xs → b_rest ≡ x ∷ ys → ⊥

-- a piece is after the last line feed
abbrev pub ends_open : List ℕ → Bool
ends_open report = is_open_after false report

-- the line of a report, of which so many bytes are those of a text and no further one is
abbrev pub differs_line : (place : ℕ) → List ℕ → ℕ
differs_line place report =
    if nat_lt place (length report) then suc (feeds_in (take place report))
    else suc (lines_in report)

-- what is answered by such a comparison, where the whole journal has so many entries
abbrev pub verdict_by : (entries : ℕ) → Option ℕ → Result ℕ CheckFault
verdict_by entries None = Ok entries
verdict_by entries (Some line) = Err (Unlawful line)

-- the same bytes of a report and of a text have come
pub record HasCome (text report rest left : List ℕ) : Type 0 where
  pub came : List ℕ
  pub report_is : report ≡ came ++ rest
  pub text_is : text ≡ came ++ left

-- a line of the text comes next: after it comes this, or the report differs there
abbrev pub FollowsLine : (text report later : List ℕ) → Result (Bor (List ℕ)) ℕ → Type 0
FollowsLine text report later (Ok more) = HasCome text report more.now later
FollowsLine text report later (Err line) = Compares text report (Some line)

-- some bytes of a text come next: after them this is left of the report, or it differs there
abbrev pub FollowsText : (text report rest later : List ℕ) → Result (Unit {0}) ℕ → Type 0
FollowsText text report rest later (Ok done) = HasCome text report rest later
FollowsText text report rest later (Err line) = Compares text report (Some line)

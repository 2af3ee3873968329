-- What a check says of a report.
use Rattle.std.specs.Prelude.{◌≡◌, ◌≤◌, ◌<◌, ◌⊎◌, ℕ, suc, ◌-◌, ◌^◌, nat_lt, if◌then◌else◌, List, ◌++◌, length, Result, Ok, Err}
use Rattle.hmc_entries.specs.declared.entry.Entry.{Entry}
use Rattle.hmc_journal.specs.Lawful.{IsWhole}
use Rattle.hmc_journal.specs.Setup.{Setup}
use Rattle.hmc_check.specs.declared.checker.CheckFault.{CheckFault}
use Rattle.hmc_check.specs.declared.checker.CheckFault.TheVariants.{Memory, Unlawful}
use Rattle.hmc_check.specs.Fronts.{front_lines, lines_in}
use Rattle.hmc_journal.specs.Report.{report_text}

-- the report is the text of a whole lawful journal with so many entries
pub record IsLawfulReport (setup : Setup) (report : List ℕ) (entries : ℕ) : Type 0 where
  pub journal : List Entry
  pub whole : IsWhole setup journal
  pub text : report ≡ report_text setup journal
  pub entries_are : length journal ≡ entries

-- the text of some whole lawful journal begins with these bytes
pub record Fits (setup : Setup) (bytes : List ℕ) : Type 0 where
  pub journal : List Entry
  pub whole : IsWhole setup journal
  pub rest : List ℕ
  pub begins : report_text setup journal ≡ bytes ++ rest

-- Line k of the report, from 1, is the least for which no whole lawful journal's text begins with
-- the first k lines. Where every line fits but the text is longer, k is the number of lines plus 1.
pub record IsLeastUnfit (setup : Setup) (report : List ℕ) (k : ℕ) : Type 0 where
  pub from_one : 1 ≤ k
  pub before : (j : ℕ) → j < k → Fits setup (front_lines j report)
  pub unfit : ((k ≤ lines_in report) × (Fits setup (front_lines k report) → ⊥))
      ⊎ ((k ≡ suc (lines_in report)) × ((entries : ℕ) → IsLawfulReport setup report entries → ⊥))

-- a number of 32 bits: one that would pass them is the greatest
abbrev pub capped : ℕ → ℕ
capped k = if nat_lt k (2 ^ 32) then k else 2 ^ 32 - 1

-- What `check` answers, by what the report is. Out of memory nothing is said.
pub record IsVerdict (setup : Setup) (report : List ℕ) (result : Result ℕ CheckFault)
    : Type 0 where
  -- Ok: exactly where the report is the text of a whole lawful journal, with its entries
  pub lawful : (entries : ℕ) → result ≡ Ok entries → IsLawfulReport setup report entries
  pub accepts : (entries : ℕ) → IsLawfulReport setup report entries →
      (result ≡ Ok entries) ⊎ (result ≡ Err Memory)
  -- Unlawful: exactly where there is no such journal, with the first line that fits none
  pub unlawful : (line : ℕ) → result ≡ Err (Unlawful line) →
      (k : ℕ) × (line ≡ capped k) × IsLeastUnfit setup report k
  pub none : (line entries : ℕ) → result ≡ Err (Unlawful line) →
      IsLawfulReport setup report entries → ⊥
  pub refuses : ((entries : ℕ) → IsLawfulReport setup report entries → ⊥) →
      ((line : ℕ) × (result ≡ Err (Unlawful line))) ⊎ (result ≡ Err Memory)

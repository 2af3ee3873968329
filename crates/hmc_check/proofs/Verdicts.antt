-- What the comparison with the one whole journal's text says of a report.
use Rattle.std.proofs.Common.{◌≡◌, ◌≤◌, ◌<◌, ◌∙◌, ◌⊎◌, inl, inr, ℕ, zero, suc, Option, Some, None, Ok, List, length, refl, sym, ap, subst, arith}
use Rattle.hmc_journal.specs.Lawful.{journal_of}
use Rattle.hmc_journal.specs.Setup.{Setup}
use Rattle.hmc_journal.proofs.OneJournal.{journal_of-whole}
use Rattle.hmc_journal.proofs.Whole.{journal_is_whole}
use Rattle.hmc_check.specs.Fronts.{front_lines, lines_in}
use Rattle.hmc_journal.specs.Report.{report_text}
use Rattle.hmc_check.specs.Verdict.{IsLawfulReport, Fits, IsLeastUnfit, IsVerdict}
use Rattle.hmc_check.specs.Differs.{BeginsWith, DiffersAt, Compares, verdict_by}
use Rattle.hmc_check.proofs.Fronts.{front_begins}

-- the text of the one whole journal
abbrev pub text_of : Setup → List ℕ
text_of setup = report_text setup (journal_of setup)

-- a report that is lawful is that text
pub lawful_text : (setup : Setup) (report : List ℕ) (entries : ℕ) → IsLawfulReport setup report entries → report ≡ text_of setup
lawful_text setup report entries is = is.text ∙ ap (report_text setup) (journal_of-whole setup is.journal is.whole)

pub lawful_count : (setup : Setup) (report : List ℕ) (entries : ℕ) → IsLawfulReport setup report entries → entries ≡ length (journal_of setup)
lawful_count setup report entries is = sym is.entries_are ∙ ap length (journal_of-whole setup is.journal is.whole)

pub lawful_by : (setup : Setup) (report : List ℕ) → report ≡ text_of setup → IsLawfulReport setup report (length (journal_of setup))
lawful_by setup report same = record { journal = journal_of setup; whole = journal_is_whole setup; text = same; entries_are = refl }

pub fits_text : (setup : Setup) (bytes : List ℕ) → Fits setup bytes → BeginsWith (text_of setup) bytes
fits_text setup bytes fits = record { rest = fits.rest; is = sym (ap (report_text setup) (journal_of-whole setup fits.journal fits.whole)) ∙ fits.begins }

pub fits_by : (setup : Setup) (bytes : List ℕ) → BeginsWith (text_of setup) bytes → Fits setup bytes
fits_by setup bytes begins = record { journal = journal_of setup; whole = journal_is_whole setup; rest = begins.rest; begins = begins.is }

-- a lawful report has no unfit line
unfit_none : (setup : Setup) (report : List ℕ) (entries k : ℕ) → IsLawfulReport setup report entries
    → (((k ≤ lines_in report) × (Fits setup (front_lines k report) → ⊥)) ⊎ ((k ≡ suc (lines_in report)) × ((n : ℕ) → IsLawfulReport setup report n → ⊥))) → ⊥
unfit_none setup report entries k is (inl unfit) =
    let begins = front_begins k report in
    unfit.1 (record { journal = is.journal; whole = is.whole; rest = begins.rest; begins = sym is.text ∙ begins.is })
unfit_none setup report entries k is (inr longer) = longer.1 entries is

pub apart : (setup : Setup) (report : List ℕ) (entries k : ℕ) → IsLawfulReport setup report entries → IsLeastUnfit setup report k → ⊥
apart setup report entries k is least = unfit_none setup report entries k is least.unfit

pub one_count : (setup : Setup) (report : List ℕ) (n m : ℕ) → IsLawfulReport setup report n → IsLawfulReport setup report m → n ≡ m
one_count setup report n m one other = lawful_count setup report n one ∙ sym (lawful_count setup report m other)

not_past : (setup : Setup) (report : List ℕ) (j k : ℕ) → j ≡ suc (lines_in report) → j < k
    → (((k ≤ lines_in report) × (Fits setup (front_lines k report) → ⊥)) ⊎ ((k ≡ suc (lines_in report)) × ((n : ℕ) → IsLawfulReport setup report n → ⊥))) → ⊥
not_past setup report j k last less (inl unfit) = let few = unfit.0 in absurd (omega (arith, last, less, few))
not_past setup report j k last less (inr longer) = let same = longer.0 in absurd (omega (arith, last, less, same))

-- no other unfit line is before the least one
not_before : (setup : Setup) (report : List ℕ) (j k : ℕ) → IsLeastUnfit setup report k → j < k
    → (((j ≤ lines_in report) × (Fits setup (front_lines j report) → ⊥)) ⊎ ((j ≡ suc (lines_in report)) × ((n : ℕ) → IsLawfulReport setup report n → ⊥))) → ⊥
not_before setup report j k least less (inl unfit) = unfit.1 (least.before j less)
not_before setup report j k least less (inr longer) = not_past setup report j k longer.0 less least.unfit

same_by : (j k : ℕ) → (j < k → ⊥) → (k < j → ⊥) → j ≡ k
same_by zero zero less more = refl
same_by zero (suc k) less more = absurd (less (omega arith))
same_by (suc j) zero less more = absurd (more (omega arith))
same_by (suc j) (suc k) less more = ap suc (same_by j k (λ l. less (omega (arith, l))) (λ m. more (omega (arith, m))))

pub one_least : (setup : Setup) (report : List ℕ) (j k : ℕ) → IsLeastUnfit setup report j → IsLeastUnfit setup report k → j ≡ k
one_least setup report j k one other =
    same_by j k (λ less. not_before setup report j k other less one.unfit) (λ more. not_before setup report k j one more other.unfit)

-- ---- what the comparison says

least_unfit_by : (setup : Setup) (report : List ℕ) (k : ℕ)
    → (((k ≤ lines_in report) × (BeginsWith (text_of setup) (front_lines k report) → ⊥)) ⊎ ((k ≡ suc (lines_in report)) × (report ≡ text_of setup → ⊥)))
    → (((k ≤ lines_in report) × (Fits setup (front_lines k report) → ⊥)) ⊎ ((k ≡ suc (lines_in report)) × ((n : ℕ) → IsLawfulReport setup report n → ⊥)))
least_unfit_by setup report k (inl unfit) = inl (unfit.0, λ fits. unfit.1 (fits_text setup (front_lines k report) fits))
least_unfit_by setup report k (inr longer) = inr (longer.0, λ n is. longer.1 (lawful_text setup report n is))

pub least_unfit : (setup : Setup) (report : List ℕ) (k : ℕ) → DiffersAt (text_of setup) report k → IsLeastUnfit setup report k
least_unfit setup report k differs = record {
  from_one = differs.some;
  before = λ j less. fits_by setup (front_lines j report) (differs.before j less);
  unfit = least_unfit_by setup report k differs.at;
}

pub verdict_is : (setup : Setup) (report : List ℕ) (found : Option ℕ) → Compares (text_of setup) report found → IsVerdict setup report (verdict_by (length (journal_of setup)) found)
verdict_is setup report None same = record {
  lawful = λ entries is. let n : length (journal_of setup) ≡ entries = cc in subst (IsLawfulReport setup report) n (lawful_by setup report same);
  accepts = λ entries is. inl (ap Ok (sym (lawful_count setup report entries is)));
  unlawful = λ line is. absurd (cc);
  none = λ line entries is lawful. absurd (cc);
  refuses = λ no. absurd (no (length (journal_of setup)) (lawful_by setup report same));
}
verdict_is setup report (Some line) found = record {
  lawful = λ entries is. absurd (cc);
  accepts = λ entries is. absurd (apart setup report entries found.0 is (least_unfit setup report found.0 found.2));
  unlawful = λ at is. let same : line ≡ at = cc in (found.0, sym same ∙ found.1, least_unfit setup report found.0 found.2);
  none = λ at entries is lawful. apart setup report entries found.0 lawful (least_unfit setup report found.0 found.2);
  refuses = λ no. inl (line, refl);
}

-- The line that is due, by the number of those before it.
use Rattle.std.proofs.Common.{◌≡◌, ◌≤◌, ◌<◌, ◌+◌, ◌-◌, ◌∙◌, ℕ, zero, suc, Bool, true, false, Some, None, List, [], ◌∷◌, ◌++◌, length, slice_get, refl, sym, ap, subst, arith, append-nil, append_assoc, length-append}
use Rattle.std.specs.Prelude.{Option}
use Rattle.std.proofs.lemmas.Option.{slice_get_past}
use Rattle.hmc_entries.specs.Lines.{line_of}
use Rattle.hmc_entries.specs.Text.{lines_of}
use Rattle.hmc_entries.specs.declared.entry.Entry.{Entry}
use Rattle.hmc_journal.specs.Final.{final_lines_of}
use Rattle.hmc_journal.specs.Lawful.{has_passed, Lawful, journal_of}
use Rattle.hmc_journal.specs.Setup.{Setup}
use Rattle.hmc_journal.proofs.OneJournal.{journal_of-whole}
use Rattle.hmc_report.specs.Final.{final_lines}
use Rattle.hmc_schedule.specs.declared.step.Step.{Step}
use Rattle.hmc_check.specs.Due.{IsDue}
use Rattle.hmc_check.specs.Finished.{past_values}
use Rattle.hmc_check.specs.Following.{IsBefore, IsAfter}
use Rattle.hmc_check.specs.Past.{PastFields}
use Rattle.hmc_journal.specs.Report.{lines_unless, report_lines}
use Rattle.hmc_check.specs.Until.{TakenUntil}
use Rattle.hmc_check.specs.declared.due.Until.TheVariants.{Due, Passed}
use Rattle.hmc_journal.proofs.Left.{all_whole, passed_whole, lines-next, begins}

-- ---- places of lists

get_here : {X : Type 0} (xs : List X) (y : X) (ys : List X) → slice_get (xs ++ y ∷ ys) (length xs) ≡ Some y
get_here [] y ys = refl
get_here (x ∷ xs) y ys = get_here xs y ys

get_later : {X : Type 0} (xs ys : List X) (n : ℕ) → length xs ≤ n → slice_get (xs ++ ys) n ≡ slice_get ys (n - length xs)
get_later [] ys n more = let same : n ≡ n - 0 = omega arith in ap (slice_get ys) same
get_later (x ∷ xs) ys zero more = absurd (omega (arith, more))
get_later (x ∷ xs) ys (suc n) more =
    let same : n - length xs ≡ suc n - length (x ∷ xs) = omega arith in
    get_later xs ys n (omega (arith, more)) ∙ ap (slice_get ys) same

-- each entry has a line
count_is : (past : List Entry) → length (lines_of past) ≡ length past
unfolding lines_of
count_is [] = refl
count_is (entry ∷ past) = omega (arith, length-append (lines_of past) (line_of entry ∷ []), count_is past)

-- ---- the lines of the report

report_by : (setup : Setup) (journal : List Entry) (passed : Bool) → has_passed journal ≡ passed → report_lines setup journal ≡ lines_of journal ++ lines_unless passed (final_lines_of setup journal)
unfolding report_lines
report_by setup journal passed is = ap (λ (p : Bool). lines_of journal ++ lines_unless p (final_lines_of setup journal)) is

-- the line of an entry
pub entry_due : (setup : Setup) (past : List Entry) (entry : Entry) → Lawful setup (entry ∷ past) → slice_get (report_lines setup (journal_of setup)) (length past) ≡ Some (line_of entry)
entry_due setup past entry lawful =
    let more = begins setup (entry ∷ past) lawful in
    let final = lines_unless (has_passed (journal_of setup)) (final_lines_of setup (journal_of setup)) in
    let whole : report_lines setup (journal_of setup) ≡ lines_of past ++ line_of entry ∷ (more.0 ++ final) =
    report_by setup (journal_of setup) (has_passed (journal_of setup)) refl
    ∙ ap (λ (l : List (List ℕ)). l ++ final) (more.1 ∙ ap (λ (l : List (List ℕ)). l ++ more.0) (lines-next entry past) ∙ append_assoc (lines_of past) (line_of entry ∷ []) more.0)
    ∙ append_assoc (lines_of past) (line_of entry ∷ more.0) final in
    ap (λ (l : List (List ℕ)). slice_get l (length past)) whole
    ∙ ap (λ (n : ℕ). slice_get (lines_of past ++ line_of entry ∷ (more.0 ++ final)) n) (sym (count_is past))
    ∙ get_here (lines_of past) (line_of entry) (more.0 ++ final)

-- after a landing that passed none is due
pub none_due : (p : PastFields) (setup : Setup) (past : List Entry) (before : ℕ) → IsAfter p setup past true → length past < before → None ≡ slice_get (report_lines setup (journal_of setup)) before
none_due p setup past before after less =
    let ends : has_passed (p.last ∷ past) ≡ true = sym after.passed_is in
    let whole : p.last ∷ past ≡ journal_of setup = passed_whole setup past p.last after.stands.holds.lawful ends in
    let lines : report_lines setup (journal_of setup) ≡ lines_of (p.last ∷ past) =
    ap (report_lines setup) (sym whole) ∙ report_by setup (p.last ∷ past) true ends ∙ append-nil (lines_of (p.last ∷ past)) in
    sym (ap (λ (l : List (List ℕ)). slice_get l before) lines ∙ slice_get_past (lines_of (p.last ∷ past)) before (omega (arith, less, count_is (p.last ∷ past))))

-- after all steps a final line is
pub final_due : (p : PastFields) (setup : Setup) (past : List Entry) (before more : ℕ) → IsBefore p setup past [] → length past + more ≡ before → final_lines (past_values p) ≡ final_lines_of setup past
    → slice_get (final_lines (past_values p)) more ≡ slice_get (report_lines setup (journal_of setup)) before
final_due p setup past before more is count shown =
    let whole : past ≡ journal_of setup = all_whole setup past is.stands.holds.lawful is.leaves in
    let lines : report_lines setup (journal_of setup) ≡ lines_of past ++ final_lines (past_values p) =
    ap (report_lines setup) (sym whole) ∙ report_by setup past false is.leaves.goes_on ∙ ap (λ (l : List (List ℕ)). lines_of past ++ l) (sym shown) in
    let left : before - length (lines_of past) ≡ more = omega (arith, count_is past, count) in
    sym (ap (λ (l : List (List ℕ)). slice_get l before) lines
    ∙ get_later (lines_of past) (final_lines (past_values p)) before (omega (arith, count_is past, count))
    ∙ ap (slice_get (final_lines (past_values p))) left)

-- ---- how far the steps were taken

-- the last of them passed
pub passed_true : (p : PastFields) (setup : Setup) (past : List Entry) (passed : Bool) → IsAfter p setup past passed → passed ≡ true → IsAfter p setup past true
passed_true p setup past passed after is = subst (λ (b : Bool). IsAfter p setup past b) is after

-- by the number of the line among all
pub due_of : (p : PastFields) (setup : Setup) (left other : List Step) (before count more all : ℕ) → before ≡ count → TakenUntil Due p setup left before more → TakenUntil Due p setup other count all
due_of p setup left other before count more all is found = (found.0, found.1, found.2, found.3 ∙ is)

pub passed_of : (p : PastFields) (setup : Setup) (left other : List Step) (before count more all : ℕ) → before ≡ count → TakenUntil Passed p setup left before more → TakenUntil Passed p setup other count all
passed_of p setup left other before count more all is found = (found.0, found.1, omega (arith, is, found.2))

-- ---- by the number of the line

-- every whole lawful journal is the one
pub due_by : (setup : Setup) (before : ℕ) (found : Option (List ℕ)) → found ≡ slice_get (report_lines setup (journal_of setup)) before → IsDue setup (suc before) found
due_by setup before found is journal whole = is ∙ ap (λ (j : List Entry). slice_get (report_lines setup j) before) (sym (journal_of-whole setup journal whole))

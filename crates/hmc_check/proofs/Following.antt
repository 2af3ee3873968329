-- A report is followed by the steps of a case.
use Rattle.std.proofs.Common.{◌≡◌, ◌≤◌, ◌<◌, ◌+◌, ◌∙◌, inr, ℕ, Bool, true, false, Option, List, [], ◌∷◌, ◌++◌, length, Result, Ok, Err, refl, sym, ap, subst, arith, add-one, append-nil, append_assoc, length-append}
use Rattle.std.specs.Prelude.{◌^◌, OnOk}
use Rattle.std.specs.List.{concat}
use Rattle.std.proofs.lemmas.List.Folds.{concat-append}
use Rattle.std.proofs.lemmas.List.{append_cancel_right}
use Rattle.hmc_schedule.specs.declared.step.Step.{Step}
use Rattle.hmc_entries.specs.declared.entry.Entry.{Entry}
use Rattle.hmc_entries.specs.Event.{is_passed}
use Rattle.hmc_journal.specs.Final.{final_lines_of}
use Rattle.hmc_journal.specs.Lawful.{has_passed, Lawful, journal_of}
use Rattle.hmc_entries.specs.Lines.{line_of}
use Rattle.hmc_journal.specs.Setup.{Setup}
use Rattle.hmc_entries.specs.Text.{lines_of}
use Rattle.hmc_journal.proofs.Left.{none_taken, next_step, some_left, one_taken, all_whole, passed_whole, lines-next, begins}
use Rattle.hmc_report.specs.Final.{final_lines}
use Rattle.hmc_check.specs.Finished.{past_values}
use Rattle.hmc_check.specs.Past.{PastFields, Keeps}
use Rattle.hmc_check.specs.Differs.{Compares, HasCome, FollowsText, verdict_by}
use Rattle.hmc_journal.specs.Report.{lines_unless, report_lines, report_text}
use Rattle.hmc_check.specs.Verdict.{IsVerdict}
use Rattle.hmc_check.specs.declared.checker.CheckFault.TheVariants.{Memory}
use Rattle.hmc_check.proofs.Verdicts.{verdict_is}
use Rattle.hmc_check.specs.Following.{IsBefore, IsDueStep, IsAfter, HasLines, IsFollowing, FollowedAll}

-- ---- the steps that are left

-- the first of them comes next
pub next_due : (p : PastFields) (setup : Setup) (past : List Entry) (step : Step) (left : List Step) → IsBefore p setup past (step ∷ left) → IsDueStep p setup past step
next_due p setup past step left is = record {
  next = record { holds = is.stands.holds; goes_on = is.leaves.goes_on; step_is = next_step setup past step left is.leaves };
  counts = is.stands.counts;
}

-- so there is a number for its entry
pub some_number : (p : PastFields) (setup : Setup) (past : List Entry) (step : Step) (left : List Step) → IsBefore p setup past (step ∷ left) → length past + 1 < 2 ^ 32
some_number p setup past step left is = let few = is.stands.counts.few in omega (arith, few, some_left setup past step left is.leaves)

pub after_step : (net : PastFields) (setup : Setup) (past : List Entry) (entry : Entry) (passed : Bool) → Keeps setup (entry ∷ past) net → net.last ≡ entry → passed ≡ is_passed net.last → IsAfter net setup past passed
after_step net setup past entry passed stands is passed_is =
    record { stands = subst (λ (e : Entry). Keeps setup (e ∷ past) net) (sym is) stands; passed_is = passed_is }

pub one_more : (p new : PastFields) (setup : Setup) (past : List Entry) (step : Step) (left : List Step) (passed : Bool) → IsBefore p setup past (step ∷ left) → IsAfter new setup past passed → passed ≡ false → IsBefore new setup (new.last ∷ past) left
one_more p new setup past step left passed is after on =
    record { stands = after.stands; leaves = one_taken setup past new.last step left is.leaves (sym after.passed_is ∙ on) }

-- in a new state nothing was taken
pub opening_at : (p : PastFields) (setup : Setup) (steps : List Step) → Keeps setup [] p → setup.schedule ≡ steps → IsBefore p setup [] steps
opening_at p setup steps stands same = record { stands = stands; leaves = none_taken setup steps same }

-- ---- lines

-- the text of the report goes on with the line of the next entry
pub text_goes : (setup : Setup) (past : List Entry) (entry : Entry) → Lawful setup (entry ∷ past)
    → (later : List ℕ) × (report_text setup (journal_of setup) ≡ concat (lines_of past) ++ (line_of entry ++ later))
unfolding report_text report_lines
text_goes setup past entry lawful =
    let more = begins setup (entry ∷ past) lawful in
    let final = lines_unless (has_passed (journal_of setup)) (final_lines_of setup (journal_of setup)) in (
      concat more.0 ++ concat final,
      concat-append (lines_of (journal_of setup)) final
          ∙ ap (λ (l : List (List ℕ)). concat l ++ concat final) (more.1 ∙ ap (λ (l : List (List ℕ)). l ++ more.0) (lines-next entry past) ∙ append_assoc (lines_of past) (line_of entry ∷ []) more.0)
          ∙ ap (λ (t : List ℕ). t ++ concat final) (concat-append (lines_of past) (line_of entry ∷ more.0))
          ∙ append_assoc (concat (lines_of past)) (line_of entry ++ concat more.0) (concat final)
          ∙ ap (λ (t : List ℕ). concat (lines_of past) ++ t) (append_assoc (line_of entry) (concat more.0) (concat final)),
    )

-- it comes after what is gathered
pub line_come : (setup : Setup) (past : List Entry) (entry : Entry) (report rest text : List ℕ) → (lawful : Lawful setup (entry ∷ past)) → HasLines past report rest text
    → HasCome (report_text setup (journal_of setup)) report rest (text ++ (line_of entry ++ (text_goes setup past entry lawful).0))
line_come setup past entry report rest text lawful lines =
    let goes = text_goes setup past entry lawful in record {
      came = lines.came;
      report_is = lines.report_is;
      text_is = goes.1 ∙ ap (λ (t : List ℕ). t ++ (line_of entry ++ goes.0)) lines.lines_are ∙ append_assoc lines.came text (line_of entry ++ goes.0);
    }

line_end : (past : List Entry) (entry : Entry) → concat (lines_of past) ++ line_of entry ≡ concat (lines_of (entry ∷ past))
unfolding lines_of
line_end past entry = ap (λ (t : List ℕ). concat (lines_of past) ++ t) (sym (append-nil (line_of entry))) ∙ sym (concat-append (lines_of past) (line_of entry ∷ []))

-- where it is gathered, the lines of all entries have come, except what is
pub line_has : (setup : Setup) (past : List Entry) (entry : Entry) (report rest text all : List ℕ) → (lawful : Lawful setup (entry ∷ past)) → HasCome (report_text setup (journal_of setup)) report rest (text ++ (line_of entry ++ (text_goes setup past entry lawful).0)) → all ≡ text ++ line_of entry
    → HasLines (entry ∷ past) report rest all
line_has setup past entry report rest text all lawful come is =
    let goes = text_goes setup past entry lawful in
    let same : concat (lines_of past) ++ line_of entry ≡ come.came ++ (text ++ line_of entry) =
    append_cancel_right (concat (lines_of past) ++ line_of entry) (come.came ++ (text ++ line_of entry)) goes.0
    (append_assoc (concat (lines_of past)) (line_of entry) goes.0 ∙ sym goes.1 ∙ come.text_is
    ∙ ap (λ (t : List ℕ). come.came ++ t) (sym (append_assoc text (line_of entry) goes.0)) ∙ sym (append_assoc come.came (text ++ line_of entry) goes.0)) in record {
      came = come.came;
      report_is = come.report_is;
      lines_are = sym (line_end past entry) ∙ same ∙ ap (λ (t : List ℕ). come.came ++ t) (sym is);
    }

pub no_lines : (report text : List ℕ) → text ≡ [] → HasLines [] report report text
unfolding lines_of
no_lines report text none = record { came = []; report_is = refl; lines_are = sym none }

-- what is left is no longer than the report
pub rest_few : (past : List Entry) (report rest text : List ℕ) → HasLines past report rest text → length rest ≤ length report
rest_few past report rest text lines = omega (arith, ap length lines.report_is, length-append lines.came rest)

-- the same where these bytes are those that are gathered
pub text_come : (whole report rest text due later : List ℕ) → HasCome whole report rest (text ++ later) → due ≡ text → HasCome whole report rest (due ++ later)
text_come whole report rest text due later come is = subst (λ (t : List ℕ). HasCome whole report rest (t ++ later)) (sym is) come

-- what is gathered was compared
pub nothing_more : (whole report rest later text : List ℕ) (result : Result (Unit {0}) ℕ) → OnOk result (text ≡ []) → FollowsText whole report rest later result → FollowsText whole report rest (text ++ later) result
nothing_more whole report rest later text (Ok done) none come = subst (λ (t : List ℕ). HasCome whole report rest (t ++ later)) (sym none) come
nothing_more whole report rest later text (Err line) none differs = differs

pub room_of_none : (text : List ℕ) (result : Result (Unit {0}) ℕ) → OnOk result (text ≡ []) → OnOk result (length text + 2048 ≤ 8192)
room_of_none text (Ok done) none = omega (arith, ap length none)
room_of_none text (Err line) none = none

-- ---- all steps

-- none is left
pub followed_all : (p : PastFields) (setup : Setup) (past : List Entry) (report rest text : List ℕ) (entries : ℕ) → IsFollowing p setup past [] report rest text entries → FollowedAll p setup report rest text false entries
followed_all p setup past report rest text entries is =
    let whole : past ≡ journal_of setup = all_whole setup past is.before.stands.holds.lawful is.before.leaves in record {
      stands = subst (λ (j : List Entry). Keeps setup j p) whole is.before.stands;
      passed_is = sym is.before.leaves.goes_on ∙ ap has_passed whole;
      entries_are = is.entries_are ∙ ap length whole;
      lines = subst (λ (j : List Entry). HasLines j report rest text) whole is.lines;
    }

-- a landing passed
pub followed_passed : (p : PastFields) (setup : Setup) (past : List Entry) (report rest text : List ℕ) (entries : ℕ) → IsAfter p setup past true → HasLines (p.last ∷ past) report rest text → entries ≡ length past + 1 → FollowedAll p setup report rest text true entries
followed_passed p setup past report rest text entries after lines entries_are =
    let whole : p.last ∷ past ≡ journal_of setup = passed_whole setup past p.last after.stands.holds.lawful (sym after.passed_is) in record {
      stands = subst (λ (j : List Entry). Keeps setup j p) whole after.stands;
      passed_is = after.passed_is ∙ ap has_passed whole;
      entries_are = entries_are ∙ add-one (length past) ∙ ap length whole;
      lines = subst (λ (j : List Entry). HasLines j report rest text) whole lines;
    }

-- ---- the final lines

text_by : (setup : Setup) (journal : List Entry) (passed : Bool) → passed ≡ has_passed journal → report_text setup journal ≡ concat (lines_of journal) ++ concat (lines_unless passed (final_lines_of setup journal))
unfolding report_text report_lines
text_by setup journal passed is =
    concat-append (lines_of journal) (lines_unless (has_passed journal) (final_lines_of setup journal))
    ∙ ap (λ (p : Bool). concat (lines_of journal) ++ concat (lines_unless p (final_lines_of setup journal))) (sym is)

-- the text goes on with what is gathered and with the final lines
text_behind : (setup : Setup) (report rest text : List ℕ) (passed : Bool) → passed ≡ has_passed (journal_of setup) → HasLines (journal_of setup) report rest text
    → HasCome (report_text setup (journal_of setup)) report rest (text ++ concat (lines_unless passed (final_lines_of setup (journal_of setup))))
text_behind setup report rest text passed is lines =
    let final = concat (lines_unless passed (final_lines_of setup (journal_of setup))) in record {
      came = lines.came;
      report_is = lines.report_is;
      text_is = text_by setup (journal_of setup) passed is ∙ ap (λ (t : List ℕ). t ++ final) lines.lines_are ∙ append_assoc lines.came text final;
    }

pub gathered_come : (p : PastFields) (setup : Setup) (report rest text : List ℕ) (passed : Bool) (entries : ℕ) → FollowedAll p setup report rest text passed entries
    → HasCome (report_text setup (journal_of setup)) report rest (text ++ concat (lines_unless passed (final_lines_of setup (journal_of setup))))
gathered_come p setup report rest text passed entries all = text_behind setup report rest text passed all.passed_is all.lines

-- none is gathered any more
pub compared_all : (p : PastFields) (setup : Setup) (report rest more text : List ℕ) (passed : Bool) (entries now : ℕ) → FollowedAll p setup report rest text passed entries
    → HasCome (report_text setup (journal_of setup)) report more (concat (lines_unless passed (final_lines_of setup (journal_of setup))))
    → now ≡ entries → FollowedAll p setup report more [] passed now
compared_all p setup report rest more text passed entries now all come same_entries =
    let final = concat (lines_unless passed (final_lines_of setup (journal_of setup))) in
    let same : concat (lines_of (journal_of setup)) ≡ come.came =
    append_cancel_right (concat (lines_of (journal_of setup))) come.came final (sym (text_by setup (journal_of setup) passed all.passed_is) ∙ come.text_is) in record {
      stands = all.stands;
      passed_is = all.passed_is;
      entries_are = same_entries ∙ all.entries_are;
      lines = record { came = come.came; report_is = come.report_is; lines_are = same ∙ sym (append-nil come.came) };
    }

pub ended_passed : (p : PastFields) (setup : Setup) (report rest : List ℕ) (entries : ℕ) → FollowedAll p setup report rest [] true entries → HasCome (report_text setup (journal_of setup)) report rest []
ended_passed p setup report rest entries all = text_behind setup report rest [] true all.passed_is all.lines

pub before_final : (p : PastFields) (setup : Setup) (report rest : List ℕ) (entries : ℕ) → FollowedAll p setup report rest [] false entries → final_lines (past_values p) ≡ final_lines_of setup (journal_of setup)
    → HasCome (report_text setup (journal_of setup)) report rest (concat (final_lines (past_values p)))
before_final p setup report rest entries all lines =
    subst (λ (l : List (List ℕ)). HasCome (report_text setup (journal_of setup)) report rest (concat l)) (sym lines) (text_behind setup report rest [] false all.passed_is all.lines)

-- ---- the verdict

pub verdict_of : (setup : Setup) (report : List ℕ) (entries : ℕ) (found : Option ℕ) → Compares (report_text setup (journal_of setup)) report found → entries ≡ length (journal_of setup) → IsVerdict setup report (verdict_by entries found)
verdict_of setup report entries found compared is = subst (λ (n : ℕ). IsVerdict setup report (verdict_by n found)) (sym is) (verdict_is setup report found compared)

pub final_come : (text report rest due bytes : List ℕ) (left now : List (List ℕ)) → HasCome text report rest (concat left) → left ≡ bytes ∷ now → due ≡ bytes → HasCome text report rest (due ++ concat now)
final_come text report rest due bytes left now come is due_is =
    subst (λ (t : List ℕ). HasCome text report rest (t ++ concat now)) (sym due_is) (subst (λ (l : List (List ℕ)). HasCome text report rest (concat l)) is come)

pub memory_verdict : (setup : Setup) (report : List ℕ) → IsVerdict setup report (Err Memory)
memory_verdict setup report = record {
  lawful = λ entries is. absurd (cc);
  accepts = λ entries is. inr refl;
  unlawful = λ line is. absurd (cc);
  none = λ line entries is lawful. absurd (cc);
  refuses = λ no. inr refl;
}

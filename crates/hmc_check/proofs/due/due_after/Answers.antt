-- It is the line of the step that was taken, or comes later, or none is due.
use Rattle.std.proofs.Common.{◌∙◌, ℕ, List, Some, sym, ap, slice_get}
use Rattle.hmc_journal.specs.Lawful.{journal_of}
use Rattle.hmc_journal.specs.Report.{report_lines}
use Rattle.hmc_check.proofs.DueLines.{entry_due, none_due, final_due}
use Rattle.hmc_check.proofs.due.due_after.Goals as goal

pub returns-in-Due : goal.returns-in-Due
returns-in-Due g c = λ setup is.
    let found = c.in-Due.ensures setup is in
    ap (λ (t : List ℕ). Some t) c.last_line.ensures ∙ sym (entry_due setup found.0 _ found.2.stands.holds.lawful)
    ∙ ap (λ (n : ℕ). slice_get (report_lines setup (journal_of setup)) n) found.3

pub returns-in-Passed : goal.returns-in-Passed
returns-in-Passed g c = λ setup is.
    let found = c.in-Passed.ensures setup is in none_due _ setup found.0 _ found.1 found.2

pub returns-in-Later : goal.returns-in-Later
returns-in-Later g c = λ setup is.
    let found = c.in-Later.ensures setup is in
    let shown = c.shows_journal.ensures setup found.0 found.1.stands found.1.leaves.goes_on in
    c.final_line.ensures ∙ final_due _ setup found.0 _ _ found.1 found.2 shown

-- Of an extent that isn't the whole report: by whether a landing passed, or a write failed.
use Rattle.hmc_journal.specs.Lawful.{journal_of}
use Rattle.hmc_replay.proofs.Stepping.{stepped_late}
use Rattle.hmc_replay.proofs.Reports.{end-passed, end-broken, none_passed, end-written, end-broken_late, forwarded}
use Rattle.hmc_replay.proofs.report.write_lines.Goals as goal

pub returns-in_err-write_entry-clause-written : goal.returns-in_err-write_entry-clause-written
returns-in_err-write_entry-clause-written g c = λ setup is.
    forwarded _ _ _ _ c.in_err-write_entry.field-0.0 c.from_residual.result
    c.from_residual.ensures.1
    (end-broken _ _ setup _ _ _ _ c.in_default.not-Whole c.if-passed.true (c.take_steps-passed.ensures setup is)
    c.last.ensures c.in_err-write_entry.ensures)

pub returns-in_ok-write_entry-clause-written : goal.returns-in_ok-write_entry-clause-written
returns-in_ok-write_entry-clause-written g c = λ setup is.
    end-passed _ _ setup _ _ _ _ c.in_default.not-Whole c.if-passed.true (c.take_steps-passed.ensures setup is)
    c.last.ensures c.in_ok-write_entry.ensures

pub returns-in_err-write_ending-clause-written : goal.returns-in_err-write_ending-clause-written
returns-in_err-write_ending-clause-written g c = λ setup is.
    let took = c.take_steps-passed.ensures setup is in
    forwarded _ _ _ _ c.in_err-write_ending.field-0.0 c.from_residual-in_err-write_ending.result
    c.from_residual-in_err-write_ending.ensures.1
    (end-broken_late _ _ setup _ _ _ c.in_default.not-Whole c.if-passed.false took
    (c.in_err-write_ending.ensures setup (journal_of setup) took.stands
    (none_passed _ setup _ c.if-passed.false took)))

pub returns-in_ok-write_ending-clause-written : goal.returns-in_ok-write_ending-clause-written
returns-in_ok-write_ending-clause-written g c = λ setup is.
    let took = c.take_steps-passed.ensures setup is in
    end-written _ _ setup _ _ _ c.in_default.not-Whole c.if-passed.false took
    (c.in_ok-write_ending.ensures setup (journal_of setup) took.stands
    (none_passed _ setup _ c.if-passed.false took))

pub returns-in_err-write_entry-clause-stepped : goal.returns-in_err-write_entry-clause-stepped
returns-in_err-write_entry-clause-stepped g c = λ setup is.
    stepped_late _ _ setup _ _ c.in_err-write_entry.field-0.0 c.from_residual.result
    c.from_residual.ensures.1 (c.take_steps-passed.ensures setup is).stands

pub returns-in_ok-write_entry-clause-stepped : goal.returns-in_ok-write_entry-clause-stepped
returns-in_ok-write_entry-clause-stepped g c =
    λ setup is. (c.take_steps-passed.ensures setup is).stands

pub returns-in_err-write_ending-clause-stepped : goal.returns-in_err-write_ending-clause-stepped
returns-in_err-write_ending-clause-stepped g c = λ setup is.
    stepped_late _ _ setup _ _ c.in_err-write_ending.field-0.0
    c.from_residual-in_err-write_ending.result
    c.from_residual-in_err-write_ending.ensures.1 (c.take_steps-passed.ensures setup is).stands

pub returns-in_ok-write_ending-clause-stepped : goal.returns-in_ok-write_ending-clause-stepped
returns-in_ok-write_ending-clause-stepped g c =
    λ setup is. (c.take_steps-passed.ensures setup is).stands

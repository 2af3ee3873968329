-- By whether a landing passed, or a write failed.
use Rattle.std.proofs.Common.{inl, inr}
use Rattle.hmc_journal.specs.Lawful.{journal_of}
use Rattle.hmc_replay.proofs.Stepping.{broken_all, stepped_err}
use Rattle.hmc_replay.proofs.Reports.{whole-broken, whole-passed, whole-written, whole-broken_late, none_passed, forwarded}
use Rattle.hmc_replay.proofs.report.write_whole.Goals as goal

pub returns-in_err-passed-clause-written : goal.returns-in_err-passed-clause-written
returns-in_err-passed-clause-written g c = λ setup is.
    forwarded _ _ _ _ c.in_err-passed.field-0.0 c.from_residual.result c.from_residual.ensures.1 (whole-broken setup _ _ (broken_all _ setup _ _ (c.in_err-passed.ensures setup is)))

pub returns-else-not-passed-clause-written : goal.returns-else-not-passed-clause-written
returns-else-not-passed-clause-written g c = λ setup is. let took = c.in_ok-passed.ensures setup is in whole-passed _ setup _ _ _ c.if-not-passed.false took.0 took.1

pub returns-in_err-write_ending-clause-written : goal.returns-in_err-write_ending-clause-written
returns-in_err-write_ending-clause-written g c = λ setup is.
    let took = c.in_ok-passed.ensures setup is in
    forwarded _ _ _ _ c.in_err-write_ending.field-0.0 c.from_residual-in_err-write_ending.result c.from_residual-in_err-write_ending.ensures.1
    (whole-broken_late _ setup _ _ _ _ c.if-not-passed.true took.0 took.1 (c.in_err-write_ending.ensures setup (journal_of setup) took.0.stands (none_passed _ setup _ c.if-not-passed.true took.0)))

pub returns-in_ok-write_ending-clause-written : goal.returns-in_ok-write_ending-clause-written
returns-in_ok-write_ending-clause-written g c = λ setup is.
    let took = c.in_ok-passed.ensures setup is in whole-written _ setup _ _ _ _ c.if-not-passed.true took.0 took.1 (c.in_ok-write_ending.ensures setup (journal_of setup) took.0.stands (none_passed _ setup _ c.if-not-passed.true took.0))

pub returns-in_err-passed-clause-stepped : goal.returns-in_err-passed-clause-stepped
returns-in_err-passed-clause-stepped g c = λ setup is. stepped_err _ setup _ _ c.in_err-passed.field-0.0 c.from_residual.result c.from_residual.ensures.1 (inr (c.in_err-passed.ensures setup is))

pub returns-else-not-passed-clause-stepped : goal.returns-else-not-passed-clause-stepped
returns-else-not-passed-clause-stepped g c = λ setup is. (c.in_ok-passed.ensures setup is).0.stands

pub returns-in_err-write_ending-clause-stepped : goal.returns-in_err-write_ending-clause-stepped
returns-in_err-write_ending-clause-stepped g c = λ setup is.
    stepped_err _ setup _ _ c.in_err-write_ending.field-0.0 c.from_residual-in_err-write_ending.result c.from_residual-in_err-write_ending.ensures.1 (inl (c.in_ok-passed.ensures setup is).0.stands)

pub returns-in_ok-write_ending-clause-stepped : goal.returns-in_ok-write_ending-clause-stepped
returns-in_ok-write_ending-clause-stepped g c = λ setup is. (c.in_ok-passed.ensures setup is).0.stands

-- What was written is handed on, or a call failed.
use Rattle.std.proofs.Common.{inl}
use Rattle.hmc_replay.proofs.Stepping.{stepped_on, stepped_late}
use Rattle.hmc_replay.proofs.Reports.{not_delivered}
use Rattle.hmc_replay.proofs.report.write_report.Goals as goal

pub returns-in_err-passed-clause-written : goal.returns-in_err-passed-clause-written
returns-in_err-passed-clause-written g c = λ setup is.
    not_delivered _ _ _ _ c.in_err-passed.field-0.0 c.from_residual.result c.from_residual.ensures.1 (inl (c.in_err-passed.ensures.written setup is))

pub returns-in_err-finish-clause-written : goal.returns-in_err-finish-clause-written
returns-in_err-finish-clause-written g c = λ setup is.
    not_delivered _ _ _ _ c.in_err-finish.field-0.0 c.from_residual-in_err-finish.result c.from_residual-in_err-finish.ensures.1 (c.in_err-finish.ensures _ _ (c.in_ok-passed.ensures.written setup is).0)

pub returns-clause-written : goal.returns-clause-written
returns-clause-written g c = λ setup is. let wrote = c.in_ok-passed.ensures.written setup is in (c.in_ok-finish.ensures _ _ wrote.0, wrote.1)

pub returns-clause-guarantees : goal.returns-clause-guarantees
returns-clause-guarantees g c = λ setup is. c.journal_guarantees.ensures setup is.stands.network

pub returns-in_err-passed-clause-drained : goal.returns-in_err-passed-clause-drained
returns-in_err-passed-clause-drained g c = λ setup is. c.drains.ensures.ends setup is.stands.network

pub returns-in_err-finish-clause-drained : goal.returns-in_err-finish-clause-drained
returns-in_err-finish-clause-drained g c = λ setup is. c.drains.ensures.ends setup is.stands.network

pub returns-clause-drained : goal.returns-clause-drained
returns-clause-drained g c = λ setup is. c.drains.ensures.ends setup is.stands.network

pub returns-in_err-passed-clause-stepped : goal.returns-in_err-passed-clause-stepped
returns-in_err-passed-clause-stepped g c = λ setup is.
    stepped_on _ _ setup _ _ c.in_err-passed.field-0.0 c.from_residual.result c.from_residual.ensures.1 (c.in_err-passed.ensures.stepped setup is)

pub returns-in_err-finish-clause-stepped : goal.returns-in_err-finish-clause-stepped
returns-in_err-finish-clause-stepped g c = λ setup is.
    stepped_late _ _ setup _ _ c.in_err-finish.field-0.0 c.from_residual-in_err-finish.result c.from_residual-in_err-finish.ensures.1 (c.in_ok-passed.ensures.stepped setup is)

pub returns-clause-stepped : goal.returns-clause-stepped
returns-clause-stepped g c = λ setup is. c.in_ok-passed.ensures.stepped setup is

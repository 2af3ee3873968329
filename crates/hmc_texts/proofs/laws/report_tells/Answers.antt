-- A report has one division into lines, and the final lines begin where no entry's line is.
use Rattle.hmc_texts.proofs.Reports.{report_tells, cases_tell}
use Rattle.hmc_texts.proofs.laws.report_tells.Goals as goal

pub returns-clause-journal : goal.returns-clause-journal
returns-clause-journal c = report_tells

pub returns-clause-cases : goal.returns-clause-cases
returns-clause-cases c = cases_tell

-- The words of each line have no line feed.
use Rattle.hmc_texts.proofs.EntryLines.{entry_line}
use Rattle.hmc_texts.proofs.Reports.{report_is_lines, report_is_cut}
use Rattle.hmc_texts.proofs.laws.reports_are_lines.Goals as goal

pub returns-clause-entry : goal.returns-clause-entry
returns-clause-entry c = entry_line

pub returns-clause-report : goal.returns-clause-report
returns-clause-report c = report_is_lines

pub returns-clause-cut : goal.returns-clause-cut
returns-clause-cut c = report_is_cut

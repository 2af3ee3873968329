-- The report of a case, in memory.
use Rattle.std.specs.Prelude.{[], Some, None, false}
use Rattle.hmc_outside.specs.Views.{SinkView}
use Rattle.hmc_c.specs.declared.report.Report.{Report}

-- a report in memory shows its bytes, and no pieces
abbrev pub report_view : Report → SinkView
report_view report = record {
  pieces = None;
  bytes = Some report.bytes.items;
  writes = report.writes;
  finishes = report.finishes;
  faults = report.faults;
  failed = report.failed;
  finished = report.finished;
}

-- before the first call
abbrev pub empty_report : SinkView
empty_report = record {
  pieces = None;
  bytes = Some [];
  writes = 0;
  finishes = 0;
  faults = 0;
  failed = false;
  finished = false;
}

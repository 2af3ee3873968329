-- A reader of std as a source.
use Rattle.std.specs.Prelude.{ℕ, List, Option}
use Rattle.hmc_outside.specs.Counts.{ReadCounts}
use Rattle.hmc_outside.specs.Views.{SourceView}
use Rattle.hmc_outside.specs.declared.std_source.StdSource.{StdSource}

-- the reader that the bytes come from
abbrev pub reader_of : {R : Type 0} → StdSource R → R
reader_of source = source.reader

-- what such bytes and counts show
abbrev pub view_with : (left : Option (List ℕ)) → ReadCounts → SourceView
view_with left counts = record {
  left = left;
  reads = counts.reads;
  empty_reads = counts.empty_reads;
  faults = counts.faults;
  stops = counts.stops;
  stopped = counts.stopped;
  failed = counts.failed;
}

-- what it shows, of which the reader shows what is left
abbrev pub view_of : {R : Type 0} → (R → Option (List ℕ)) → StdSource R → SourceView
view_of remaining source = view_with (remaining source.reader) source.counts

-- A writer of std as a sink, which gathers bytes before it hands them on.
use Rattle.std.specs.Prelude.{ℕ, List, ◌++◌, drop, Option, None}
use Rattle.std.specs.Io.Buffered.{writer_inner, writer_buffer, writer_contents}
use Rattle.std.specs.Io.KnownBytes.{append_known}
use Rattle.hmc_outside.specs.Counts.{CallCounts}
use Rattle.hmc_outside.specs.Views.{SinkView}
use Rattle.hmc_outside.specs.declared.std_sink.StdSink.{StdSink}

-- the writer that the bytes go to
abbrev pub writer_of : {W : Type 0} → StdSink W → W
writer_of sink = writer_inner sink.writer

-- the bytes of the text that aren't held yet
abbrev pub text_left : {W : Type 0} → StdSink W → List ℕ
text_left sink = drop sink.sent sink.text.value.bytes

-- the bytes gathered and not yet handed on to it
abbrev pub gathered_bytes : {W : Type 0} → StdSink W → List ℕ
gathered_bytes sink = writer_buffer sink.writer ++ text_left sink

-- all bytes that it holds, of which the writer shows those that were handed on
abbrev pub contents_of : {W : Type 0} → (W → Option (List ℕ)) → StdSink W → Option (List ℕ)
contents_of contents sink = append_known (writer_contents contents sink.writer) (text_left sink)

-- what such bytes and counts show: no pieces, since a writer knows only its bytes
abbrev pub view_with : (bytes : Option (List ℕ)) → CallCounts → SinkView
view_with bytes counts = record {
  pieces = None;
  bytes = bytes;
  writes = counts.writes;
  finishes = counts.finishes;
  faults = counts.faults;
  failed = counts.failed;
  finished = counts.finished;
}

-- what it shows, of which the writer shows its bytes
abbrev pub view_of : {W : Type 0} → (W → Option (List ℕ)) → StdSink W → SinkView
view_of contents sink = view_with (contents_of contents sink) sink.counts

-- Flushes that were interrupted kept all bytes, and no answer has come yet.
use Rattle.std.proofs.Common.{◌≡◌, false}
use Rattle.std.specs.Io.Buffered.{writer_contents}
use Rattle.std.specs.Io.KnownBytes.{Keeps}
use Rattle.hmc_outside.proofs.std_sink.flush.Given as goal

abbrev pub invariant-tries : goal.invariant-tries
invariant-tries g l = record {
  kept : Keeps (writer_contents g.W.Write.contents l.fn.writer) (writer_contents g.W.Write.contents l.writer);
  open_yet : l.answered ≡ false;
}

-- What is held and what is left of the text are the same bytes.
use Rattle.std.proofs.Common.{◌≡◌, ◌-◌, length}
use Rattle.std.specs.Io.KnownBytes.{Keeps}
use Rattle.hmc_outside.specs.StdSink.{contents_of}
use Rattle.hmc_outside.proofs.std_sink.StdSink.hold_text.Given as goal

abbrev pub invariant-pieces : goal.invariant-pieces
invariant-pieces g l = record {
  kept : Keeps (contents_of g.W.Write.contents l.fn.self) (contents_of g.W.Write.contents l.self);
  counts : l.self.counts ≡ l.fn.self.counts;
}

abbrev pub decreases-pieces : goal.decreases-pieces
decreases-pieces g l = length l.self.text.value.bytes - l.self.sent

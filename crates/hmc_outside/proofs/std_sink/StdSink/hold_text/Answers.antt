-- A piece more of the text is held.
use Rattle.std.proofs.lemmas.List.{take_rest}
use Rattle.hmc_outside.proofs.HeldLemmas.{piece_held}
use Rattle.hmc_outside.proofs.std_sink.StdSink.hold_text.Goals as goal

pub pieces-preserved : goal.pieces-preserved
pieces-preserved g c = record {
  kept = piece_held _ _ _ c.pieces.self.text.value.bytes c.pieces.self.sent _ c.pieces.invariant.kept
      (rw (take_rest, c.as_bytes.ensures.value, c.as_str.ensures.value, c.deref-in-pieces.ensures) at c.in_ok-self.ensures.appended);
  counts = c.pieces.invariant.counts;
}

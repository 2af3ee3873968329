-- The bytes taken are the first of those given.
use Rattle.std.proofs.Common.{rules, ◌≡◌, ◌++◌, Some, length, take, drop, sym, ap, ◌∙◌, take-append-drop}
use Rattle.std.proofs.Math.Seq.{take-length}
use Rattle.hmc_outside.specs.Pieces.{pieces_of}
use Rattle.hmc_outside.proofs.LinesLemmas.{concat-more}
use Rattle.hmc_outside.specs.SinkState.{SinkState}
use Rattle.hmc_outside.proofs.memory_sink.MemorySinkSink.write.Goals as goal

pub returns-clause-prefix : goal.returns-clause-prefix
returns-clause-prefix c =
    let n = c.match-limit.count in
    let bytes = c.args.bytes.now in
    let pieces = c.add.ensures.pieces ∙ ap (λ (s : SinkState). s.pieces ++ pieces_of (take n bytes)) c.self.view_is in
    record {
      prefix = take n bytes;
      rest = drop n bytes;
      parts = sym (take-append-drop n bytes);
      pieces = ap Some pieces;
      appended = concat-more _ _ (take n bytes) pieces;
    }

pub returns-then-not-failed-clause-appended : goal.returns-then-not-failed-clause-appended
returns-then-not-failed-clause-appended c =
    let n = c.match-limit.count in
    let bytes = c.args.bytes.now in
    let all : n ≡ length bytes = search rules in
    concat-more _ _ bytes (c.add.ensures.pieces ∙ ap (λ (s : SinkState). s.pieces ++ pieces_of (take n bytes)) c.self.view_is ∙ ap (λ l. c.args.self.now.pieces ++ pieces_of l) (ap (λ m. take m bytes) all ∙ take-length bytes))

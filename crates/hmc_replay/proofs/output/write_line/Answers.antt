-- One write is one line.
use Rattle.std.proofs.Common.{subst, OnOk, OnErr}
use Rattle.std.proofs.Common.{◌≡◌}
use Rattle.std.specs.Io.KnownBytes.{Appends}
use Rattle.hmc_outside.specs.Pieces.{pieces_of, with_pieces, WritesPrefix}
use Rattle.hmc_replay.proofs.Writing.{Writes-one}
use Rattle.hmc_replay.proofs.output.write_line.Goals as goal

pub returns : goal.returns
returns g c =
    let shows = g.O.Sink.shows in
    let before = shows c.args.sink.now in
    let after = shows c.write.new.self in
    Writes-one before after c.args.line.now c.write.result c.requires c.write.ensures.counted c.write.ensures.finishes c.write.ensures.not_finished
    (subst (λ l. OnOk c.write.result (after.pieces ≡ with_pieces before.pieces (pieces_of l))) c.as_bytes.ensures.value c.write.ensures.piece)
    (subst (λ l. OnOk c.write.result (Appends before.bytes after.bytes l)) c.as_bytes.ensures.value c.write.ensures.appended) c.write.ensures.sound
    (subst (λ l. OnErr c.write.result (WritesPrefix before after l)) c.as_bytes.ensures.value c.write.ensures.prefix) c.write.ensures.fault c.write.ensures.failed

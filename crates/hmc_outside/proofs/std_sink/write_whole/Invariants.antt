-- The bytes sent so far are the first of all.
use Rattle.std.proofs.Common.{◌-◌, ◌≤◌, length, take}
use Rattle.std.specs.Io.KnownBytes.{Appends}
use Rattle.hmc_outside.proofs.std_sink.write_whole.Given as goal

abbrev pub invariant-pieces : goal.invariant-pieces
invariant-pieces g l =
    let contents = g.W.Write.contents in
    record {
      within : l.sent ≤ length l.bytes;
      appended : Appends (contents l.fn.writer) (contents l.writer) (take l.sent l.bytes);
    }

abbrev pub decreases-pieces : goal.decreases-pieces
decreases-pieces g l = length l.bytes - l.sent

-- Reads that were interrupted gave nothing.
use Rattle.std.proofs.Common.{◌≡◌, length}
use Rattle.std.specs.Io.KnownBytes.{Keeps}
use Rattle.hmc_outside.proofs.std_source.read_once.Given as goal

abbrev pub invariant-tries : goal.invariant-tries
invariant-tries g l = record {
  unchanged : Keeps (g.R.Read.remaining l.fn.reader) (g.R.Read.remaining l.reader);
  length : length l.into ≡ length l.fn.into;
}

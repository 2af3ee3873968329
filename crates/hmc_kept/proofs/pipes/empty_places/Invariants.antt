use Rattle.std.proofs.Common.{◌≡◌, None}
use Rattle.std.specs.Prelude.{replicate}
use Rattle.hmc_kept.proofs.pipes.empty_places.Given as goal

abbrev pub invariant-each : goal.invariant-each
invariant-each g l = l.places.items ≡ replicate l.counter None

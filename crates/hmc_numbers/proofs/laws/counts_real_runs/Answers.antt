use Rattle.hmc_numbers.specs.Events.{after}
use Rattle.hmc_numbers.proofs.Step.{order_after}
use Rattle.hmc_numbers.proofs.DirectionLaws.{clears, starts}
use Rattle.hmc_numbers.proofs.laws.counts_real_runs.Goals as goal

pub returns : goal.returns
returns c =
    record {
      clears = λ r x xs past m. clears r (after past) (order_after r past m) x xs;
      starts = λ r x xs past m. starts r (after past) (order_after r past m) x xs;
    }

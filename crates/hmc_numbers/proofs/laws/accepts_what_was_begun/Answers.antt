use Rattle.hmc_numbers.proofs.Step.{order_after}
use Rattle.hmc_numbers.proofs.laws.accepts_what_was_begun.Goals as goal

pub returns : goal.returns
returns c =
    record {
      accepted = λ r past m. (order_after r past m).accepted;
      acknowledged = λ r past m. (order_after r past m).acked;
      kept = λ r past m. (order_after r past m).room;
    }

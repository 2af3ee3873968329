use Rattle.hmc_numbers.specs.Events.{after}
use Rattle.hmc_numbers.proofs.Step.{order_after}
use Rattle.hmc_numbers.proofs.Trained.{trained_after, no_train_in_good}
use Rattle.hmc_numbers.proofs.DirectionLaws.{placed, whole}
use Rattle.hmc_numbers.proofs.laws.keeps_packets_whole.Goals as goal

pub returns : goal.returns
returns c =
    record {
      placed = λ r n k more xs past m. placed r (after past) (order_after r past m) n k more xs;
      whole = λ r x xs past m. whole r (after past) (order_after r past m) x xs;
      trained = λ r xs past m. no_train_in_good (after past) xs (trained_after r past m);
    }

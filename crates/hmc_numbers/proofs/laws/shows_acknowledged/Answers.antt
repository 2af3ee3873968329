use Rattle.hmc_numbers.specs.Events.{after}
use Rattle.hmc_numbers.proofs.Step.{order_after}
use Rattle.hmc_numbers.proofs.DirectionLaws.{apart}
use Rattle.hmc_numbers.proofs.laws.shows_acknowledged.Goals as goal

pub returns : goal.returns
returns c = record { one = λ p r i j l past m. apart p r (after past) l (order_after r past m) i j }

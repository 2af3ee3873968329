use Rattle.hmc_numbers.specs.Events.{after}
use Rattle.hmc_numbers.proofs.Step.{order_after}
use Rattle.hmc_numbers.proofs.DirectionLaws.{list_step}
use Rattle.hmc_numbers.proofs.laws.is_a_list.Goals as goal

pub returns : goal.returns
returns c = record { steps = λ r e past m. list_step r (after past) e (order_after r past m) }

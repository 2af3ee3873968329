use Rattle.hmc_numbers.specs.Events.{after}
use Rattle.hmc_numbers.proofs.Step.{order_after}
use Rattle.hmc_numbers.proofs.DirectionLaws.{at_most_next}
use Rattle.hmc_numbers.proofs.laws.skips_no_packet.Goals as goal

pub returns : goal.returns
returns c = record { at_most_next = λ r n k more xs past m. at_most_next r (after past) (order_after r past m) n k more xs }

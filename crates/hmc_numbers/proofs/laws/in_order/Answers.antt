use Rattle.hmc_numbers.proofs.DirectionLaws.{laws_after}
use Rattle.hmc_numbers.proofs.laws.in_order.Goals as goal

pub returns : goal.returns
returns c = record { laws = λ p r l past m. laws_after p r past l m }

use Rattle.hmc_numbers.proofs.PairLaws.{pair_laws}
use Rattle.hmc_numbers.proofs.laws.joined.Goals as goal

pub returns : goal.returns
returns c = record { laws = λ p r adv l past m. let z = pair_laws p r adv past l m in (z.forth, z.back) }

use Rattle.hmc_wire.proofs.LawsHold.{direction-laws}
use Rattle.hmc_wire.proofs.laws.link_is_a_list.Goals as goal

-- src/laws.rt:11:1
pub returns : goal.returns
returns c = direction-laws

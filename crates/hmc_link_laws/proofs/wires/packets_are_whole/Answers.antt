use Rattle.hmc_link_laws.proofs.LinkWires.{wire-is}
use Rattle.hmc_link_laws.proofs.wires.packets_are_whole.Goals as goal

pub returns : goal.returns
returns c = wire-is

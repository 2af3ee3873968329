use Rattle.std.proofs.Common.{subst}
use Rattle.hmc_memory.specs.Banks.{IsBanks}
use Rattle.hmc_memory.proofs.KeptLemmas.{IsBanks-kept}
use Rattle.hmc_memory.proofs.banks.Banks.invariant.Goals as goal

pub returns : goal.returns
returns c = subst IsBanks c.self.view_is (IsBanks-kept c.self.inside.shape c.self.inside.banks.items c.self.invariant)

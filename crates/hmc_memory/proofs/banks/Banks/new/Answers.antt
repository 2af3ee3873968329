use Rattle.std.proofs.Common.{◌∙◌, ap}
use Rattle.hmc_memory.specs.Kept.{memory_bytes}
use Rattle.hmc_memory.proofs.KeptLemmas.{bytes_of-zeros}
use Rattle.hmc_memory.proofs.banks.Banks.new.Goals as goal

pub returns-clause-zeros : goal.returns-clause-zeros
returns-clause-zeros c = ap (memory_bytes c.args.shape) c.in_ok-banks.ensures ∙ bytes_of-zeros c.args.shape _ _

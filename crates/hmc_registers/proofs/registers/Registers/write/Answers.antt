use Rattle.std.proofs.Common.{ℕ, List, set, ap}
use Rattle.hmc_registers.proofs.registers.Registers.write.Goals as goal

pub returns-clause-ok : goal.returns-clause-ok
returns-clause-ok c = ap (λ (xs : List ℕ). set xs c.args.number c.args.value) c.self.view_is

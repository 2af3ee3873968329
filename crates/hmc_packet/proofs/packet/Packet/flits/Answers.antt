use Rattle.std.proofs.Common.{ℕ, ◌+◌, ◌/◌, length, arith, ap}
use Rattle.hmc_packet.proofs.CommandLemmas.{allows_few}
use Rattle.hmc_packet.proofs.packet.Packet.flits.Goals as goal

pub overflow_cast-result : goal.overflow_cast-result
overflow_cast-result c =
    let few = allows_few c.self.inside.command (1 + length c.self.inside.payload / 16) c.self.invariant.payload.allowed in
    omega (arith, few.1, ap (λ (n : ℕ). n / 16) c.len.ensures)

pub returns-clause-few : goal.returns-clause-few
returns-clause-few c =
    let few = allows_few c.self.inside.command (1 + length c.self.inside.payload / 16) c.self.invariant.payload.allowed in
    omega (arith, few.1, ap (λ (n : ℕ). n / 16) c.len.ensures)

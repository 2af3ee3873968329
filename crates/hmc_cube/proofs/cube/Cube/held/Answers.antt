-- Each packet costs a queue 1, and no queue has many.
use Rattle.std.proofs.Common.{◌≤◌, length, sum_by, ap, arith}
use Rattle.hmc_tokens.specs.Queue.{packets_of, all_cost_one}
use Rattle.hmc_vault.specs.Vault.{held_by}
use Rattle.hmc_cube.specs.Cube.{held_in_cube}
use Rattle.hmc_cube.proofs.CubeLemmas.{few_vaults}
use Rattle.hmc_cube.proofs.cube.Cube.held.Goals as goal
use Rattle.hmc_vault.proofs.VaultLemmas.{few_used}

pub held_in-requires : goal.held_in-requires
held_in-requires c = omega (arith, ap length c.deref.ensures.value, few_vaults c.self.inside.banks.shape c.self.inside.vaults.items c.self.inside.register_queue c.self.inside.answers c.self.invariant)

pub overflow_add-result : goal.overflow_add-result
overflow_add-result c = omega (arith, few_used c.self.inside.register_queue c.used.result c.used.ensures c.self.invariant.small, c.held_in.ensures.few)

pub overflow_add-result-2 : goal.overflow_add-result-2
overflow_add-result-2 c =
    let last : c.used-2.result ≤ 255 = few_used c.self.inside.answers c.used-2.result c.used-2.ensures (omega (arith, c.self.invariant.answers_size, c.self.invariant.small)) in
    omega (arith, few_used c.self.inside.register_queue c.used.result c.used.ensures c.self.invariant.small, c.held_in.ensures.few)

pub returns-clause-held : goal.returns-clause-held
returns-clause-held c =
    omega (arith, all_cost_one (packets_of c.self.inside.register_queue), all_cost_one (packets_of c.self.inside.answers), c.used.ensures, c.used-2.ensures, c.held_in.ensures.held, ap (sum_by held_by) c.deref.ensures.value, ap held_in_cube c.self.view_is)

pub returns-clause-few : goal.returns-clause-few
returns-clause-few c =
    let last : c.used-2.result ≤ 255 = few_used c.self.inside.answers c.used-2.result c.used-2.ensures (omega (arith, c.self.invariant.answers_size, c.self.invariant.small)) in
    omega (arith, few_used c.self.inside.register_queue c.used.result c.used.ensures c.self.invariant.small, c.held_in.ensures.few)

-- Each packet costs a queue 1, and no queue has many.
use Rattle.std.proofs.Common.{◌≤◌, ◌∙◌, ap, arith}
use Rattle.hmc_vault.specs.Kept.{held_in}
use Rattle.hmc_vault.proofs.VaultLemmas.{held_is, few_used}
use Rattle.hmc_vault.proofs.vault.Vault.held.Goals as goal

pub overflow_add-result : goal.overflow_add-result
overflow_add-result c = omega (arith, few_used c.self.inside.vault_queue c.used.result c.used.ensures c.self.invariant.small, c.held_in.ensures.small)

pub overflow_add-result-2 : goal.overflow_add-result-2
overflow_add-result-2 c =
    let last : c.used-2.result ≤ 255 = few_used c.self.inside.answers c.used-2.result c.used-2.ensures (omega (arith, c.self.invariant.answers_size, c.self.invariant.small)) in
    omega (arith, few_used c.self.inside.vault_queue c.used.result c.used.ensures c.self.invariant.small, c.held_in.ensures.small)

pub returns-clause-held : goal.returns-clause-held
returns-clause-held c = held_is c.self.inside.vault_queue c.self.inside.banks.items c.self.inside.answers c.args.self.now c.used.result c.held_in.result c.used-2.result c.self.view_is c.used.ensures (c.held_in.ensures.held ∙ ap (λ l. held_in l) c.deref.ensures.value) c.used-2.ensures

pub returns-clause-few : goal.returns-clause-few
returns-clause-few c =
    let last : c.used-2.result ≤ 255 = few_used c.self.inside.answers c.used-2.result c.used-2.ensures (omega (arith, c.self.invariant.answers_size, c.self.invariant.small)) in
    omega (arith, few_used c.self.inside.vault_queue c.used.result c.used.ensures c.self.invariant.small, c.held_in.ensures.small)

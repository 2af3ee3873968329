-- Nothing goes from an empty queue, and another one has a front.
use Rattle.std.proofs.Common.{◌∙◌, ap, sym, true≢false}
use Rattle.hmc_vault.specs.Vault.{VaultFields}
use Rattle.hmc_vault.proofs.SpreadLemmas.{nothing_waits}
use Rattle.hmc_vault.proofs.vault.Vault.spread.Goals as goal

pub returns-then-is_empty-clause-answer : goal.returns-then-is_empty-clause-answer
returns-then-is_empty-clause-answer c =
    nothing_waits c.args.self.now c.args.shape (ap (λ (v : VaultFields). v.vault_queue) (sym c.self.view_is) ∙ c.is_empty.ensures.0 c.if-is_empty.true)

pub spread_front-requires-clause-some : goal.spread_front-requires-clause-some
spread_front-requires-clause-some c = λ is. true≢false (sym (c.is_empty.ensures.1 (ap (λ (v : VaultFields). v.vault_queue) c.self.view_is ∙ is)) ∙ c.if-is_empty.false)

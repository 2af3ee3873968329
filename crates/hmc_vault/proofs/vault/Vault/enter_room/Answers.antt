-- The room of the vault queue.
use Rattle.std.proofs.Common.{◌≡◌, ◌∙◌, length, sym, ap}
use Rattle.std.specs.Prelude.{nat_lt}
use Rattle.std.proofs.lemmas.Bool.{ltb-true, lt-ltb}
use Rattle.hmc_vault.specs.Vault.{VaultFields}
use Rattle.hmc_vault.proofs.vault.Vault.enter_room.Goals as goal

pub returns : goal.returns
returns c =
    let same : c.has_room.result ≡ nat_lt (length c.args.self.now.vault_queue) c.args.self.now.size = c.has_room.ensures ∙ ap (λ (v : VaultFields). nat_lt (length v.vault_queue) v.size) c.self.view_is in
    (λ h. ltb-true _ _ (sym same ∙ h), λ h. same ∙ lt-ltb _ _ h)

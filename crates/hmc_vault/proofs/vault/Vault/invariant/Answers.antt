-- By what the queues keep.
use Rattle.hmc_vault.proofs.VaultLemmas.{kept_vault}
use Rattle.hmc_vault.proofs.vault.Vault.invariant.Goals as goal

pub returns : goal.returns
returns c = kept_vault c.self.inside.vault_queue c.self.inside.banks.items c.self.inside.answers c.args.self.now c.self.invariant c.self.view_is

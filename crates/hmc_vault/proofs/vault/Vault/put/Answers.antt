-- One more request has entered.
use Rattle.hmc_vault.proofs.VaultLemmas.{room_in, kept_with_one_more}
use Rattle.hmc_vault.proofs.vault.Vault.put.Goals as goal

pub put-requires : goal.put-requires
put-requires c = room_in c.self.inside.vault_queue c.self.inside.banks.items c.self.inside.answers c.args.self.now c.self.view_is c.requires.room

pub invariant_of-self : goal.invariant_of-self
invariant_of-self c = kept_with_one_more c.self.inside.vault_queue c.put.new.self c.self.inside.banks.items c.self.inside.answers c.args.packet.now c.self.invariant c.put.ensures.size c.put.ensures.packets c.requires.request

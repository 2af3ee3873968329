-- New queues.
use Rattle.hmc_vault.proofs.VaultLemmas.{opening_kept, count_of_banks}
use Rattle.hmc_vault.proofs.vault.Vault.new.Goals as goal

pub invariant_of-result : goal.invariant_of-result
invariant_of-result c =
    opening_kept c.in_ok-vault_queue.vault_queue c.in_ok-banks.banks.items c.in_ok-answers.answers c.args.queue c.args.bank_bits _
    (record { size = c.in_ok-vault_queue.ensures.size; empty = c.in_ok-vault_queue.ensures.empty }) (record { size = c.in_ok-answers.ensures.size; empty = c.in_ok-answers.ensures.empty })
    c.in_ok-banks.ensures.opening c.ranges.queue.fits c.requires (count_of_banks c.args.bank_bits c.requires) c.in_ok-banks.ensures.empty

-- The execution of the front of a bank's queue.
use Rattle.std.proofs.Common.{◌≡◌, ◌<◌, ◌∙◌, length, set, refl, sym, ap, subst}
use Rattle.hmc_vault.specs.Kept.{vault_of_queues}
use Rattle.hmc_tokens.specs.Queue.{packets_of}
use Rattle.hmc_vault.specs.Packets.{IsForBanks}
use Rattle.hmc_vault.specs.Vault.{VaultFields, bank_at}
use Rattle.hmc_vault.specs.Execute.{waiting_after, answers_after, execute_gives}
use Rattle.hmc_vault.proofs.VaultLemmas.{IsRead, read_is_bank_queue, read_packets, kept_bank, vault_with}
use Rattle.hmc_vault.proofs.ExecuteLemmas.{waiting_all, execution_gives, banks_of_execution, size_of_execution}
use Rattle.hmc_vault.proofs.vault.Vault.execute_in.Goals as goal

-- the queue of the bank
read : (g : _) (c : goal.After-self-1 g) → IsRead c.self.inside.vault_queue c.self.inside.banks.items c.self.inside.answers c.args.self.now c.from.result c.index_mut-waiting.result.now
read g c = record {
  kept = c.self.invariant;
  view_is = c.self.view_is;
  there = subst (λ n. n < length c.args.self.now.banks) (sym c.from.ensures) c.requires;
  read = c.index_mut-waiting.ensures.value;
}

pub invariant_of-self : goal.invariant_of-self
invariant_of-self g c =
    let queue = read_is_bank_queue c.self.inside.vault_queue c.self.inside.banks.items c.self.inside.answers c.args.self.now c.from.result c.index_mut-waiting.result.now (read g c) in
    kept_bank c.self.inside.vault_queue c.self.inside.banks.items c.self.inside.answers c.execute_front_in.new.answers c.from.result c.execute_front_in.new.waiting c.self.invariant c.execute_front_in.ensures.answers_size
    (record {
      size = c.execute_front_in.ensures.waiting_size ∙ queue.size;
      requests = waiting_all IsForBanks c.execute_front_in.new.execution (packets_of c.index_mut-waiting.result.now) (packets_of c.execute_front_in.new.waiting) c.execute_front_in.ensures.waiting queue.requests;
    })

gives : (g : _) (c : goal.After-self-1 g) → vault_of_queues c.self.inside.vault_queue (set c.self.inside.banks.items c.from.result c.execute_front_in.new.waiting) c.execute_front_in.new.answers ≡ execute_gives c.args.bank c.execute_front_in.new.execution c.args.self.now
gives g c =
    let now = c.args.self.now in
    let place = c.from.result in
    let waiting = packets_of c.execute_front_in.new.waiting in
    let answers = packets_of c.execute_front_in.new.answers in
    let bank_is = read_packets c.self.inside.vault_queue c.self.inside.banks.items c.self.inside.answers now place c.index_mut-waiting.result.now (read g c) in
    vault_with c.self.inside.vault_queue c.self.inside.banks.items c.self.inside.answers now place c.self.inside.vault_queue c.execute_front_in.new.waiting c.execute_front_in.new.answers now.vault_queue waiting answers
    c.self.view_is refl (ap (λ (v : VaultFields). v.vault_queue) c.self.view_is) refl refl
    ∙ execution_gives c.execute_front_in.new.execution now place waiting answers (c.execute_front_in.ensures.waiting ∙ ap (waiting_after c.execute_front_in.new.execution) (sym bank_is))
    (c.execute_front_in.ensures.answers ∙ ap (λ (v : VaultFields). answers_after c.execute_front_in.new.execution v.answers) c.self.view_is)
    ∙ ap (λ b. execute_gives b c.execute_front_in.new.execution now) c.from.ensures

pub returns-clause-empty : goal.returns-clause-empty
returns-clause-empty g c =
    let now = c.args.self.now in
    let bank_is = read_packets c.self.inside.vault_queue c.self.inside.banks.items c.self.inside.answers now c.from.result c.index_mut-waiting.result.now (read g c) in
    (λ is. ap (bank_at now) (sym c.from.ensures) ∙ bank_is ∙ c.execute_front_in.ensures.empty.0 is, λ none. c.execute_front_in.ensures.empty.1 (sym bank_is ∙ ap (bank_at now) c.from.ensures ∙ none))

pub returns-clause-banks : goal.returns-clause-banks
returns-clause-banks g c = ap (λ (v : VaultFields). length v.banks) (gives g c) ∙ banks_of_execution c.args.bank c.execute_front_in.new.execution c.args.self.now

pub returns-clause-size : goal.returns-clause-size
returns-clause-size g c = ap (λ (v : VaultFields). v.size) (gives g c) ∙ size_of_execution c.args.bank c.execute_front_in.new.execution c.args.self.now

pub returns-clause-gives : goal.returns-clause-gives
returns-clause-gives g c = gives g c

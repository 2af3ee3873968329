-- The front enters the queue of its bank.
use Rattle.std.proofs.Common.{◌≡◌, ◌∙◌, ◌<◌, ◌++◌, length, drop, take, refl, sym, ap, subst, arith}
use Rattle.std.proofs.lemmas.List.Elements.{All-same, All-drop, All-take}
use Rattle.hmc_tokens.specs.Queue.{packets_of, size_of}
use Rattle.hmc_vault.specs.Packets.{IsForBanks}
use Rattle.hmc_vault.specs.Vault.{VaultFields, bank_at}
use Rattle.hmc_vault.specs.declared.spread.Spread.TheVariants as spreads
use Rattle.hmc_vault.specs.Spread.{spread_gives}
use Rattle.hmc_vault.proofs.VaultLemmas.{IsRead, read_is_bank_queue, read_packets, kept_entering, kept_bank, vault_with}
use Rattle.hmc_vault.proofs.SpreadLemmas.{front_moves, move_gives, bank_queue_after_move}
use Rattle.hmc_vault.proofs.vault.Vault.move_front.Goals as goal

-- the queue of the bank
read : (c : goal.After-self-1) → IsRead c.self.inside.vault_queue c.self.inside.banks.items c.self.inside.answers c.args.self.now c.from.result c.index_mut.result.now
read c = record {
  kept = c.self.invariant;
  view_is = c.self.view_is;
  there = subst (λ n. n < length c.args.self.now.banks) (sym c.from.ensures) c.requires.there;
  read = c.index_mut.ensures.value;
}

has_place : (c : goal.After-self-1) → length (packets_of c.index_mut.result.now) < size_of c.index_mut.result.now
has_place c =
    let long = ap length (sym (ap (bank_at c.args.self.now) c.from.ensures) ∙ read_packets c.self.inside.vault_queue c.self.inside.banks.items c.self.inside.answers c.args.self.now c.from.result c.index_mut.result.now (read c)) in
    let sized = (read_is_bank_queue c.self.inside.vault_queue c.self.inside.banks.items c.self.inside.answers c.args.self.now c.from.result c.index_mut.result.now (read c)).size ∙ ap (λ (v : VaultFields). v.size) c.self.view_is in
    omega (arith, long, sized, c.requires.room)

moved : (c : goal.After-self-1) → (packets_of c.shift_one.new.from ≡ drop 1 (packets_of c.self.inside.vault_queue)) × (packets_of c.shift_one.new.to ≡ packets_of c.index_mut.result.now ++ take 1 (packets_of c.self.inside.vault_queue))
moved c =
    let moves = front_moves c.shift_one.result (packets_of c.self.inside.vault_queue) (packets_of c.index_mut.result.now) (size_of c.index_mut.result.now) (has_place c) c.shift_one.ensures.answer in
    (c.shift_one.ensures.out ∙ moves.0, c.shift_one.ensures.into ∙ ap (λ l. packets_of c.index_mut.result.now ++ l) moves.1)

pub invariant_of-self : goal.invariant_of-self
invariant_of-self c =
    let waiting = packets_of c.self.inside.vault_queue in
    let queue = read_is_bank_queue c.self.inside.vault_queue c.self.inside.banks.items c.self.inside.answers c.args.self.now c.from.result c.index_mut.result.now (read c) in
    kept_bank c.shift_one.new.from c.self.inside.banks.items c.self.inside.answers c.self.inside.answers c.from.result c.shift_one.new.to
    (kept_entering c.self.inside.vault_queue c.shift_one.new.from c.self.inside.banks.items c.self.inside.answers c.self.invariant c.shift_one.ensures.from_size
    (All-same IsForBanks (packets_of c.shift_one.new.from) (drop 1 waiting) (moved c).0 (All-drop IsForBanks 1 waiting c.self.invariant.requests))) refl
    (bank_queue_after_move c.self.inside.vault_queue c.shift_one.new.from c.index_mut.result.now c.shift_one.new.to (take 1 waiting) queue c.shift_one.ensures.from_size c.shift_one.ensures.to_size (moved c).1
    (All-take IsForBanks 1 waiting c.self.invariant.requests))

pub returns-clause-gives : goal.returns-clause-gives
returns-clause-gives c =
    let queue_is = ap (λ (v : VaultFields). v.vault_queue) c.self.view_is in
    let now = c.args.self.now in
    let place = c.from.result in
    let packets = packets_of c.shift_one.new.from in
    let queue = packets_of c.shift_one.new.to in
    let bank_is = read_packets c.self.inside.vault_queue c.self.inside.banks.items c.self.inside.answers now place c.index_mut.result.now (read c) in
    vault_with c.self.inside.vault_queue c.self.inside.banks.items c.self.inside.answers now place c.shift_one.new.from c.shift_one.new.to c.self.inside.answers packets queue now.answers
    c.self.view_is c.shift_one.ensures.from_size refl refl (ap (λ (v : VaultFields). v.answers) c.self.view_is)
    ∙ move_gives now place packets queue ((moved c).0 ∙ ap (drop 1) queue_is) ((moved c).1 ∙ ap (λ l. l ++ take 1 (packets_of c.self.inside.vault_queue)) (sym bank_is) ∙ ap (λ l. bank_at now place ++ take 1 l) queue_is)
    ∙ ap (λ b. spread_gives (spreads.Moved b) now) c.from.ensures

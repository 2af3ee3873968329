-- The front of a bank's queue waits where its execution finds the answers full.
use Rattle.std.proofs.Common.{◌≡◌, ◌∙◌, ◌<◌, List, length, sym, ap, subst}
use Rattle.std.specs.Prelude.{slice_get}
use Rattle.std.specs.Option.{ForSome}
use Rattle.hmc_packet.specs.Packet.{PacketFields}
use Rattle.hmc_tokens.specs.Queue.{packets_of, size_of}
use Rattle.hmc_vault.specs.Execute.{front_waits}
use Rattle.hmc_vault.specs.Packets.{CarriesRequest}
use Rattle.hmc_vault.specs.Vault.{VaultFields, bank_at}
use Rattle.hmc_vault.proofs.VaultLemmas.{IsRead, read_is_bank_queue, read_packets}
use Rattle.hmc_vault.proofs.WaitLemmas.{full_where_waits, waits_where_full, front_asks}
use Rattle.hmc_vault.proofs.vault.Vault.bank_waits.Goals as goal

-- the queue of the bank
read : (c : goal.After-front_waits) → IsRead c.self.inside.vault_queue c.self.inside.banks.items c.self.inside.answers c.args.self.now c.from.result c.index.result.now
read c = record {
  kept = c.self.invariant;
  view_is = c.self.view_is;
  there = subst (λ n. n < length c.args.self.now.banks) (sym c.from.ensures) c.requires;
  read = c.index.ensures;
}

pub returns : goal.returns
returns c cube slots =
    let now = c.args.self.now in
    let bank_is : packets_of c.index.result.now ≡ bank_at now c.args.bank = sym (read_packets c.self.inside.vault_queue c.self.inside.banks.items c.self.inside.answers now c.from.result c.index.result.now (read c)) ∙ ap (bank_at now) c.from.ensures in
    let asks : ForSome (slice_get (bank_at now c.args.bank) 0) CarriesRequest = subst (λ (l : List PacketFields). ForSome (slice_get l 0) CarriesRequest) bank_is
    (front_asks (packets_of c.index.result.now) (read_is_bank_queue c.self.inside.vault_queue c.self.inside.banks.items c.self.inside.answers now c.from.result c.index.result.now (read c)).requests) in
    let size_is : size_of c.self.inside.answers ≡ now.size = c.self.invariant.answers_size ∙ ap (λ (v : VaultFields). v.size) c.self.view_is in
    let waits_is : c.front_waits.result ≡ front_waits (bank_at now c.args.bank) now.answers now.size =
    c.front_waits.ensures ∙ ap (λ (l : List PacketFields). front_waits l (packets_of c.self.inside.answers) (size_of c.self.inside.answers)) bank_is
    ∙ ap (λ (l : List PacketFields). front_waits (bank_at now c.args.bank) l (size_of c.self.inside.answers)) (ap (λ (v : VaultFields). v.answers) c.self.view_is)
    ∙ ap (front_waits (bank_at now c.args.bank) now.answers) size_is in (
      λ is. full_where_waits (bank_at now c.args.bank) now.answers now.size cube slots asks (sym waits_is ∙ is),
      λ is. waits_is ∙ waits_where_full (bank_at now c.args.bank) now.answers now.size cube slots asks is,
    )

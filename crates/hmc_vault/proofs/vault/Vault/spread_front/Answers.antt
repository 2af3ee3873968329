-- The front goes to its bank where that has room.
use Rattle.std.proofs.Common.{◌∙◌, true, false, Bor, sym, ap}
use Rattle.std.specs.Prelude.{option_map}
use Rattle.hmc_codes.specs.Shape.{bank_of}
use Rattle.hmc_packet.specs.Packet.{PacketFields}
use Rattle.hmc_tokens.specs.Queue.{packets_of}
use Rattle.hmc_vault.specs.Vault.{VaultFields}
use Rattle.hmc_vault.proofs.VaultLemmas.{no_front}
use Rattle.hmc_vault.proofs.SpreadLemmas.{front_says}
use Rattle.hmc_vault.proofs.vault.Vault.spread_front.Goals as goal

pub unreachable-requires : goal.unreachable-requires
unreachable-requires c =
    c.requires.some (ap (λ (v : VaultFields). v.vault_queue) (sym c.self.view_is) ∙ no_front (packets_of c.self.inside.vault_queue) (sym c.front_ref.ensures ∙ ap (option_map (λ (p : Bor PacketFields). p.now)) c.in_default.is))

pub returns-then-not-has_room-clause-answer : goal.returns-then-not-has_room-clause-answer
returns-then-not-has_room-clause-answer c =
    front_says c.self.inside.vault_queue c.self.inside.banks.items c.self.inside.answers c.args.self.now c.args.shape c.in-Some.front.now c.spot-bank.result.bank c.from.result c.index.result.now false c.self.invariant c.self.view_is c.requires.sized
    (sym c.front_ref.ensures ∙ ap (option_map (λ (p : Bor PacketFields). p.now)) c.in-Some.is) (c.spot-bank.ensures.bank ∙ ap (λ (p : PacketFields). bank_of c.args.shape p.address) c.front.view_is) c.from.ensures c.index.ensures (sym c.has_room.ensures ∙ cc)

pub returns-clause-answer : goal.returns-clause-answer
returns-clause-answer c =
    c.move_front.ensures.answer
    ∙ front_says c.self.inside.vault_queue c.self.inside.banks.items c.self.inside.answers c.args.self.now c.args.shape c.in-Some.front.now c.spot-bank.result.bank c.from.result c.index.result.now true c.self.invariant c.self.view_is c.requires.sized
    (sym c.front_ref.ensures ∙ ap (option_map (λ (p : Bor PacketFields). p.now)) c.in-Some.is) (c.spot-bank.ensures.bank ∙ ap (λ (p : PacketFields). bank_of c.args.shape p.address) c.front.view_is) c.from.ensures c.index.ensures (sym c.has_room.ensures ∙ cc)

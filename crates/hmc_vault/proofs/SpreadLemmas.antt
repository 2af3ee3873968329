-- Spreads.
use Rattle.std.proofs.Common.{◌≡◌, ◌<◌, ◌∙◌, ◌+◌, ◌^◌, ◌/◌, ℕ, Bool, true, List, [], ◌∷◌, ◌++◌, length, take, drop, set, get_or, sum_by, Some, refl, sym, ap, subst, arith}
use Rattle.std.specs.Prelude.{nat_le, nat_lt, if◌then◌else◌, slice_get}
use Rattle.std.specs.List.{All}
use Rattle.std.proofs.lemmas.Bool.{le-leb}
use Rattle.std.proofs.lemmas.List.{length-set}
use Rattle.std.proofs.lemmas.List.Elements.{All-same, All-append}
use Rattle.std.proofs.lemmas.Nat.{mod_below, pow_pos}
use Rattle.hmc_codes.specs.Shape.{ShapeFields, bank_of}
use Rattle.hmc_packet.specs.Packet.{PacketFields}
use Rattle.hmc_tokens.specs.declared.queue.Queue.{Queue}
use Rattle.hmc_tokens.specs.declared.moving.Shift.{Shift}
use Rattle.hmc_tokens.specs.declared.moving.Shift.TheVariants.{Full, Done}
use Rattle.hmc_tokens.specs.Queue.{packets_of, size_of, one, all_cost_one}
use Rattle.hmc_tokens.specs.Intake.{has_room}
use Rattle.hmc_tokens.specs.Moving.{shifted_by, shifted_packets, kept_packets}
use Rattle.hmc_vault.specs.declared.spread.Spread.{Spread}
use Rattle.hmc_vault.specs.declared.spread.Spread.TheVariants as spreads
use Rattle.hmc_vault.specs.Packets.{IsForBanks}
use Rattle.hmc_vault.specs.Vault.{VaultFields, bank_at}
use Rattle.hmc_vault.specs.Spread.{goes_to, front_goes, spread_says, spread_gives}
use Rattle.hmc_vault.specs.Kept.{vault_of_queues, IsBankQueue, IsVaultOfQueues}
use Rattle.hmc_vault.proofs.VaultLemmas.{IsRead, read_is_bank_queue, read_packets}

-- nothing waits to be spread
pub nothing_waits : (now : VaultFields) (shape : ShapeFields) → now.vault_queue ≡ [] → spreads.Empty ≡ spread_says now shape
unfolding spread_says
nothing_waits now shape is = ap (λ packets. front_goes now packets shape) (sym is)

-- the bank of an address is one of the shape's
pub bank_there : (now : VaultFields) (shape : ShapeFields) (address bank place : ℕ) → length now.banks ≡ 2 ^ shape.bank_bits → bank ≡ bank_of shape address → place ≡ bank → place < length now.banks
bank_there now shape address bank place long is same =
    omega (arith, mod_below (address / shape.block / 2 ^ shape.vault_bits) (2 ^ shape.bank_bits) (pow_pos shape.bank_bits))

-- the front goes to its bank where that has room
by_room : (now : VaultFields) (shape : ShapeFields) (packets : List PacketFields) (front : PacketFields) (bank : ℕ) (room : Bool) → packets ≡ now.vault_queue → slice_get packets 0 ≡ Some front → bank ≡ bank_of shape front.address → nat_lt (length (bank_at now bank)) now.size ≡ room →
    (if room then spreads.Moved bank else spreads.Full) ≡ spread_says now shape
unfolding spread_says
by_room now shape [] front bank room same is to fits = absurd (cc)
by_room now shape (packet ∷ rest) front bank room same is to fits =
    let first : packet ≡ front = cc in
    ap (λ b. if b then spreads.Moved bank else spreads.Full) (sym fits) ∙ ap (goes_to now) (to ∙ ap (λ (p : PacketFields). bank_of shape p.address) (sym first)) ∙ ap (λ ps. front_goes now ps shape) same

-- the queue that was read is that of the front's bank
pub front_says : (vault_queue : Queue) (banks : List Queue) (answers : Queue) (now : VaultFields) (shape : ShapeFields) (front : PacketFields) (bank place : ℕ) (queue : Queue) (room : Bool) → IsVaultOfQueues vault_queue banks answers → vault_of_queues vault_queue banks answers ≡ now → length now.banks ≡ 2 ^ shape.bank_bits →
    slice_get (packets_of vault_queue) 0 ≡ Some front → bank ≡ bank_of shape front.address → place ≡ bank → queue ≡ get_or banks place queue → nat_lt (length (packets_of queue)) (size_of queue) ≡ room → (if room then spreads.Moved bank else spreads.Full) ≡ spread_says now shape
front_says vault_queue banks answers now shape front bank place queue room kept view long is to at read fits =
    let found : IsRead vault_queue banks answers now place queue = record { kept = kept; view_is = view; there = bank_there now shape front.address bank place long to at; read = read } in
    let bank_is : bank_at now bank ≡ packets_of queue = ap (bank_at now) (sym at) ∙ read_packets vault_queue banks answers now place queue found in
    let sized : now.size ≡ size_of queue = sym (ap (λ (v : VaultFields). v.size) view) ∙ sym (read_is_bank_queue vault_queue banks answers now place queue found).size in
    by_room now shape (packets_of vault_queue) front bank room (ap (λ (v : VaultFields). v.vault_queue) view) is to
    (ap (λ (l : List PacketFields). nat_lt (length l) now.size) bank_is ∙ ap (nat_lt (length (packets_of queue))) sized ∙ fits)

-- a move to where there is room is one of the front, if there is one
room_is : (queue : List PacketFields) (size : ℕ) → length queue < size → nat_le (sum_by one queue + 1) size ≡ true
room_is queue size room = le-leb (sum_by one queue + 1) size (omega (arith, all_cost_one queue))

pub front_moves : (m : Shift) (packets queue : List PacketFields) (size : ℕ) → length queue < size → m ≡ shifted_by packets (has_room queue size one) → (kept_packets m packets ≡ drop 1 packets) × (shifted_packets m packets ≡ take 1 packets)
front_moves m [] queue size room is = subst (λ (n : Shift). (kept_packets n [] ≡ drop 1 []) × (shifted_packets n [] ≡ take 1 [])) (sym is) (refl, refl)
front_moves m (front ∷ rest) queue size room is =
    subst (λ (n : Shift). (kept_packets n (front ∷ rest) ≡ drop 1 (front ∷ rest)) × (shifted_packets n (front ∷ rest) ≡ take 1 (front ∷ rest)))
    (sym (is ∙ ap (λ b. if b then Done else Full) (room_is queue size room))) (refl, refl)

-- a vault with these packets and these banks
abbrev with_packets : VaultFields → List PacketFields → List (List PacketFields) → VaultFields
with_packets now packets banks = record { vault_queue = packets; banks = banks; answers = now.answers; size = now.size }

same_packets : (now : VaultFields) (packets packets' : List PacketFields) (banks banks' : List (List PacketFields)) → packets ≡ packets' → banks ≡ banks' → with_packets now packets banks ≡ with_packets now packets' banks'
same_packets now packets packets' banks banks' p b = ap (λ l. with_packets now l banks) p ∙ ap (with_packets now packets') b

-- what the move of the front left is what the spread gives
pub move_gives : (now : VaultFields) (bank : ℕ) (packets queue : List PacketFields) → packets ≡ drop 1 now.vault_queue → queue ≡ bank_at now bank ++ take 1 now.vault_queue →
    with_packets now packets (set now.banks bank queue) ≡ spread_gives (spreads.Moved bank) now
move_gives now bank packets queue out into =
    same_packets now packets (drop 1 now.vault_queue) (set now.banks bank queue) (set now.banks bank (bank_at now bank ++ take 1 now.vault_queue))
    out (ap (set now.banks bank) into)

pub bank_queue_after_move : (vault_queue vault_queue' queue queue' : Queue) (moved : List PacketFields) → IsBankQueue vault_queue queue → size_of vault_queue' ≡ size_of vault_queue → size_of queue' ≡ size_of queue → packets_of queue' ≡ packets_of queue ++ moved → All IsForBanks moved → IsBankQueue vault_queue' queue'
bank_queue_after_move vault_queue vault_queue' queue queue' moved is same sized into requests = record {
  size = sized ∙ is.size ∙ sym same;
  requests = All-same IsForBanks (packets_of queue') (packets_of queue ++ moved) into (All-append IsForBanks (packets_of queue) moved is.requests requests);
}

-- What stays at a spread.
pub banks_of_spread : (says : Spread) (now : VaultFields) → length (spread_gives says now).banks ≡ length now.banks
banks_of_spread spreads.Empty now = refl
banks_of_spread spreads.Full now = refl
banks_of_spread (spreads.Moved bank) now = length-set now.banks bank (bank_at now bank ++ take 1 now.vault_queue)

pub size_of_spread : (says : Spread) (now : VaultFields) → (spread_gives says now).size ≡ now.size
size_of_spread spreads.Empty now = refl
size_of_spread spreads.Full now = refl
size_of_spread (spreads.Moved bank) now = refl

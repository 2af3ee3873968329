-- How a vault keeps its queues.
use Rattle.std.proofs.Common.{◌≡◌, ◌≤◌, ◌<◌, ◌∙◌, ◌+◌, ◌*◌, ◌%◌, ◌^◌, ℕ, List, [], ◌∷◌, ◌++◌, length, map, take, set, get_or, sum_by, refl, sym, ap, subst, arith}
use Rattle.std.specs.Prelude.{replicate, slice_get, None}
use Rattle.std.specs.List.{All}
use Rattle.std.proofs.lemmas.List.{length-set, length-map, length-replicate, map-set, get_or-map, set-get_or}
use Rattle.std.proofs.lemmas.List.Elements.{All-weaker, All-same, All-push, All-get_or, All-set, All-nil, All-map}
use Rattle.std.proofs.lemmas.List.Sums.{sum_by-cons, sum_by_more}
use Rattle.std.proofs.Math.Nat.{pow-le-pow_right}
use Rattle.hmc_packet.specs.Packet.{PacketFields}
use Rattle.hmc_tokens.specs.declared.queue.Queue.{Queue}
use Rattle.hmc_tokens.specs.Queue.{packets_of, size_of, one, all_cost_one, within_size}
use Rattle.hmc_vault.specs.Packets.{IsForBanks}
use Rattle.hmc_vault.specs.Vault.{VaultFields, bank_at, held_by, IsVault}
use Rattle.hmc_vault.specs.Kept.{vault_of_queues, IsBankQueue, IsOpening, IsVaultOfQueues, held_in}

-- room in the vault queue
pub room_in : (vault_queue : Queue) (banks : List Queue) (answers : Queue) (now : VaultFields) → vault_of_queues vault_queue banks answers ≡ now → length now.vault_queue < now.size → sum_by one (packets_of vault_queue) + 1 ≤ size_of vault_queue
room_in vault_queue banks answers now view room =
    let long : length (packets_of vault_queue) ≡ length now.vault_queue = ap (λ (v : VaultFields). length v.vault_queue) view in
    let sized : size_of vault_queue ≡ now.size = ap (λ (v : VaultFields). v.size) view in
    omega (arith, all_cost_one (packets_of vault_queue))

-- where there is no front there is nothing
pub no_front : (packets : List PacketFields) → slice_get packets 0 ≡ None → packets ≡ []
no_front [] is = refl
no_front (packet ∷ rest) is = absurd (cc)

-- the other queues fit a vault queue of the same size
pub kept_entering : (vault_queue vault_queue' : Queue) (banks : List Queue) (answers : Queue) → IsVaultOfQueues vault_queue banks answers → size_of vault_queue' ≡ size_of vault_queue → All IsForBanks (packets_of vault_queue') → IsVaultOfQueues vault_queue' banks answers
kept_entering vault_queue vault_queue' banks answers kept same requests = record {
  small = omega (arith, kept.small);
  few = kept.few;
  bank_queues = All-weaker (IsBankQueue vault_queue) (IsBankQueue vault_queue') (λ queue is. record { size = is.size ∙ sym same; requests = is.requests }) banks kept.bank_queues;
  answers_size = kept.answers_size ∙ sym same;
  requests = requests;
}

-- one more request to a bank has entered
pub kept_with_one_more : (vault_queue vault_queue' : Queue) (banks : List Queue) (answers : Queue) (packet : PacketFields) → IsVaultOfQueues vault_queue banks answers → size_of vault_queue' ≡ size_of vault_queue → packets_of vault_queue' ≡ packets_of vault_queue ++ packet ∷ [] → IsForBanks packet → IsVaultOfQueues vault_queue' banks answers
kept_with_one_more vault_queue vault_queue' banks answers packet kept same is request =
    kept_entering vault_queue vault_queue' banks answers kept same
    (All-same IsForBanks (packets_of vault_queue') (packets_of vault_queue ++ packet ∷ []) is (All-push IsForBanks (packets_of vault_queue) packet kept.requests request))

-- the queue of a bank has changed
pub kept_bank : (vault_queue : Queue) (banks : List Queue) (answers answers' : Queue) (place : ℕ) (queue : Queue) → IsVaultOfQueues vault_queue banks answers → size_of answers' ≡ size_of answers → IsBankQueue vault_queue queue → IsVaultOfQueues vault_queue (set banks place queue) answers'
kept_bank vault_queue banks answers answers' place queue kept same is = record {
  small = kept.small;
  few = omega (arith, kept.few, length-set banks place queue);
  bank_queues = All-set (IsBankQueue vault_queue) banks place queue is kept.bank_queues;
  answers_size = same ∙ kept.answers_size;
  requests = kept.requests;
}

-- a queue that was read at the place of a bank
pub record IsRead (vault_queue : Queue) (banks : List Queue) (answers : Queue) (now : VaultFields) (place : ℕ) (queue : Queue) : Type 0 where
  pub kept : IsVaultOfQueues vault_queue banks answers
  pub view_is : vault_of_queues vault_queue banks answers ≡ now
  pub there : place < length now.banks
  pub read : queue ≡ get_or banks place queue

there_in : (vault_queue : Queue) (banks : List Queue) (answers : Queue) (now : VaultFields) (place : ℕ) (queue : Queue) → IsRead vault_queue banks answers now place queue → place < length banks
there_in vault_queue banks answers now place queue is =
    omega (arith, is.there, ap (λ (v : VaultFields). length v.banks) is.view_is, length-map banks packets_of)

pub read_is_bank_queue : (vault_queue : Queue) (banks : List Queue) (answers : Queue) (now : VaultFields) (place : ℕ) (queue : Queue) → IsRead vault_queue banks answers now place queue → IsBankQueue vault_queue queue
read_is_bank_queue vault_queue banks answers now place queue is =
    subst (IsBankQueue vault_queue) (sym is.read) (All-get_or (IsBankQueue vault_queue) banks place queue (there_in vault_queue banks answers now place queue is) is.kept.bank_queues)

-- its packets are those of the bank
pub read_packets : (vault_queue : Queue) (banks : List Queue) (answers : Queue) (now : VaultFields) (place : ℕ) (queue : Queue) → IsRead vault_queue banks answers now place queue → bank_at now place ≡ packets_of queue
read_packets vault_queue banks answers now place queue is =
    ap (λ (v : VaultFields). bank_at v place) (sym is.view_is) ∙ get_or-map packets_of banks place queue [] (there_in vault_queue banks answers now place queue is) ∙ ap packets_of (sym is.read)

-- the vault with other queues
pub vault_with : (vault_queue : Queue) (banks : List Queue) (answers : Queue) (now : VaultFields) (place : ℕ) (vault_queue' queue' answers' : Queue) (es' qs' as' : List PacketFields) → vault_of_queues vault_queue banks answers ≡ now → size_of vault_queue' ≡ size_of vault_queue →
    packets_of vault_queue' ≡ es' → packets_of queue' ≡ qs' → packets_of answers' ≡ as' →
    vault_of_queues vault_queue' (set banks place queue') answers' ≡ record { vault_queue = es'; banks = set now.banks place qs'; answers = as'; size = now.size }
vault_with vault_queue banks answers now place vault_queue' queue' answers' es' qs' as' view same es qs as_ =
    let bs : map packets_of (set banks place queue') ≡ set now.banks place qs' =
    map-set packets_of banks place queue' ∙ ap (set (map packets_of banks) place) qs ∙ ap (λ (v : VaultFields). set v.banks place qs') view in
    let size : size_of vault_queue' ≡ now.size = same ∙ ap (λ (v : VaultFields). v.size) view in
    ap (λ e. record { vault_queue = e; banks = map packets_of (set banks place queue'); answers = packets_of answers'; size = size_of vault_queue' }) es
    ∙ ap (λ b. record { vault_queue = es'; banks = b; answers = packets_of answers'; size = size_of vault_queue' }) bs
    ∙ ap (λ a. record { vault_queue = es'; banks = set now.banks place qs'; answers = a; size = size_of vault_queue' }) as_
    ∙ ap (λ s. record { vault_queue = es'; banks = set now.banks place qs'; answers = as'; size = s }) size

-- a bank whose queue stays
pub bank_stays : (now : VaultFields) (place : ℕ) → set now.banks place (bank_at now place) ≡ now.banks
bank_stays now place = set-get_or now.banks place []

two_powers : (bits : ℕ) → bits ≤ 4 → 2 ^ bits ≤ 16
two_powers bits few = pow-le-pow_right {n = 2} (omega arith) few

-- the number of banks is computed
pub count_of_banks : (bits : ℕ) → bits ≤ 4 → 1 * 2 ^ bits % 2 ^ 64 ≡ 2 ^ bits
count_of_banks bits few = omega (arith, two_powers bits few)

-- new queues
pub opening_kept : (vault_queue : Queue) (banks : List Queue) (answers : Queue) (size bits count : ℕ) → IsOpening size vault_queue → IsOpening size answers → All (IsOpening size) banks → size < 2 ^ 8 → bits ≤ 4 → count ≡ 2 ^ bits → map packets_of banks ≡ replicate count [] → IsVaultOfQueues vault_queue banks answers
opening_kept vault_queue banks answers size bits count first last each small few is all = record {
  small = omega (arith, first.size);
  few = omega (arith, length-map banks packets_of, ap length all, length-replicate {A = List PacketFields} count [], two_powers bits few);
  bank_queues = All-weaker (IsOpening size) (IsBankQueue vault_queue) (λ queue is. record { size = is.size ∙ sym first.size; requests = All-same IsForBanks (packets_of queue) [] is.empty (All-nil IsForBanks) }) banks each;
  answers_size = last.size ∙ sym first.size;
  requests = All-same IsForBanks (packets_of vault_queue) [] first.empty (All-nil IsForBanks);
}

-- The packets that are held.
held_map : (banks : List Queue) → sum_by length (map packets_of banks) ≡ held_in banks
held_map [] = refl
held_map (queue ∷ rest) =
    sum_by-cons length (packets_of queue) (map packets_of rest) ∙ ap (λ n. length (packets_of queue) + n) (held_map rest) ∙ sym (sum_by-cons (λ (q : Queue). length (packets_of q)) queue rest)

pub held_is : (vault_queue : Queue) (banks : List Queue) (answers : Queue) (now : VaultFields) (used held used' : ℕ) → vault_of_queues vault_queue banks answers ≡ now → used ≡ sum_by one (packets_of vault_queue) → held ≡ held_in banks → used' ≡ sum_by one (packets_of answers) → used + held + used' ≡ held_by now
held_is vault_queue banks answers now used held used' view first middle last =
    omega (arith, all_cost_one (packets_of vault_queue), all_cost_one (packets_of answers), held_map banks, ap held_by view)

-- a queue of a small size holds few
pub few_used : (queue : Queue) (used : ℕ) → used ≡ sum_by one (packets_of queue) → size_of queue < 2 ^ 8 → used ≤ 255
few_used queue used cost small = omega (arith, within_size queue)

pub one_more_queue : (queues : List Queue) (i used : ℕ) (queue : Queue) → i < length queues → queue ≡ get_or queues i queue → used ≡ sum_by one (packets_of queue) → held_in (take i queues) + used ≡ held_in (take (i + 1) queues)
one_more_queue queues i used queue there read cost =
    omega (arith, all_cost_one (packets_of queue), sum_by_more (λ (q : Queue). length (packets_of q)) queues i queue there, ap (λ (q : Queue). length (packets_of q)) read)

pub small_banks : (vault_queue : Queue) (banks : List Queue) (answers : Queue) → IsVaultOfQueues vault_queue banks answers → All (λ queue. size_of queue < 2 ^ 8) banks
small_banks vault_queue banks answers kept =
    All-weaker (IsBankQueue vault_queue) (λ queue. size_of queue < 2 ^ 8) (λ queue is. omega (arith, is.size, kept.small)) banks kept.bank_queues

pub small_item : (queues : List Queue) (i : ℕ) (queue : Queue) → i < length queues → queue ≡ get_or queues i queue → All (λ q. size_of q < 2 ^ 8) queues → size_of queue < 2 ^ 8
small_item queues i queue there read small =
    subst (λ q. size_of q < 2 ^ 8) (sym read) (All-get_or (λ q. size_of q < 2 ^ 8) queues i queue there small)

vault_is : (vault_queue : Queue) (banks : List Queue) (answers : Queue) → IsVaultOfQueues vault_queue banks answers → IsVault (vault_of_queues vault_queue banks answers)
vault_is vault_queue banks answers kept = record {
  vault_queue_fits = vault_queue.within;
  banks_fit = All-map (λ (packets : List PacketFields). length packets ≤ size_of vault_queue) packets_of banks (All-weaker (IsBankQueue vault_queue) (λ queue. length (packets_of queue) ≤ size_of vault_queue) (λ queue is. subst (λ n. length (packets_of queue) ≤ n) is.size queue.within) banks kept.bank_queues);
  answers_fit = subst (λ n. length (packets_of answers) ≤ n) kept.answers_size answers.within;
  requests = kept.requests;
  bank_requests = All-map (All IsForBanks) packets_of banks (All-weaker (IsBankQueue vault_queue) (λ queue. All IsForBanks (packets_of queue)) (λ queue is. is.requests) banks kept.bank_queues);
}

-- what a vault that is seen so keeps
pub kept_vault : (vault_queue : Queue) (banks : List Queue) (answers : Queue) (now : VaultFields) → IsVaultOfQueues vault_queue banks answers → vault_of_queues vault_queue banks answers ≡ now → IsVault now
kept_vault vault_queue banks answers now kept view = subst IsVault view (vault_is vault_queue banks answers kept)

-- How a cube keeps its queues.
use Rattle.std.proofs.Common.{◌≡◌, ◌≤◌, ◌<◌, ◌∙◌, ◌+◌, ◌*◌, ℕ, suc, List, [], length, map, set, get_or, sum_by, sym, ap, subst, arith}
use Rattle.std.specs.Prelude.{All}
use Rattle.std.proofs.lemmas.List.{length-set, length-map, map-set, get_or-map}
use Rattle.std.proofs.lemmas.List.Elements.{All-get_or, All-set, All-map}
use Rattle.std.proofs.Math.Nat.{mul-le-mul_right}
use Rattle.hmc_packet.specs.Packet.{PacketFields}
use Rattle.hmc_tokens.specs.declared.queue.Queue.{Queue}
use Rattle.hmc_tokens.specs.Queue.{packets_of, size_of, one, all_cost_one}
use Rattle.hmc_queues.specs.Queues.{CubeQueuesFields}
use Rattle.hmc_queues.specs.Kept.{view_of_queues, HasSize, AreQueues}

-- a queue that was read at a place
pub record IsRead (vaults banks size : ℕ) (queues : List Queue) (now : CubeQueuesFields) (place : ℕ) (queue : Queue) : Type 0 where
  pub kept : AreQueues vaults banks size queues
  pub view_is : view_of_queues vaults banks size queues ≡ now
  pub there : place < length now.queues
  pub read : queue ≡ get_or queues place queue

pub there_in : (vaults banks size : ℕ) (queues : List Queue) (now : CubeQueuesFields) (place : ℕ) (queue : Queue) → IsRead vaults banks size queues now place queue → place < length queues
there_in vaults banks size queues now place queue is = omega (arith, is.there, ap (λ (r : CubeQueuesFields). length r.queues) is.view_is, length-map queues packets_of)

pub read_size : (vaults banks size : ℕ) (queues : List Queue) (now : CubeQueuesFields) (place : ℕ) (queue : Queue) → IsRead vaults banks size queues now place queue → size_of queue ≡ size
read_size vaults banks size queues now place queue is =
    subst (HasSize size) (sym is.read) (All-get_or (HasSize size) queues place queue (there_in vaults banks size queues now place queue is) is.kept.sizes)

pub read_packets : (vaults banks size : ℕ) (queues : List Queue) (now : CubeQueuesFields) (place : ℕ) (queue : Queue) → IsRead vaults banks size queues now place queue → get_or now.queues place [] ≡ packets_of queue
read_packets vaults banks size queues now place queue is =
    ap (λ (r : CubeQueuesFields). get_or r.queues place []) (sym is.view_is) ∙ get_or-map packets_of queues place queue [] (there_in vaults banks size queues now place queue is) ∙ ap packets_of (sym is.read)

-- the cube with other packets in one queue
pub with_queue : (vaults banks size : ℕ) (queues : List Queue) (now : CubeQueuesFields) (place : ℕ) (queue : Queue) (packets : List PacketFields) → view_of_queues vaults banks size queues ≡ now → packets_of queue ≡ packets → view_of_queues vaults banks size (set queues place queue) ≡ record now { queues = set now.queues place packets }
with_queue vaults banks size queues now place queue packets view is =
    ap (λ (l : List (List PacketFields)). record { vaults = vaults; banks = banks; size = size; queues = l }) (map-set packets_of queues place queue ∙ ap (set (map packets_of queues) place) is)
    ∙ ap (λ (r : CubeQueuesFields). record r { queues = set r.queues place packets }) view

-- room in a queue
pub room_in : (vaults banks size : ℕ) (queues : List Queue) (now : CubeQueuesFields) (place : ℕ) (queue : Queue) → IsRead vaults banks size queues now place queue → length (get_or now.queues place []) < now.size → sum_by one (packets_of queue) + 1 ≤ size_of queue
room_in vaults banks size queues now place queue is room =
    let long : length (get_or now.queues place []) ≡ length (packets_of queue) = ap length (read_packets vaults banks size queues now place queue is) in
    let sized : now.size ≡ size = ap (λ (r : CubeQueuesFields). r.size) (sym is.view_is) in
    omega (arith, all_cost_one (packets_of queue), read_size vaults banks size queues now place queue is)

pub sizes_set : (vaults banks size : ℕ) (queues : List Queue) (place : ℕ) (queue : Queue) → AreQueues vaults banks size queues → size_of queue ≡ size → AreQueues vaults banks size (set queues place queue)
sizes_set vaults banks size queues place queue kept is = record {
  count = length-set queues place queue ∙ kept.count;
  sizes = All-set (HasSize size) queues place queue is kept.sizes;
}

-- ---- places

-- a place below the end of its group is one of the list
pub below_seats : (vaults banks vault seat : ℕ) → vault < vaults → seat < banks + 2 → vault * (banks + 2) + seat < vaults * (banks + 2) + 2
below_seats vaults banks vault seat less few =
    let more : suc vault * (banks + 2) ≤ vaults * (banks + 2) = mul-le-mul_right {m = suc vault} {n = vaults} (banks + 2) (omega arith) in let step : suc vault * (banks + 2) ≡ vault * (banks + 2) + (banks + 2) = omega arith in omega (arith, more, step)

pub count_is : (vaults banks size : ℕ) (queues : List Queue) (now : CubeQueuesFields) → AreQueues vaults banks size queues → view_of_queues vaults banks size queues ≡ now → length now.queues ≡ now.vaults * (now.banks + 2) + 2
count_is vaults banks size queues now kept view =
    ap (λ (r : CubeQueuesFields). length r.queues) (sym view) ∙ length-map queues packets_of ∙ kept.count ∙ ap (λ (r : CubeQueuesFields). r.vaults * (r.banks + 2) + 2) view

-- ---- empty queues

pub all_empty : (vaults banks size : ℕ) (queues : List Queue) (now : CubeQueuesFields) → view_of_queues vaults banks size queues ≡ now → All (λ (q : Queue). packets_of q ≡ []) queues → All (λ (l : List PacketFields). l ≡ []) now.queues
all_empty vaults banks size queues now view all =
    subst (λ (r : CubeQueuesFields). All (λ (l : List PacketFields). l ≡ []) r.queues) view (All-map (λ (l : List PacketFields). l ≡ []) packets_of queues all)

all_of_map : (queues : List Queue) → All (λ (l : List PacketFields). l ≡ []) (map packets_of queues) → All (λ (q : Queue). packets_of q ≡ []) queues
all_of_map queues all = λ k d less. sym (get_or-map packets_of queues k d [] less) ∙ all k [] (omega (arith, length-map queues packets_of))

pub empty_all : (vaults banks size : ℕ) (queues : List Queue) (now : CubeQueuesFields) → view_of_queues vaults banks size queues ≡ now → All (λ (l : List PacketFields). l ≡ []) now.queues → All (λ (q : Queue). packets_of q ≡ []) queues
empty_all vaults banks size queues now view all =
    all_of_map queues (subst (λ (r : CubeQueuesFields). All (λ (l : List PacketFields). l ≡ []) r.queues) (sym view) all)

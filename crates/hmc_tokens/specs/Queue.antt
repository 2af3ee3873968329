-- Queues as intakes.
use Rattle.std.specs.Prelude.{◌≡◌, ◌≤◌, ℕ, List, [], ◌∷◌, length, sum_by}
use Rattle.std.proofs.Common.{arith}
use Rattle.std.proofs.lemmas.List.Sums.{sum_by-cons}
use Rattle.hmc_packet.specs.Packet.{PacketFields}
use Rattle.hmc_tokens.specs.declared.queue.Queue.{Queue}

-- the packets of a queue, the front first
abbrev pub packets_of : Queue → List PacketFields
packets_of queue = queue.kept.packets

-- the number of packets that a queue has room for
abbrev pub size_of : Queue → ℕ
size_of queue = queue.kept.most

-- what each packet costs a queue
abbrev pub one : PacketFields → ℕ
one _ = 1

-- so packets cost as much as there are packets
pub all_cost_one : (packets : List PacketFields) → sum_by one packets ≡ length packets
all_cost_one [] = omega arith
all_cost_one (packet ∷ rest) = omega (arith, sum_by-cons one packet rest, all_cost_one rest)

-- a queue has at most as many packets as its size
pub within_size : (queue : Queue) → sum_by one (packets_of queue) ≤ size_of queue
within_size queue = omega (arith, all_cost_one (packets_of queue), queue.within)

-- Queues.
use Rattle.std.proofs.Common.{◌≡◌, ◌≤◌, ◌+◌, ℕ, List, [], ◌∷◌, ◌++◌, length, length-append, ap, arith, sum_by}
use Rattle.hmc_packet.specs.Packet.{PacketFields}
use Rattle.hmc_tokens.specs.Queue.{one, all_cost_one}

-- a queue with room for one more packet has taken it in
pub one_more : (before after : List PacketFields) (packet : PacketFields) (most size : ℕ) → after ≡ before ++ packet ∷ [] → size ≡ most → sum_by one before + 1 ≤ most → length after ≤ size
one_more before after packet most size is same room =
    omega (arith, ap length is, length-append before (packet ∷ []), all_cost_one before)

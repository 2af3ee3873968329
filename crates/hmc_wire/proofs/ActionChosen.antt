-- The first flit of a packet, new or sent again, has number 0. Used by Senders.
use Rattle.std.proofs.Common.{◌≡◌, ◌+◌, ◌-◌, ap, arith}
use Rattle.hmc_numbers.specs.Weights.{Weight, size}
use Rattle.hmc_numbers.specs.Direction.{Direction, begun, position}
use Rattle.hmc_numbers.specs.Direction.Item.{part}
use Rattle.hmc_numbers.specs.Events.Event.{begins, begins_again}
use Rattle.hmc_numbers.proofs.Sums.{size-snoc}
use Rattle.hmc_wire.proofs.Actions.{item_of}

-- of a new packet
pub new_item : (w : Direction) (s : Weight) → item_of w (begins s) ≡ part (begun w + 1) 0 (s.flits - 1)
new_item w s = let z = size-snoc w.first s in ap (λ k. part (begun w + 1) k (s.flits - 1)) (omega arith)

-- of a packet that is sent again
pub again_item : (w : Direction) → item_of w begins_again ≡ part (position w + 1) 0 (size w.first (position w + 1) - 1)
again_item w = ap (λ k. part (position w + 1) k (size w.first (position w + 1) - 1)) (omega arith)

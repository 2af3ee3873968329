-- Intakes that cost each packet its flits.
use Rattle.std.proofs.Common.{◌≡◌, ◌≤◌, ◌<◌, ◌+◌, ℕ, List, [], ◌∷◌, ◌++◌, length, drop, ap, arith, sum_by}
use Rattle.std.proofs.lemmas.List.Sums.{sum_by-cons, sum_by_push}
use Rattle.hmc_packet.specs.Packet.{PacketFields, flits_of}

-- each packet has a flit
pub length_within : (packets : List PacketFields) → length packets ≤ sum_by flits_of packets
length_within [] = omega arith
length_within (packet ∷ rest) = omega (arith, sum_by-cons flits_of packet rest, length_within rest)

-- where a packet's flits have room, there is room for a packet
pub room_for_packet : (packets : List PacketFields) (packet : PacketFields) (size : ℕ) → sum_by flits_of packets + flits_of packet ≤ size → length packets < size
room_for_packet packets packet size room = omega (arith, length_within packets)

-- a packet that had room has come in
pub within_with_one_more : (before after : List PacketFields) (packet : PacketFields) (size size' : ℕ) → after ≡ before ++ packet ∷ [] → size' ≡ size → sum_by flits_of before + flits_of packet ≤ size → sum_by flits_of after ≤ size'
within_with_one_more before after packet size size' is same room =
    omega (arith, ap (sum_by flits_of) is, sum_by_push flits_of before packet)

out : (packets : List PacketFields) → sum_by flits_of (drop 1 packets) ≤ sum_by flits_of packets
out [] = omega arith
out (packet ∷ rest) = omega (arith, sum_by-cons flits_of packet rest)

-- the front has gone out
pub within_without_front : (before after : List PacketFields) (size size' : ℕ) → after ≡ drop 1 before → size' ≡ size → sum_by flits_of before ≤ size → sum_by flits_of after ≤ size'
within_without_front before after size size' is same within = omega (arith, ap (sum_by flits_of) is, out before)

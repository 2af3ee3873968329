-- Short packets have few flits between them, and their count follows what comes and goes.
use Rattle.std.proofs.Common.{◌≡◌, ◌≤◌, ◌<◌, ◌+◌, ◌-◌, ◌*◌, ◌^◌, ℕ, List, [], ◌∷◌, All, Some, length, drop, ap, arith, sum_by}
use Rattle.std.specs.Prelude.{slice_get}
use Rattle.std.proofs.lemmas.List.Elements.{All-head, All-tail}
use Rattle.std.proofs.lemmas.List.Sums.{sum_by-cons}
use Rattle.hmc_packet.specs.Packet.{PacketFields, flits_of}
use Rattle.hmc_tokens.specs.Packets.{IsShort, AreKept}

few_flits : (packets : List PacketFields) → All IsShort packets → sum_by flits_of packets ≤ 17 * length packets
few_flits [] short = omega arith
few_flits (packet ∷ rest) short =
    omega (arith, sum_by-cons flits_of packet rest, few_flits rest (All-tail IsShort packet rest short), All-head IsShort packet rest short)

-- so their sum, and one packet more, is counted in 32 bits
pub one_more_fits : (packets : List PacketFields) (most reserved counted flits : ℕ) → AreKept packets most reserved counted → flits ≤ 17 → counted + flits < 2 ^ 32
one_more_fits packets most reserved counted flits kept few = omega (arith, few_flits packets kept.short, kept.within, kept.small, kept.counts)

-- the front has gone out
pub kept_without_front : (packets : List PacketFields) (most reserved counted : ℕ) (packet : PacketFields) → AreKept packets most reserved counted → slice_get packets 0 ≡ Some packet → AreKept (drop 1 packets) most reserved (counted - flits_of packet)
kept_without_front [] most reserved counted packet kept front = absurd (cc front)
kept_without_front (first ∷ rest) most reserved counted packet kept front =
    let same : first ≡ packet = cc front in
    let flits : flits_of first ≡ flits_of packet = ap flits_of same in record {
      within = omega (arith, kept.within);
      enough = kept.enough;
      small = kept.small;
      counts = omega (arith, kept.counts, sum_by-cons flits_of first rest, flits);
      short = All-tail IsShort first rest kept.short;
    }

use Rattle.std.proofs.Common.{List, ℕ, sym, subst}
use Rattle.hmc_packet.specs.Packet.{IsPacket, null_packet}
use Rattle.hmc_packet.proofs.packet.Packet.flow.Goals as goal

pub invariant_of-result : goal.invariant_of-result
invariant_of-result c =
    subst
    (λ (bytes : List ℕ). IsPacket (record null_packet { command = c.args.command; frp = c.args.frp; payload = bytes }))
    (sym c.empty.ensures)
    c.requires

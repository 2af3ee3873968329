-- The header's fields fit their bits.
use Rattle.std.proofs.Common.{sym, subst}
use Rattle.hmc_packet.specs.Header.{IsHeader}
use Rattle.hmc_packet.specs.Packet.{IsPacket}
use Rattle.hmc_packet.proofs.PacketLemmas.{IsHeader-fields}
use Rattle.hmc_packet.proofs.draft.Draft.of.Goals as goal

pub pack-header-requires : goal.pack-header-requires
pack-header-requires c =
    subst IsHeader (sym c.header_with.ensures) (IsHeader-fields c.args.packet.now (subst IsPacket c.packet.view_is c.packet.invariant))

use Rattle.std.proofs.Common.{◌∙◌, sym, ap, subst}
use Rattle.hmc_codes.specs.Commands.{layout_of}
use Rattle.hmc_codes.specs.Flit.{zero_flit}
use Rattle.hmc_packet.specs.Packet.{PacketFields, IsPacket}
use Rattle.hmc_packet.proofs.DraftLemmas.{last-at, null-at}
use Rattle.hmc_packet.proofs.draft.Draft.last_flit.Goals as goal

pub returns-in-Null : goal.returns-in-Null
unfolding zero_flit
returns-in-Null c =
    null-at c.args.profile c.args.packet.now c.args.rrp (subst IsPacket c.packet.view_is c.packet.invariant)
    (ap (λ (p : PacketFields). layout_of p.command) (sym c.packet.view_is) ∙ sym c.layout.ensures ∙ c.in-Null.is)

pub returns-in_default : goal.returns-in_default
returns-in_default c =
    c.end_flit.ensures
    ∙ last-at c.args.profile c.args.packet.now c.args.rrp (subst IsPacket c.packet.view_is c.packet.invariant)
    (λ null. c.in_default.not-Null (c.layout.ensures ∙ ap (λ (p : PacketFields). layout_of p.command) c.packet.view_is ∙ null))

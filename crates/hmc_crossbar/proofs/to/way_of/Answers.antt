use Rattle.std.proofs.Common.{◌∙◌, ap, sym}
use Rattle.hmc_codes.specs.Commands.{family_of}
use Rattle.hmc_packet.specs.Packet.{PacketFields}
use Rattle.hmc_routes.specs.Ports.{port_to_host}
use Rattle.hmc_crossbar.proofs.ToLemmas.{nowhere, to_host}
use Rattle.hmc_crossbar.proofs.to.way_of.Goals as goal

pub returns-then-packet : goal.returns-then-packet
returns-then-packet c =
    nowhere c.args.routes.now c.args.shape c.args.cube c.args.packet.now c.packet.inside.poisoned
    (ap (λ (p : PacketFields). p.poisoned) c.packet.view_is) c.if-packet.true

pub returns-in-Reply : goal.returns-in-Reply
returns-in-Reply c =
    to_host c.args.routes.now c.args.shape c.args.cube c.args.packet.now c.to_host.result
    c.packet.inside.poisoned c.family.result
    (ap (λ (p : PacketFields). p.poisoned) c.packet.view_is) c.if-packet.false
    (c.family.ensures ∙ ap (λ (p : PacketFields). family_of p.command) c.packet.view_is)
    c.in-Reply.is
    (sym (ap (λ (p : PacketFields). port_to_host c.args.routes.now p.slid c.args.cube)
    c.packet.view_is) ∙ c.to_host.ensures.exact)

use Rattle.std.proofs.Common.{◌∙◌, ap}
use Rattle.hmc_codes.specs.Shape.{vault_of}
use Rattle.hmc_packet.specs.Packet.{PacketFields}
use Rattle.hmc_serial.specs.Unit.{is_for_registers}
use Rattle.hmc_crossbar.proofs.ToLemmas.{elsewhere, to_registers, to_vault}
use Rattle.hmc_crossbar.proofs.to.request_goal.Goals as goal

pub returns-in-Some : goal.returns-in-Some
returns-in-Some c =
    elsewhere c.args.routes.now c.args.shape c.args.cube c.args.packet.now c.packet.inside.cube
    c.in-Some.port c.to_cube.result (ap (λ (p : PacketFields). p.cube) c.packet.view_is)
    c.if-packet-cube.true c.to_cube.ensures.exact c.in-Some.is

pub returns-then-is_for_registers : goal.returns-then-is_for_registers
returns-then-is_for_registers c =
    to_registers c.args.routes.now c.args.shape c.args.cube c.args.packet.now c.packet.inside.cube
    c.is_for_registers.result (ap (λ (p : PacketFields). p.cube) c.packet.view_is)
    c.if-packet-cube.false
    (c.is_for_registers.ensures ∙ ap (λ (p : PacketFields). is_for_registers p.command)
    c.packet.view_is) c.if-is_for_registers.true

pub returns : goal.returns
returns c =
    to_vault c.args.routes.now c.args.shape c.args.cube c.args.packet.now c.packet.inside.cube
    c.spot.result.vault c.is_for_registers.result
    (ap (λ (p : PacketFields). p.cube) c.packet.view_is) c.if-packet-cube.false
    (c.is_for_registers.ensures ∙ ap (λ (p : PacketFields). is_for_registers p.command)
    c.packet.view_is) c.if-is_for_registers.false
    (c.spot.ensures.vault ∙ ap (λ (p : PacketFields). vault_of c.args.shape p.address)
    c.packet.view_is)

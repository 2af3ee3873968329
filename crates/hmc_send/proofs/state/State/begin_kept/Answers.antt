-- The packet that is begun again is the kept one.
use Rattle.std.proofs.Common.{◌≡◌, ◌∙◌, List, ℕ, Option, Some, true, ap, sym}
use Rattle.std.specs.Prelude.{slice_get}
use Rattle.hmc_packet.specs.Packet.{PacketFields}
use Rattle.hmc_packet.specs.declared.what.What.TheVariants as what
use Rattle.hmc_send.specs.declared.sent.Sent.TheVariants.{Out}
use Rattle.hmc_send.specs.Sender.{again_sent, again_begun, with_begun}
use Rattle.hmc_send.proofs.state.State.begin_kept.Goals as goal

pub returns-clause-flit : goal.returns-clause-flit
returns-clause-flit c =
    let held = c.args.self.now in
    let kept : Some c.in_ok-packet.packet ≡ slice_get held.retry.kept held.retry.position =
    sym c.in_ok-packet.was ∙ c.next.ensures.packet in
    ap (λ (flit : List ℕ). Some (Out flit what.Again)) c.first_flit-flit.ensures.flit
    ∙ ap (λ (packet : Option PacketFields). again_sent held.profile c.args.rrp packet) kept

pub returns-clause-left : goal.returns-clause-left
returns-clause-left c =
    let held = c.args.self.now in
    let kept : Some c.in_ok-packet.packet ≡ slice_get held.retry.kept held.retry.position =
    sym c.in_ok-packet.was ∙ c.next.ensures.packet in
    c.begin.ensures
    ∙ (λ i. with_begun c.in_ok-packet.packet true c.args.rrp (c.first_flit-flit.ensures.flit i)
    (record held { retry = c.next.ensures.left i }))
    ∙ ap (λ (packet : Option PacketFields). again_begun held.profile c.args.rrp packet held) kept

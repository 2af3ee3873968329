-- Where all kept packets were sent, nothing is begun.
use Rattle.std.proofs.Common.{Option, ap, sym}
use Rattle.hmc_packet.specs.Packet.{PacketFields}
use Rattle.hmc_send.specs.Sender.{again_sent, again_begun}
use Rattle.hmc_send.proofs.SendLemmas.{none_left}
use Rattle.hmc_send.proofs.state.State.begin_again.Goals as goal

pub returns-then-is_at_end-clause-flit : goal.returns-then-is_at_end-clause-flit
returns-then-is_at_end-clause-flit c =
    ap (λ (o : Option PacketFields). again_sent c.args.self.now.profile c.args.rrp o) (sym (none_left c.args.self.now.retry c.if-is_at_end.ensures))

pub returns-then-is_at_end-clause-left : goal.returns-then-is_at_end-clause-left
returns-then-is_at_end-clause-left c =
    ap (λ (o : Option PacketFields). again_begun c.args.self.now.profile c.args.rrp o c.args.self.now) (sym (none_left c.args.self.now.retry c.if-is_at_end.ensures))

-- For every list that it stands for.
use Rattle.hmc_packet.specs.Landings.ReceiverEntry.{Unlock}
use Rattle.hmc_receive.proofs.FollowLemmas.{unlock-follows}
use Rattle.hmc_receive.proofs.StandingLemmas.{follows-stands}
use Rattle.hmc_receive.proofs.receiver.Receiver.unlock.Goals as goal

pub returns : goal.returns
returns c profile past is =
    follows-stands profile c.args.self.now c.lose_framing.new.self past Unlock is (unlock-follows c.args.self.now c.lose_framing.new.self c.lose_framing.ensures)

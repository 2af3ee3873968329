-- For every list that it stands for.
use Rattle.std.proofs.Common.{◌∙◌, subst}
use Rattle.hmc_packet.specs.declared.reception.Reception.{Reception}
use Rattle.hmc_packet.specs.Landings.ReceiverEntry.{Land}
use Rattle.hmc_receive.specs.Receiver.{Follows}
use Rattle.hmc_receive.proofs.ReceptionLemmas.{reception-stands}
use Rattle.hmc_receive.proofs.StandingLemmas.{landing-stands}
use Rattle.hmc_receive.proofs.receiver.Receiver.receive.Goals as goal

pub returns-clause-gives : goal.returns-clause-gives
returns-clause-gives c profile past is = c.step.ensures.value ∙ reception-stands profile c.args.self.now past c.args.flit.now is

pub returns-clause-stands : goal.returns-clause-stands
returns-clause-stands c profile past is =
    landing-stands profile c.args.self.now c.step.new.self past c.args.flit.now is
    (subst (λ (x : Reception). Follows c.args.self.now c.step.new.self (Land c.args.flit.now x.outcome)) c.step.ensures.value c.step.ensures.follows)

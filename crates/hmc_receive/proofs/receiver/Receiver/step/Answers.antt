-- A flit came in Abort.
use Rattle.std.proofs.Common.{◌∙◌, ap, refl, sym}
use Rattle.hmc_packet.specs.Irtry.{irtry_in}
use Rattle.hmc_packet.specs.Receptions.{abort_reception}
use Rattle.hmc_receive.specs.Receiver.{ReceiverFields, view_of, after_alone}
use Rattle.hmc_receive.proofs.FollowLemmas.{given, abort-trained, alone-follows}
use Rattle.hmc_receive.proofs.receiver.Receiver.step.Goals as goal

pub returns-in-Abort-clause-follows : goal.returns-in-Abort-clause-follows
returns-in-Abort-clause-follows c =
    let r : ReceiverFields = c.args.self.now in
    given r c.land_in_abort.new.self (after_alone (irtry_in r.profile c.args.flit.now) r) c.args.flit.now c.land_in_abort.result (abort_reception (view_of r) (irtry_in r.profile c.args.flit.now))
    (alone-follows r c.args.flit.now (irtry_in r.profile c.args.flit.now) (abort-trained r.mode (ap (λ (x : ReceiverFields). x.mode) (sym c.self.view_is) ∙ c.in-Abort.is)) refl) c.land_in_abort.ensures.left c.land_in_abort.ensures.value

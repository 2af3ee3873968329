-- A NULL between packets.
use Rattle.std.proofs.Common.{◌∙◌, None, sym}
use Rattle.hmc_packet.specs.declared.outcome.Outcome.TheVariants.{Quiet}
use Rattle.hmc_packet.specs.Receptions.{checked}
use Rattle.hmc_receive.specs.Receiver.{after_other}
use Rattle.hmc_receive.proofs.FollowLemmas.{given, good-trained, null-follows}
use Rattle.hmc_receive.proofs.receiver.Receiver.land_in_good.Goals as goal

pub returns-then-is_null-clause-follows : goal.returns-then-is_null-clause-follows
returns-then-is_null-clause-follows c =
    given c.args.self.now c.see_other.new.self (after_other c.args.self.now) c.args.flit.now c.checked.result (checked Quiet None)
    (null-follows c.args.self.now c.args.flit.now (good-trained c.args.self.now.mode c.requires.good) (sym c.is_null.ensures.value ∙ c.if-is_null.true)) c.see_other.ensures c.checked.ensures

-- The front's flits are no longer counted.
use Rattle.hmc_tokens.proofs.FlitLemmas.{within_without_front}
use Rattle.hmc_tokens.proofs.flit_buffer.FlitBufferIntake.drop_front.Goals as goal

pub invariant_of-self : goal.invariant_of-self
invariant_of-self c = record { within = within_without_front c.args.self.now.kept.packets _ _ _ c.drop_front.ensures.rest c.drop_front.ensures.most c.args.self.now.within }

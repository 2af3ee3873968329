-- What is at hand goes first.
use Rattle.hmc_schedule.proofs.RepeatLemmas.{hand_less}
use Rattle.hmc_schedule.proofs.steps_left.StepsLeft.pass.Goals as goal

pub invariant_of-self : goal.invariant_of-self
invariant_of-self c = hand_less c.self.inside.written c.self.inside.hand c.args.count c.if-count-self.true c.self.invariant

use Rattle.hmc_schedule.proofs.steps_left.StepsLeft.bring.Goals as goal

pub invariant_of-self : goal.invariant_of-self
invariant_of-self c = c.turn.ensures.hand c.self.inside.written c.self.invariant

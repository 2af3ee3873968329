use Rattle.hmc_schedule.proofs.RepeatLemmas.{hand_taken}
use Rattle.hmc_schedule.proofs.steps_left.turn.Goals as goal

pub returns-clause-hand : goal.returns-clause-hand
returns-clause-hand c = λ written is.
    hand_taken written c.args.hand.now.until c.turn_len-len.result c.args.hand.now.later c.turn_len-len.ensures.few c.turn_len-len.ensures.turn c.turn_len-len.ensures.whole is.later

use Rattle.hmc_schedule.proofs.WrittenLemmas.{in_round}
use Rattle.hmc_schedule.proofs.RepeatLemmas.{hold-rounds}
use Rattle.hmc_schedule.proofs.written.repeats_of_rounds.Goals as goal

pub nonzero_rem-next : goal.nonzero_rem-next
nonzero_rem-next c =
    (in_round c.args.kept.now c.args.rounds c.args.at c.requires.rounds c.requires.inside).some

pub returns-in-None-clause-hold : goal.returns-in-None-clause-hold
returns-in-None-clause-hold c = λ some.
    hold-rounds c.args.kept.now c.args.rounds c.args.at c.args.until c.requires.rounds c.requires.inside c.in-None.is

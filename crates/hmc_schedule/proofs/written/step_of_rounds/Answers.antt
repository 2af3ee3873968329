use Rattle.hmc_schedule.proofs.WrittenLemmas.{in_round, quiet_place, noisy_place}
use Rattle.hmc_schedule.proofs.written.step_of_rounds.Goals as goal

pub nonzero_rem-step : goal.nonzero_rem-step
nonzero_rem-step c =
    (in_round c.args.kept.now c.args.rounds c.args.at c.requires.rounds c.requires.inside).some

pub bounds-kept-round : goal.bounds-kept-round
bounds-kept-round c =
    (in_round c.args.kept.now c.args.rounds c.args.at c.requires.rounds c.requires.inside).inside

pub noisy_at-requires-clause-round : goal.noisy_at-requires-clause-round
noisy_at-requires-clause-round c =
    (in_round c.args.kept.now c.args.rounds c.args.at c.requires.rounds c.requires.inside).some

pub returns-in-Some : goal.returns-in-Some
returns-in-Some c =
    rw c.noisy_at.ensures (noisy_place c.args.kept.now c.args.rounds c.in-Some.noise c.args.at _ c.requires.rounds c.requires.inside c.in-Some.is)

pub returns-in-None : goal.returns-in-None
returns-in-None c =
    quiet_place c.args.kept.now c.args.rounds c.args.at _ c.requires.rounds c.requires.inside c.in-None.is

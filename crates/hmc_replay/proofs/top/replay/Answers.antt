-- What is due comes, since it is what is answered.
use Rattle.hmc_replay.proofs.Complete.{completes}
use Rattle.hmc_replay.proofs.top.replay.Goals as goal

pub returns-clause-complete : goal.returns-clause-complete
returns-clause-complete g c = λ form is. completes form g.S.Source.shows g.O.Sink.shows _ _ _ _ _ _ (c.replay_with.ensures.replays form is)

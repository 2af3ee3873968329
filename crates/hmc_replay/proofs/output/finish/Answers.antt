-- What was written is handed on, or the finish failed.
use Rattle.hmc_replay.proofs.Writing.{Delivers-after}
use Rattle.hmc_replay.proofs.output.finish.Goals as goal

pub returns : goal.returns
returns g c = λ before lines written.
    Delivers-after before _ _ lines c.finish.result written c.finish.ensures.finished c.finish.ensures.sound c.finish.ensures.not_failed c.finish.ensures.fault c.finish.ensures.failed

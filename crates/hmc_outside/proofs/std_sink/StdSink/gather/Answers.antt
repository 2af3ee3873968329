-- Where there is no room the line isn't made.
use Rattle.hmc_outside.proofs.HeldLemmas.{none_written}
use Rattle.hmc_outside.proofs.std_sink.StdSink.gather.Goals as goal

pub returns-in_err-make_room-clause-prefix : goal.returns-in_err-make_room-clause-prefix
returns-in_err-make_room-clause-prefix g c =
    none_written c.from_residual.result _ _ _ c.make_room.ensures.kept

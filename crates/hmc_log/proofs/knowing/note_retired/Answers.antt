-- The slot's logic unit is gone.
use Rattle.hmc_log.proofs.Noting.{Knows-retired}
use Rattle.hmc_log.proofs.knowing.note_retired.Goals as goal

pub returns : goal.returns
returns c = λ past knows.
    Knows-retired c.args.counts.now c.add_retired.new.self c.args.slot past
    c.add_retired.ensures.retired c.add_retired.ensures.out c.add_retired.ensures.given knows

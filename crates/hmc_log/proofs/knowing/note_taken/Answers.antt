-- The tag is out no longer.
use Rattle.hmc_log.proofs.Noting.{Knows-taken}
use Rattle.hmc_log.proofs.knowing.note_taken.Goals as goal

pub returns : goal.returns
returns c = λ past knows.
    Knows-taken c.args.counts.now c.set_out.new.self c.args.taken.now.host c.args.taken.now.tag
    c.args.taken.now.answer past c.set_out.ensures.out c.set_out.ensures.given
    c.set_out.ensures.retired knows

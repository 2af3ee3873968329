-- One more request, and its tag is out if it has one.
use Rattle.hmc_log.proofs.Noting.{Knows-given, Knows-untagged}
use Rattle.hmc_log.proofs.knowing.note_given.Goals as goal

pub returns-in-Some : goal.returns-in-Some
returns-in-Some c = λ past poisoned request same knows.
    Knows-given c.args.counts.now c.add_given.new.self c.set_out.new.self c.args.host
    c.in-Some.tag c.args.tag c.args.command poisoned request past c.in-Some.is same
    c.add_given.ensures.given c.add_given.ensures.out c.add_given.ensures.retired
    c.set_out.ensures.out c.set_out.ensures.given c.set_out.ensures.retired knows

pub returns-in_default : goal.returns-in_default
returns-in_default c = λ past poisoned request same knows.
    Knows-untagged c.args.counts.now c.add_given.new.self c.args.host c.args.tag poisoned request
    past c.in_default.is c.add_given.ensures.given c.add_given.ensures.out
    c.add_given.ensures.retired knows

use Rattle.std.proofs.Common.{◌<◌, arith}
use Rattle.std.proofs.lemmas.Bool.Decides.{nat_tests}
use Rattle.hmc_schedule.proofs.RepeatLemmas.{pass-last, pass-next}
use Rattle.hmc_schedule.proofs.steps_left.passed.Goals as goal

pub returns-then-last : goal.returns-then-last
returns-then-last c = λ written is more.
    let some : c.args.at < c.args.repeats.until = omega (arith, c.if-at-repeats.false) in
    pass-last written c.args.at c.args.repeats (grind (arith, nat_tests, c.if-last.true)) (is some)

pub returns-else-last : goal.returns-else-last
returns-else-last c = λ written is more.
    let some : c.args.at < c.args.repeats.until = omega (arith, c.if-at-repeats.false) in
    pass-next written c.args.at c.args.repeats (λ same. grind (arith, nat_tests, c.if-last.false, same)) (is some)

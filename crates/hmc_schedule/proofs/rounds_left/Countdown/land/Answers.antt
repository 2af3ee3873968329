use Rattle.std.proofs.Common.{arith}
use Rattle.std.proofs.lemmas.Bool.Decides.{nat_tests}
use Rattle.hmc_schedule.proofs.CountdownLemmas.{land-before, land-at}
use Rattle.hmc_schedule.proofs.rounds_left.Countdown.land.Goals as goal

pub returns-then-self-gt1-clause-mask : goal.returns-then-self-gt1-clause-mask
returns-then-self-gt1-clause-mask c =
    λ direction rest. land-before c.args.self.now direction c.args.mask rest (grind (arith, nat_tests, c.if-self-gt1.true)) c.requires.within

pub returns-clause-mask : goal.returns-clause-mask
returns-clause-mask c =
    λ direction rest. land-at c.args.self.now direction c.args.mask rest c.requires.some c.requires.within (grind (arith, nat_tests, c.if-self-gt1.false))

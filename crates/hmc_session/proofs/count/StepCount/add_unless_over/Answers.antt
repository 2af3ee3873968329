-- One less may follow, so one more was taken.
use Rattle.std.proofs.Common.{ap, arith}
use Rattle.hmc_session.specs.Count.{CountFields}
use Rattle.hmc_session.proofs.count.StepCount.add_unless_over.Goals as goal

pub returns-clause-taken : goal.returns-clause-taken
returns-clause-taken c = λ on.
    omega (
      arith,
      c.self.invariant.some,
      c.self.invariant.within,
      c.if-left-eq0.false,
      ap
          (λ (count : CountFields). count.taken) c.self.view_is,
    )

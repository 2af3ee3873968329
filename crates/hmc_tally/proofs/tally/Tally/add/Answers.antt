-- Each count grows by one at most.
use Rattle.std.proofs.Common.{◌+◌, sym, subst}
use Rattle.hmc_tally.specs.Tally.{IsWithin}
use Rattle.hmc_tally.proofs.Within.{tallied_within}
use Rattle.hmc_tally.proofs.tally.Tally.add.Goals as goal

pub returns-clause-within : goal.returns-clause-within
returns-clause-within c = λ most within.
    subst (IsWithin (most + 1)) (sym c.count.ensures)
    (tallied_within c.args.changed c.args.was_good c.args.event most c.args.self.now within)

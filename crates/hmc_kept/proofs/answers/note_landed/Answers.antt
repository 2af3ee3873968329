-- A flit that passed is an entry of its own.
use Rattle.std.proofs.Common.{◌∙◌, ap, sym}
use Rattle.hmc_ends.specs.declared.link_outcome.LinkOutcome.{LinkOutcome}
use Rattle.hmc_kept.specs.LinkAnswers.{landed_by}
use Rattle.hmc_kept.proofs.answers.note_landed.Goals as goal

pub returns-in-Passed-clause-entry : goal.returns-in-Passed-clause-entry
returns-in-Passed-clause-entry c = c.passed.ensures
    ∙ ap (λ (landing : LinkOutcome). landed_by c.args.direction landing) (sym c.in-Passed.is)

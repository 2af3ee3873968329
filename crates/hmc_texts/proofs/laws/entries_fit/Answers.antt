-- By induction on the journal.
use Rattle.hmc_texts.proofs.CaseSteps.{case_steps_fit}
use Rattle.hmc_texts.proofs.Fitting.{entries_fit}
use Rattle.hmc_texts.proofs.laws.entries_fit.Goals as goal

pub returns-clause-steps : goal.returns-clause-steps
returns-clause-steps c = case_steps_fit

pub returns-clause-entries : goal.returns-clause-entries
returns-clause-entries c = entries_fit

-- By the entry that the next step gives.
use Rattle.hmc_journal.proofs.Whole.{journal_is_whole}
use Rattle.hmc_laws.proofs.GoesOn.{lawful_more}
use Rattle.hmc_laws.proofs.laws.lawful_goes_on.Goals as goal

pub returns-clause-more : goal.returns-clause-more
returns-clause-more c = lawful_more

pub returns-clause-one : goal.returns-clause-one
returns-clause-one c = journal_is_whole

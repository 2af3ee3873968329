-- By induction on the journal.
use Rattle.hmc_journal.proofs.OneJournal.{same_journal, journal_of-whole, earlier_lawful}
use Rattle.hmc_laws.proofs.laws.one_journal.Goals as goal

pub returns-clause-same : goal.returns-clause-same
returns-clause-same c = same_journal

pub returns-clause-whole : goal.returns-clause-whole
returns-clause-whole c = journal_of-whole

pub returns-clause-earlier : goal.returns-clause-earlier
returns-clause-earlier c = earlier_lawful

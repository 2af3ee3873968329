use Rattle.hmc_laws.proofs.ParseJournals.{lawful_is_shown, journal_tells}
use Rattle.hmc_laws.proofs.journal_text.journal_tells.Goals as goal

pub returns-clause-shown : goal.returns-clause-shown
returns-clause-shown c = lawful_is_shown

pub returns-clause-journal : goal.returns-clause-journal
returns-clause-journal c = journal_tells

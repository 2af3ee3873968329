use Rattle.hmc_entries.proofs.ParseTells.{line_tells_entry, text_tells_entries}
use Rattle.hmc_entries.proofs.laws.text_tells.Goals as goal

pub returns-clause-line : goal.returns-clause-line
returns-clause-line c = line_tells_entry

pub returns-clause-text : goal.returns-clause-text
returns-clause-text c = text_tells_entries

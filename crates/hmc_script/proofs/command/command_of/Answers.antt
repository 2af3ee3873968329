use Rattle.hmc_script.proofs.CommandLemmas.{command_of_asks, command_of-no_text}
use Rattle.hmc_script.proofs.command.command_of.Goals as goal

pub returns-in_default-clause-value : goal.returns-in_default-clause-value
returns-in_default-clause-value c = command_of-no_text c.args.word.now c.in_default.ensures.cases.0

pub returns-clause-asks : goal.returns-clause-asks
returns-clause-asks c = command_of_asks c.in-Ok.word.now c.with_word.result c.with_word.ensures

use Rattle.hmc_codes.proofs.Codes.{command_of-found, command_of-only}
use Rattle.hmc_codes.proofs.command.Command.from_code.Goals as goal

pub returns-clause-value : goal.returns-clause-value
returns-clause-value c = c.with_code.ensures

pub returns-clause-found : goal.returns-clause-found
returns-clause-found c = command_of-found c.with_code.result c.args.code c.with_code.ensures

pub returns-clause-only : goal.returns-clause-only
returns-clause-only c = command_of-only c.with_code.result c.args.code c.with_code.ensures

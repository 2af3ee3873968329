use Rattle.hmc_codes.specs.Codes.{all_commands}
use Rattle.hmc_codes.specs.Table.{table_line}
use Rattle.hmc_codes.proofs.Codes.{command_of-none}
use Rattle.hmc_codes.proofs.table.with_code.Goals as goal

pub returns-in_default : goal.returns-in_default
unfolding table_line all_commands
returns-in_default c = command_of-none c.args.code search

use Rattle.std.proofs.Common.{refl}
use Rattle.hmc_codes.specs.Table.{table_line}
use Rattle.hmc_codes.proofs.table.word.Goals as goal

pub returns-in-Eq16 : goal.returns-in-Eq16
unfolding table_line
returns-in-Eq16 c = rw c.in-Eq16.is refl

pub returns-in-Eq8 : goal.returns-in-Eq8
unfolding table_line
returns-in-Eq8 c = rw c.in-Eq8.is refl

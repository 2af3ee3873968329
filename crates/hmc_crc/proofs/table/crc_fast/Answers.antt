-- Before the first byte the check is that of no bytes.
use Rattle.std.proofs.Common.{[], sym}
use Rattle.hmc_crc.proofs.Worked.{crc_of_nothing}
use Rattle.hmc_crc.proofs.table.crc_fast.Goals as goal

pub returns : goal.returns
returns c = c.crc_update.ensures.joined [] (sym crc_of_nothing)

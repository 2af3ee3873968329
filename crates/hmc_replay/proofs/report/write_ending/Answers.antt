-- The final lines of the network are those of its journal.
use Rattle.hmc_net.proofs.FinalStands.{final_lines-stands, ending_lines-stands}
use Rattle.hmc_replay.specs.declared.extent.Extent.TheVariants.{Whole, Short}
use Rattle.hmc_replay.proofs.Reports.{ending_written}
use Rattle.hmc_replay.proofs.report.write_ending.Goals as goal

pub returns-in-Whole : goal.returns-in-Whole
returns-in-Whole g c = λ setup past stands off.
    ending_written _ Whole setup past _ _ _ _ c.in-Whole.is
    (final_lines-stands _ setup past stands off) c.write_final.ensures

pub returns-in-Short : goal.returns-in-Short
returns-in-Short g c = λ setup past stands off.
    ending_written _ Short setup past _ _ _ _ c.in-Short.is
    (ending_lines-stands _ setup past stands off) c.write_final-in-Short.ensures

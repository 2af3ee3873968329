-- What the code keeps while it reads, as definitions see it.
use Rattle.std.specs.Prelude.{reverse}
use Rattle.hmc_log.specs.declared.reading.Reading.{Reading}
use Rattle.hmc_log.specs.Counts.{Knows}
use Rattle.hmc_log.specs.Text.{Progress}

abbrev pub progress_of : Reading → Progress
progress_of r = record {
  past = reverse r.entries.items;
  memory = r.memory.items;
  registers = r.registers.items;
  drained = r.drained;
  lines = r.lines;
}

-- its counts are those of its entries
abbrev pub IsReading : Reading → Type 0
IsReading r = Knows r.counts (reverse r.entries.items)

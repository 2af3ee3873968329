-- What a log is: what hosts saw, in the order of time, and perhaps what was there at the end.
use Rattle.std.specs.Prelude.{Bool, List, Option}
use Rattle.hmc_entries.specs.declared.entry.Entry.{Entry}
use Rattle.hmc_log.specs.declared.end_lines.MemoryLine.{MemoryLine}
use Rattle.hmc_log.specs.declared.end_lines.RegisterLine.{RegisterLine}

-- the end of a log: blocks of 16 bytes and registers, and whether the network had drained; what
-- has no line is zero
pub record EndFields : Type 0 where
  pub memory : List MemoryLine
  pub registers : List RegisterLine
  pub drained : Bool

-- requests that were given, answers that were taken and logic units that were retired, the oldest
-- first, and the end, if the log has one
pub record LogFields : Type 0 where
  pub entries : List Entry
  pub ending : Option EndFields

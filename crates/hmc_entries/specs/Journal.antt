-- A journal in memory.
use Rattle.std.specs.Prelude.{◌≤◌, ◌<◌, ◌^◌, ℕ, List}
use Rattle.hmc_entries.specs.declared.entry.Entry.{Entry}

-- the entries, the newest first, and how many it has room for
pub record JournalFields : Type 0 where
  pub past : List Entry
  pub most : ℕ

-- room for as many entries as there may be is reserved
pub record IsJournal (entries most reserved : ℕ) : Type 0 where
  pub within : entries ≤ most
  pub enough : most ≤ reserved
  pub small : most < 2 ^ 32

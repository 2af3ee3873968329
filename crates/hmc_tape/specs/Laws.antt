-- A tape is a case, and its journal is that of the session.
use Rattle.std.specs.Prelude.{◌≡◌, ◌≤◌, ℕ, List, length, Ok}
use Rattle.toml.specs.Data.{Members}
use Rattle.hmc_codes.specs.Limits.{most_requests, most_steps}
use Rattle.hmc_case.specs.Case.{case_of}
use Rattle.hmc_case.specs.Net.{NetFields, net_of}
use Rattle.hmc_case.specs.Parts.{PartsFields, table_in, parts_of}
use Rattle.hmc_entries.specs.declared.entry.Entry.{Entry}
use Rattle.hmc_journal.specs.Lawful.{journal_of}
use Rattle.hmc_journal.specs.Setup.{Setup, setup_of}
use Rattle.hmc_tape.specs.Tape.{TapedFields, IsTapeOf, net_in, case_in}

-- the bytes are a document with the keys of a case: these cubes and links, this text of a script
-- and this text of a schedule
pub record IsDocument (bytes : List ℕ) (net : NetFields) (script schedule : List ℕ) : Type 0 where
  pub table : Members
  pub parts : PartsFields
  pub document : table_in bytes ≡ Ok table
  pub keys : parts_of table ≡ Ok parts
  pub network : net_of parts.profile parts.cubes parts.links ≡ Ok net
  pub script_is : parts.script ≡ script
  pub schedule_is : parts.schedule ≡ schedule

-- so many requests and steps as a case may have
pub record FitsCase (setup : Setup) : Type 0 where
  pub requests : length setup.script ≤ most_requests
  pub steps : length setup.schedule ≤ most_steps

-- The bytes are the document with the cubes and links of the session and with the two texts of its
-- tape. Then they are the case for which the session stands, and the journal of this case, with the
-- logic units of the session, is the session's.
abbrev pub TapeIsCase : Type 0
TapeIsCase = (taped : TapedFields) (setup : Setup) (past : List Entry) (bytes : List ℕ) →
    IsTapeOf taped setup past → FitsCase setup →
    IsDocument bytes (net_in setup) taped.script taped.schedule →
    (case_of bytes ≡ Ok (case_in setup))
    × (past ≡ journal_of (setup_of (case_in setup) setup.slots))

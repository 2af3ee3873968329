-- What is kept in memory of the entries before.
use Rattle.std.specs.Prelude.{◌≡◌, ℕ, false, ◌==◌, ◌&&◌, List, [], slice_index_or, Option, None, if◌then◌else◌}
use Rattle.hmc_codes.specs.declared.command.Command.{Command}
use Rattle.hmc_entries.specs.declared.entry.Entry.{Entry}
use Rattle.hmc_log.specs.declared.counts.Counts.{Counts}
use Rattle.hmc_log.specs.Before.{out_under, given_by, is_retired}

-- the command under a tag of a host
abbrev pub command_at : List (List (Option Command)) → (host tag : ℕ) → Option Command
command_at out host tag = slice_index_or (slice_index_or out host []) tag None

-- one command was set
abbrev pub IsSet : (old new : List (List (Option Command))) → (host tag : ℕ) → Option Command →
    Type 0
IsSet old new host tag command = (h t : ℕ) →
    command_at new h t ≡ (if host == h && tag == t then command else command_at old h t)

-- it is what the entries say
pub record Knows (counts : Counts) (past : List Entry) : Type 0 where
  pub out : (h t : ℕ) → command_at counts.out h t ≡ out_under h t past
  pub given : (h : ℕ) → slice_index_or counts.given h 0 ≡ given_by h past
  pub retired : (s : ℕ) → slice_index_or counts.retired s false ≡ is_retired s past

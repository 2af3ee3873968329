-- The ends of all links, each by the direction in which it sends, and their calls by the numbers of
-- directions.
use Rattle.std.specs.Prelude.{◌≡◌, ◌<◌, ◌/◌, ◌*◌, ℕ, List, Option, Some, length, slice_get, slice_index_or}
use Rattle.hmc_codes.specs.declared.counts.TokenRow.{TokenRow}
use Rattle.hmc_case.specs.declared.setup.LinkRow.{LinkRow}
use Rattle.hmc_routes.specs.Directions.{other}
use Rattle.hmc_send.specs.LinkEntries.{LinkEntry}
use Rattle.hmc_ends.specs.End.{EndFields, row_held}
use Rattle.hmc_ends.specs.StandsFor.{EndsStandFor}
use Rattle.hmc_journal.specs.Links.{toward}
use Rattle.hmc_kept.specs.Called.{sizes_by}

-- There is an end for each direction of these links. No landing has passed, and with the other end
-- of its link it stands for the entries of the link.
pub record EndsHold (rows : List LinkRow) (ends : List EndFields) (entries : ℕ → List LinkEntry)
    : Type 0 where
  pub count : length ends ≡ 2 * length rows
  pub stand : (direction : ℕ) (d : EndFields) → direction < length ends →
      EndsStandFor (sizes_by rows direction) (toward direction) (slice_index_or ends direction d)
      (slice_index_or ends (other direction) d) (entries (direction / 2))

-- a direction of one of these links
abbrev pub IsDirection : List EndFields → (direction : ℕ) → Type 0
IsDirection ends direction = direction < length ends

-- some entries for which the ends stand
pub record HoldSome (ends : List EndFields) : Type 0 where
  pub rows : List LinkRow
  pub entries : ℕ → List LinkEntry
  pub hold : EndsHold rows ends entries

-- the tokens of a direction by what its ends hold, if they are there
abbrev pub row_of : Option EndFields → Option EndFields → TokenRow
row_of (Some from) (Some to) = row_held from to
row_of _ _ = record { held = 0; transit = 0; used = 0; due = 0; returning = 0 }

abbrev pub row_at : List EndFields → (direction : ℕ) → TokenRow
row_at ends direction = row_of (slice_get ends direction) (slice_get ends (other direction))

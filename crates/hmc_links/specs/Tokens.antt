-- The tokens of a direction, by what its link holds.
use Rattle.std.specs.Prelude.{ℕ, ◌/◌, List, slice_get, Option, Some, None}
use Rattle.hmc_codes.specs.declared.counts.TokenRow.{TokenRow}
use Rattle.hmc_link.specs.Held.{LinkHeld, sending_end, landing_end}
use Rattle.hmc_ends.specs.End.{row_held}
use Rattle.hmc_send.specs.declared.toward.Toward.{Toward}
use Rattle.hmc_journal.specs.Links.{toward}

-- the tokens of a direction by what its link holds
abbrev pub no_tokens : TokenRow
no_tokens = record { held = 0; transit = 0; used = 0; due = 0; returning = 0 }

abbrev pub tokens_of : Toward → Option LinkHeld → TokenRow
tokens_of d None = no_tokens
tokens_of d (Some link) = row_held (sending_end d link) (landing_end d link)

abbrev pub tokens_at : List LinkHeld → (direction : ℕ) → TokenRow
tokens_at links direction = tokens_of (toward direction) (slice_get links (direction / 2))

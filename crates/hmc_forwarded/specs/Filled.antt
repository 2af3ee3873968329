-- The place of a packet that a network forwards, and what it is filled with.
use Rattle.std.specs.Prelude.{◌≡◌, ℕ, List, [], ◌∷◌, ◌++◌, length, slice_get, Option, Some}
use Rattle.hmc_packet.specs.Packet.{PacketFields}
use Rattle.hmc_send.specs.Entries.{through_at}
use Rattle.hmc_send.specs.LinkSenders.{sender_entries, places_in}
use Rattle.hmc_send.specs.Places.{Place}
use Rattle.hmc_send.specs.declared.numbers.Numbers.{Numbers}
use Rattle.hmc_copies.specs.Copies.{IsCopy}
use Rattle.hmc_entries.specs.declared.entry.Entry.{Entry}
use Rattle.hmc_journal.specs.Links.{toward, entries_on, sizes_on}
use Rattle.hmc_journal.specs.Piped.{PipeFrom, pipe_onto}
use Rattle.hmc_journal.specs.Setup.{Topology}

-- the place, from 0, of the next flit of a copy that is under way on a direction
abbrev pub through_on : Topology → (direction : ℕ) → List Entry → Option ℕ
through_on topology d journal =
    through_at (sizes_on topology d).profile
    (sender_entries (sizes_on topology d) (toward d) (entries_on topology d journal))

-- the places of a direction
abbrev pub places_on : Topology → (direction : ℕ) → List Entry → List Place
places_on topology d journal =
    places_in (sizes_on topology d) (toward d) (entries_on topology d journal)

-- The last place of a direction was open, and later it has the copy of what came to the pipe of the
-- direction, with the numbers of the place.
pub record IsFilled (topology : Topology) (d : ℕ) (past later : List Entry) : Type 0 where
  pub before : List Place
  pub head : List ℕ
  pub flits : ℕ
  pub numbers : Numbers
  pub was_open : places_on topology d past
      ≡ before ++ Place.awaited head flits numbers ∷ []
  pub from : PipeFrom
  pub is_pipe : pipe_onto topology d past ≡ Some from
  pub packet : PacketFields
  pub filled : slice_get (places_on topology d later) (length before) ≡ Some (Place.known packet)
  pub copy : IsCopy (sizes_on topology d).profile from.pipe numbers packet

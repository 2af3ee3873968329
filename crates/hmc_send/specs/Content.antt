-- The place of a packet under way.
use Rattle.std.specs.Prelude.{◌≡◌, ℕ, List, Bool, true, false}
use Rattle.hmc_packet.specs.Draft.{draft_of}
use Rattle.hmc_packet.specs.Packet.{PacketFields}
use Rattle.hmc_packet.specs.declared.draft.Draft.{Draft}
use Rattle.hmc_send.specs.declared.numbers.Numbers.{Numbers}
use Rattle.hmc_send.specs.Entries.{Part}
use Rattle.hmc_send.specs.Kept.{IsPartFit}
use Rattle.hmc_send.specs.Places.{Place}

-- the place of a packet of so many flits that is known, or that is passed on with this head
abbrev pub place_of : (is_known : Bool) → (flits : ℕ) → PacketFields → (head : List ℕ) → Numbers →
    Place
place_of true flits packet head numbers = Place.known packet
place_of false flits packet head numbers = Place.awaited head flits numbers

-- what a packet under way keeps: the draft is that of the packet
pub record IsUnderWay (part : Part) (place : Place) (packet : PacketFields) (draft : Draft) :
    Type 0 where
  pub fits : IsPartFit part place
  pub drafted : draft ≡ draft_of packet

-- What a landing of a link gives without the packet that is accepted, and with it.
use Rattle.std.specs.Prelude.{Bool, true, false, List, ℕ, slice_get, Option, Some, None}
use Rattle.hmc_codes.specs.Link.{LinkFields}
use Rattle.hmc_packet.specs.Masks.{under_mask}
use Rattle.hmc_packet.specs.Packet.{PacketFields}
use Rattle.hmc_packet.specs.Receptions.{reception_of, landed_with}
use Rattle.hmc_packet.specs.declared.outcome.Outcome.{Outcome}
use Rattle.hmc_send.specs.LinkEntries.{LinkEntry, receiver_entries}
use Rattle.hmc_send.specs.LinkLines.{StampedFlit, line, passes}
use Rattle.hmc_send.specs.declared.toward.Toward.{Toward}
use Rattle.hmc_ends.specs.declared.link_landed.LinkLanded.{LinkLanded}
use Rattle.hmc_ends.specs.declared.link_landed.LinkLanded.TheVariants as landings
use Rattle.hmc_ends.specs.declared.link_outcome.LinkOutcome.{LinkOutcome}
use Rattle.hmc_ends.specs.declared.link_outcome.LinkOutcome.TheVariants.{Empty, Passed, Came}

-- what a landing gives with this packet, where one is accepted
abbrev pub link_landed_with : LinkOutcome → PacketFields → LinkLanded
link_landed_with Empty packet = landings.Empty
link_landed_with (Passed flit) packet = landings.Passed flit
link_landed_with (Came flit outcome) packet = landings.Came flit (landed_with outcome packet)

-- a flit that passed, or one that came
abbrev pub came_as : (passed : Bool) → (flit : List ℕ) → Outcome → LinkOutcome
came_as true flit outcome = Passed flit
came_as false flit outcome = Came flit outcome

-- what the landing of the front of the line gives, if there is one
abbrev pub front_outcome :
    LinkFields → Toward → List LinkEntry → (mask : List ℕ) → Option StampedFlit → LinkOutcome
front_outcome link d past mask None = Empty
front_outcome link d past mask (Some front) =
    let flit = under_mask mask front.flit in
    came_as (passes link.profile d past mask flit) flit
    (reception_of link.profile (receiver_entries d past) flit).outcome

abbrev pub land_outcome : LinkFields → Toward → List LinkEntry → (mask : List ℕ) → LinkOutcome
land_outcome link d past mask =
    front_outcome link d past mask (slice_get (line link.profile d past) 0)

-- a change passed
abbrev pub outcome_passed : LinkOutcome → Bool
outcome_passed (Passed flit) = true
outcome_passed _ = false

-- no flit was there to land
abbrev pub outcome_none : LinkOutcome → Bool
outcome_none Empty = true
outcome_none _ = false

-- What a landing gives without the packet that is accepted, and with it.
use Rattle.std.proofs.Common.{◌≡◌, ◌∙◌, ℕ, Bool, true, false, List, Option, Some, None, refl, sym, ap}
use Rattle.hmc_codes.specs.Link.{LinkFields}
use Rattle.hmc_packet.specs.Masks.{under_mask}
use Rattle.hmc_packet.specs.Packet.{PacketFields}
use Rattle.hmc_packet.specs.Receptions.{reception_of, landed_with}
use Rattle.hmc_packet.specs.declared.landed.Landed.{Landed}
use Rattle.hmc_packet.specs.declared.landed.Landed.TheVariants as words
use Rattle.hmc_packet.specs.declared.outcome.Outcome.{Outcome}
use Rattle.hmc_packet.specs.declared.outcome.Outcome.TheVariants.{Quiet, Trained, Gathered, Accepted, Poisoned, Repeat, AbortedBad, AbortedOrder, Ran}
use Rattle.hmc_send.specs.LinkEntries.{LinkEntry, receiver_entries}
use Rattle.hmc_send.specs.LinkLines.{StampedFlit, passes}
use Rattle.hmc_send.specs.declared.toward.Toward.{Toward}
use Rattle.hmc_ends.specs.declared.link_landed.LinkLanded.{LinkLanded}
use Rattle.hmc_ends.specs.declared.link_landed.LinkLanded.TheVariants as landings
use Rattle.hmc_ends.specs.declared.link_outcome.LinkOutcome.{LinkOutcome}
use Rattle.hmc_ends.specs.declared.link_outcome.LinkOutcome.TheVariants.{Empty, Passed, Came}
use Rattle.hmc_ends.specs.Landings.{landing_passed, lands_none, landing_in, link_landed, came}
use Rattle.hmc_ends.specs.Outcomes.{link_landed_with, came_as, front_outcome, outcome_passed, outcome_none}

pub passed-with : (x : LinkOutcome) (packet : PacketFields) → landing_passed (link_landed_with x packet) ≡ outcome_passed x
passed-with Empty packet = refl
passed-with (Passed flit) packet = refl
passed-with (Came flit outcome) packet = refl

pub none-with : (x : LinkOutcome) (packet : PacketFields) → lands_none (link_landed_with x packet) ≡ outcome_none x
none-with Empty packet = refl
none-with (Passed flit) packet = refl
none-with (Came flit outcome) packet = refl

-- ---- without the packet again

abbrev outcome_of : Landed → Outcome
outcome_of words.Quiet = Quiet
outcome_of words.Trained = Trained
outcome_of words.Gathered = Gathered
outcome_of (words.Accepted packet) = Accepted
outcome_of (words.Poisoned packet) = Poisoned
outcome_of words.Repeat = Repeat
outcome_of (words.AbortedBad bad) = AbortedBad bad
outcome_of words.AbortedOrder = AbortedOrder
outcome_of (words.Ran kind) = Ran kind

abbrev link_outcome : LinkLanded → LinkOutcome
link_outcome landings.Empty = Empty
link_outcome (landings.Passed flit) = Passed flit
link_outcome (landings.Came flit landed) = Came flit (outcome_of landed)

outcome-with : (outcome : Outcome) (packet : PacketFields) → outcome_of (landed_with outcome packet) ≡ outcome
outcome-with Quiet packet = refl
outcome-with Trained packet = refl
outcome-with Gathered packet = refl
outcome-with Accepted packet = refl
outcome-with Poisoned packet = refl
outcome-with Repeat packet = refl
outcome-with (AbortedBad bad) packet = refl
outcome-with AbortedOrder packet = refl
outcome-with (Ran kind) packet = refl

link-with : (x : LinkOutcome) (packet : PacketFields) → link_outcome (link_landed_with x packet) ≡ x
link-with Empty packet = refl
link-with (Passed flit) packet = refl
link-with (Came flit outcome) packet = ap (Came flit) (outcome-with outcome packet)

came-without : (link : LinkFields) (d : Toward) (past : List LinkEntry) (flit : List ℕ) (passed : Bool) → link_outcome (came passed flit (landing_in link d past flit)) ≡ came_as passed flit (reception_of link.profile (receiver_entries d past) flit).outcome
came-without link d past flit true = refl
came-without link d past flit false = ap (Came flit) (outcome-with (reception_of link.profile (receiver_entries d past) flit).outcome _)

front-without : (link : LinkFields) (d : Toward) (past : List LinkEntry) (mask : List ℕ) (front : Option StampedFlit) → link_outcome (link_landed link d past mask front) ≡ front_outcome link d past mask front
front-without link d past mask None = refl
front-without link d past mask (Some front) =
    let flit = under_mask mask front.flit in
    came-without link d past flit (passes link.profile d past mask flit)

-- what is given with a packet is given without it
pub given-without : (link : LinkFields) (d : Toward) (past : List LinkEntry) (mask : List ℕ) (front : Option StampedFlit) (x : LinkOutcome) (packet : PacketFields) → link_landed_with x packet ≡ link_landed link d past mask front → x ≡ front_outcome link d past mask front
given-without link d past mask front x packet is = sym (link-with x packet) ∙ ap link_outcome is ∙ front-without link d past mask front

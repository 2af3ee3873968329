-- The landings of a link.
use Rattle.std.proofs.Common.{◌≡◌, ◌∙◌, ℕ, Bool, true, false, List, ◌∷◌, Option, Some, None, refl, ap}
use Rattle.std.specs.Prelude.{slice_get}
use Rattle.hmc_codes.specs.Link.{LinkFields}
use Rattle.hmc_packet.specs.declared.outcome.Outcome.{Outcome}
use Rattle.hmc_packet.specs.declared.outcome.Outcome.TheVariants.{Quiet, Trained, Gathered, Accepted, Poisoned, Repeat, AbortedBad, AbortedOrder, Ran}
use Rattle.hmc_packet.specs.Packet.{PacketFields}
use Rattle.hmc_packet.specs.Receptions.{reception_of, landed_with, landing_entry}
use Rattle.hmc_receive.specs.StandsFor.{latest}
use Rattle.hmc_send.specs.LinkCalls.{LinkCall}
use Rattle.hmc_send.specs.LinkEntries.{LinkEntry, receiver_entries}
use Rattle.hmc_packet.specs.Masks.{under_mask}
use Rattle.hmc_send.specs.LinkLines.{StampedFlit, line, passes}
use Rattle.hmc_send.specs.declared.toward.Toward.{Toward}
use Rattle.hmc_send.specs.declared.toward.Toward.TheVariants.{Forth, Back}
use Rattle.hmc_wire.specs.LinkLaws.{IsKept}
use Rattle.hmc_ends.specs.declared.link_landed.LinkLanded.{LinkLanded}
use Rattle.hmc_ends.specs.declared.link_landed.LinkLanded.TheVariants as links
use Rattle.hmc_ends.specs.declared.link_outcome.LinkOutcome.{LinkOutcome}
use Rattle.hmc_ends.specs.Answers.{after_call}
use Rattle.hmc_ends.specs.End.{EndFields}
use Rattle.hmc_link.specs.Held.{LinkHeld}
use Rattle.hmc_ends.specs.Landings.{landing_in, link_landed, came, is_out_of_order}
use Rattle.hmc_ends.specs.Outcomes.{outcome_passed}
use Rattle.hmc_ends.specs.StandsFor.{EndsStandFor, AreEnds}
use Rattle.hmc_link.specs.StandsFor.{IsLink}
use Rattle.hmc_ends.proofs.Steps.{Steps}
use Rattle.hmc_link.proofs.Joins.{forth-both, back-both}
use Rattle.hmc_ends.proofs.LandStands.{kept-landed}
use Rattle.hmc_wire.proofs.LawsHold.{direction-laws}

-- ---- in order

by-outcome : (flit : List ℕ) (o : Outcome) (p : PacketFields) → (o ≡ AbortedOrder → ⊥) → is_out_of_order (links.Came flit (landed_with o p)) ≡ false
by-outcome flit AbortedOrder p never = absurd (never refl)
by-outcome flit Quiet p never = refl
by-outcome flit Trained p never = refl
by-outcome flit Gathered p never = refl
by-outcome flit Accepted p never = refl
by-outcome flit Poisoned p never = refl
by-outcome flit Repeat p never = refl
by-outcome flit (AbortedBad bad) p never = refl
by-outcome flit (Ran kind) p never = refl

by-pass : (link : LinkFields) (d : Toward) (past : List LinkEntry) (mask : List ℕ) (front : StampedFlit) (b : Bool) → IsKept link past → slice_get (line link.profile d past) 0 ≡ Some front → passes link.profile d past mask (under_mask mask front.flit) ≡ b →
    is_out_of_order (came b (under_mask mask front.flit) (landing_in link d past (under_mask mask front.flit))) ≡ false
by-pass link d past mask front true kept is passed = refl
by-pass link d past mask front false kept is passed =
    let flit = under_mask mask front.flit in
    let o = (reception_of link.profile (receiver_entries d past) flit).outcome in
    by-outcome flit o (latest link.profile (landing_entry link.profile (receiver_entries d past) flit ∷ receiver_entries d past))
    ((direction-laws link d past kept).ordered mask flit o (kept-landed link d past mask flit front kept is refl passed).lawful)

by-front : (link : LinkFields) (d : Toward) (past : List LinkEntry) (mask : List ℕ) (front : Option StampedFlit) → IsKept link past → slice_get (line link.profile d past) 0 ≡ front → is_out_of_order (link_landed link d past mask front) ≡ false
by-front link d past mask None kept is = refl
by-front link d past mask (Some front) kept is = by-pass link d past mask front _ kept is refl

pub ordered : (link : LinkFields) (d : Toward) (past : List LinkEntry) (mask : List ℕ) (x : LinkLanded) → IsKept link past → x ≡ link_landed link d past mask (slice_get (line link.profile d past) 0) → is_out_of_order x ≡ false
ordered link d past mask x kept is = ap is_out_of_order is ∙ by-front link d past mask _ kept refl

-- ---- the link stands for it

pub land-steps : (d : Toward) (mask : List ℕ) (x : LinkOutcome) (s l s' l' : EndFields) → ((link : LinkFields) (d : Toward) (past : List LinkEntry) → EndsStandFor link d s l past → outcome_passed x ≡ false → EndsStandFor link d s' l' (after_call link past (LinkCall.land d mask))) → outcome_passed x ≡ false → Steps d (LinkCall.land d mask) s l s' l'
land-steps d mask x s l s' l' crosses caught = record { after = λ link past both. crosses link d past both caught }

pub ends-forth : (h : LinkHeld) → IsLink h → h.going ≡ true → AreEnds h.a h.b
ends-forth h is going = let some = is going in record { link = some.link; d = Forth; past = some.past; stand = forth-both some.link h some.past some.stands }

pub ends-back : (h : LinkHeld) → IsLink h → h.going ≡ true → AreEnds h.b h.a
ends-back h is going = let some = is going in record { link = some.link; d = Back; past = some.past; stand = back-both some.link h some.past some.stands }

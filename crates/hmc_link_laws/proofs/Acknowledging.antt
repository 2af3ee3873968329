-- A return pointer that is counted is never stray, and acknowledges what it names.
use Rattle.std.proofs.Common.{◌≡◌, ◌∙◌, ℕ, Bool, true, false, not, List, [], ◌∷◌, ◌++◌, Option, Some, None, refl, sym, ap}
use Rattle.std.specs.Prelude.{slice_get}
use Rattle.hmc_codes.specs.Link.{LinkFields}
use Rattle.hmc_packet.specs.declared.kind.Kind.TheVariants.{Start, Clear}
use Rattle.hmc_packet.specs.declared.outcome.Outcome.{Outcome}
use Rattle.hmc_packet.specs.declared.outcome.Outcome.TheVariants.{Quiet, Trained, Gathered, Accepted, Poisoned, Repeat, AbortedBad, AbortedOrder, Ran}
use Rattle.hmc_packet.specs.Masks.{under_mask}
use Rattle.hmc_packet.specs.Receptions.{reception_of}
use Rattle.hmc_send.specs.Entries.{SenderEntry, acked}
use Rattle.hmc_send.specs.LinkCalls.{LinkCall, entry_if, landed_front, next_entry, with_entry}
use Rattle.hmc_send.specs.LinkEntries.{LinkEntry, other, receiver_entries}
use Rattle.hmc_send.specs.LinkLines.{StampedFlit, line, passes}
use Rattle.hmc_send.specs.LinkSenders.{sender_entries, run_entries, acknowledgement}
use Rattle.hmc_send.specs.declared.toward.Toward.{Toward}
use Rattle.hmc_send.specs.declared.toward.Toward.TheVariants.{Forth, Back}
use Rattle.hmc_wire.specs.LinkLaws.{IsKept}
use Rattle.hmc_wire.proofs.EntryTurns.{kept-before}
use Rattle.hmc_wire.proofs.LawsHold.{direction-laws}
use Rattle.hmc_ends.specs.declared.link_landed.LinkLanded.{LinkLanded}
use Rattle.hmc_ends.specs.Answers.{after_call}
use Rattle.hmc_ends.specs.Landings.{link_landed, came, landing_in, landing_passed}
use Rattle.hmc_ends.proofs.Acknowledges.{named-is}
use Rattle.hmc_ends.proofs.LandStands.{places-landed}
use Rattle.hmc_link_laws.specs.Pointers.{counted_pointer, pointer_landed, Acknowledges, PointersAcknowledge}

-- as many packets are acknowledged as the stamp of the flit says
acked-landed : (o : Outcome) (stamp : ℕ) (t : List SenderEntry) → acked ((run_entries o ++ SenderEntry.acknowledged stamp ∷ []) ++ t) ≡ stamp
unfolding acked
acked-landed (Ran Start) stamp t = refl
acked-landed (Ran Clear) stamp t = refl
acked-landed Quiet stamp t = refl
acked-landed Trained stamp t = refl
acked-landed Gathered stamp t = refl
acked-landed Accepted stamp t = refl
acked-landed Poisoned stamp t = refl
acked-landed Repeat stamp t = refl
acked-landed (AbortedBad bad) stamp t = refl
acked-landed AbortedOrder stamp t = refl

acked-by : (o : Outcome) (rrp : Option ℕ) (front : Option StampedFlit) (r : ℕ) (x : StampedFlit) (t : List SenderEntry) → rrp ≡ Some r → front ≡ Some x → acked ((run_entries o ++ acknowledgement rrp front) ++ t) ≡ x.stamp
acked-by o rrp front r x t counted is = (λ i. acked ((run_entries o ++ acknowledgement (counted i) (is i)) ++ t)) ∙ acked-landed o x.stamp t

pub acknowledges : (link : LinkFields) (d : Toward) (mask flit : List ℕ) (o : Outcome) (past : List LinkEntry) (rrp : ℕ) → IsKept link (LinkEntry.landed d mask flit o ∷ past) → counted_pointer link d past flit ≡ Some rrp →
    Acknowledges link (other d) past (LinkEntry.landed d mask flit o ∷ past) rrp
unfolding sender_entries
acknowledges link Forth mask flit o past rrp kept is =
    let before = kept-before link (LinkEntry.landed Forth mask flit o) past kept in
    let names = (direction-laws link Back past before).counted mask flit o rrp kept.lawful is in
    let counted = (reception_of link.profile (receiver_entries Forth past) flit).rrp in
    let front = slice_get (line link.profile Forth past) 0 in
    let t = sender_entries link Back past in
    record {
      names = names;
      dropped = named-is link Back past rrp names.front before names names.is_front;
      acknowledged = acked-by o counted front rrp names.front t is names.is_front;
      places = places-landed link.profile o counted front t;
    }
acknowledges link Back mask flit o past rrp kept is =
    let before = kept-before link (LinkEntry.landed Back mask flit o) past kept in
    let names = (direction-laws link Forth past before).counted mask flit o rrp kept.lawful is in
    let counted = (reception_of link.profile (receiver_entries Back past) flit).rrp in
    let front = slice_get (line link.profile Back past) 0 in
    let t = sender_entries link Forth past in
    record {
      names = names;
      dropped = named-is link Forth past rrp names.front before names names.is_front;
      acknowledged = acked-by o counted front rrp names.front t is names.is_front;
      places = places-landed link.profile o counted front t;
    }

pub all-acknowledge : (link : LinkFields) (past : List LinkEntry) → IsKept link past → PointersAcknowledge link past
unfolding PointersAcknowledge
all-acknowledge link [] kept = tt
all-acknowledge link (LinkEntry.landed d mask flit o ∷ past) kept = (
  λ rrp is. acknowledges link d mask flit o past rrp kept is,
  all-acknowledge link past (kept-before link (LinkEntry.landed d mask flit o) past kept),
)
all-acknowledge link (LinkEntry.handed d packet ∷ past) kept = all-acknowledge link past (kept-before link (LinkEntry.handed d packet) past kept)
all-acknowledge link (LinkEntry.taken d ∷ past) kept = all-acknowledge link past (kept-before link (LinkEntry.taken d) past kept)
all-acknowledge link (LinkEntry.sent d feed w flit ∷ past) kept = all-acknowledge link past (kept-before link (LinkEntry.sent d feed w flit) past kept)
all-acknowledge link (LinkEntry.unlocked d ∷ past) kept = all-acknowledge link past (kept-before link (LinkEntry.unlocked d) past kept)
all-acknowledge link (LinkEntry.through d head flits ∷ past) kept = all-acknowledge link past (kept-before link (LinkEntry.through d head flits) past kept)

-- ---- of what a landing gives

abbrev AcknowledgesWhere : LinkFields → Toward → (past after : List LinkEntry) → LinkLanded → Type 0
AcknowledgesWhere link d past after x = (rrp : ℕ) → pointer_landed link d past x ≡ Some rrp → Acknowledges link (other d) past after rrp

by-pass : (link : LinkFields) (d : Toward) (past : List LinkEntry) (mask flit : List ℕ) (b : Bool) → passes link.profile d past mask flit ≡ b → landing_passed (came b flit (landing_in link d past flit)) ≡ false →
    IsKept link (with_entry past (entry_if (not b) (LinkEntry.landed d mask flit (reception_of link.profile (receiver_entries d past) flit).outcome))) →
    AcknowledgesWhere link d past (with_entry past (entry_if (not b) (LinkEntry.landed d mask flit (reception_of link.profile (receiver_entries d past) flit).outcome))) (came b flit (landing_in link d past flit))
by-pass link d past mask flit true passed caught kept = absurd cc
by-pass link d past mask flit false passed caught kept = λ rrp is. acknowledges link d mask flit (reception_of link.profile (receiver_entries d past) flit).outcome past rrp kept is

by-front : (link : LinkFields) (d : Toward) (past : List LinkEntry) (mask : List ℕ) (front : Option StampedFlit) → landing_passed (link_landed link d past mask front) ≡ false → IsKept link (with_entry past (landed_front link d past mask front)) →
    AcknowledgesWhere link d past (with_entry past (landed_front link d past mask front)) (link_landed link d past mask front)
by-front link d past mask None caught kept = λ rrp is. absurd cc
by-front link d past mask (Some front) caught kept =
    let flit = under_mask mask front.flit in by-pass link d past mask flit (passes link.profile d past mask flit) refl caught kept

pub landing-acknowledges : (link : LinkFields) (d : Toward) (past : List LinkEntry) (mask : List ℕ) (x : LinkLanded) (rrp : ℕ) → x ≡ link_landed link d past mask (slice_get (line link.profile d past) 0) → landing_passed x ≡ false →
    IsKept link (after_call link past (LinkCall.land d mask)) → pointer_landed link d past x ≡ Some rrp → Acknowledges link (other d) past (after_call link past (LinkCall.land d mask)) rrp
unfolding next_entry
landing-acknowledges link d past mask x rrp is caught kept counted =
    by-front link d past mask (slice_get (line link.profile d past) 0) (sym (ap landing_passed is) ∙ caught) kept rrp (sym (ap (pointer_landed link d past) is) ∙ counted)

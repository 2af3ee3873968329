-- The landing of a flit at an end.
use Rattle.std.proofs.Common.{◌≡◌, ◌∙◌, ◌≤◌, ◌+◌, ℕ, Bool, true, false, ◌&&◌, ◌||◌, List, ◌∷◌, ◌++◌, Some, None, refl, sym, ap, subst}
use Rattle.std.specs.Prelude.{sum_by, slice_get}
use Rattle.hmc_codes.specs.Link.{LinkFields}
use Rattle.hmc_codes.specs.Limits.{most_tokens}
use Rattle.hmc_codes.specs.declared.profile.Profile.{Profile}
use Rattle.hmc_packet.specs.declared.landed.Landed.{Landed}
use Rattle.hmc_packet.specs.declared.reception.Reception.{Reception}
use Rattle.hmc_packet.specs.Landings.ReceiverEntry.{Land}
use Rattle.hmc_packet.specs.Landings as packets
use Rattle.hmc_packet.specs.Packet.{flits_of}
use Rattle.hmc_packet.specs.Receptions.{reception_of, landed_with}
use Rattle.hmc_receive.specs.Receiver.{ReceiverFields}
use Rattle.hmc_receive.specs.StandsFor.{ReceiverStandsFor, latest}
use Rattle.hmc_send.specs.LinkEntries.{LinkEntry, other, receiver_entries}
use Rattle.hmc_send.specs.LinkLines.{passes, changed_after, line}
use Rattle.hmc_send.specs.LinkSenders.{sender_entries, run_entries, landing_entries}
use Rattle.hmc_send.specs.LinkTokens.{tokens_credited}
use Rattle.hmc_send.specs.StandsFor.{StandsFor}
use Rattle.hmc_send.specs.declared.toward.Toward.{Toward}
use Rattle.hmc_ends.specs.End.{EndFields}
use Rattle.hmc_ends.specs.Landings.{Lands, CanTake, arrived_packets, stored, noted, pending_changed, landing_in, entry_landed, landed_unless_passed, KeepsSizes}
use Rattle.hmc_ends.specs.Parts.{parts_of, parts_landed}
use Rattle.hmc_ends.specs.StandsFor.{EndStandsFor}
use Rattle.hmc_ends.proofs.LandStands.{land-facts, landed-back, stands-landed, sender-landed, pending-is}
use Rattle.hmc_ends.proofs.PartLaws.{part_laws}

-- whether a change passes, by what the end has seen
pub passes-is : (link : LinkFields) (d : Toward) (past : List LinkEntry) (mask flit : List ℕ) (changed : Bool) (e : EndFields) (rec : Reception) (any result : Bool) → Lands link d past mask flit changed e → rec ≡ reception_of link.profile (receiver_entries (other d) past) flit →
    any ≡ (e.changed || changed) → result ≡ (rec.checked && any) → passes link.profile (other d) past mask flit ≡ result
unfolding passes
passes-is link d past mask flit changed e rec any result lands rec_is any_is is =
    sym (is ∙ (λ i. (rec_is i).checked && any_is i) ∙ (λ i. (reception_of link.profile (receiver_entries (other d) past) flit).checked && (lands.stands.changed i || lands.changed_is i)))

pub is-passed : (b : Bool) (landed : Landed) → b ≡ true → None ≡ landed_unless_passed b landed
is-passed true landed is = refl
is-passed false landed is = absurd cc

pub not-passed : (b : Bool) (landed x : Landed) → b ≡ false → x ≡ landed → Some x ≡ landed_unless_passed b landed
not-passed true landed x is same = absurd cc
not-passed false landed x is same = ap (λ (y : Landed). Some y) same

pub landed-is : (link : LinkFields) (d : Toward) (past : List LinkEntry) (flit : List ℕ) (rec : Reception) (landed : Landed) → rec ≡ reception_of link.profile (receiver_entries (other d) past) flit →
    landed ≡ landed_with rec.outcome (latest link.profile (Land flit (reception_of link.profile (receiver_entries (other d) past) flit).outcome ∷ receiver_entries (other d) past)) → landed ≡ landing_in link (other d) past flit
landed-is link d past flit rec landed rec_is is = is ∙ ap (λ (x : Reception). landed_with x.outcome (latest link.profile (Land flit (reception_of link.profile (receiver_entries (other d) past) flit).outcome ∷ receiver_entries (other d) past))) rec_is

pub can-take : (link : LinkFields) (d : Toward) (past : List LinkEntry) (mask flit : List ℕ) (changed : Bool) (e : EndFields) (r : ReceiverFields) (rec : Reception) → Lands link d past mask flit changed e → passes link.profile (other d) past mask flit ≡ false →
    rec ≡ reception_of link.profile (receiver_entries (other d) past) flit → ReceiverStandsFor link.profile r (Land flit (reception_of link.profile (receiver_entries (other d) past) flit).outcome ∷ receiver_entries (other d) past) → CanTake rec.outcome (record e { receiver = r })
can-take link d past mask flit changed e r rec lands caught rec_is receiver =
    let facts = land-facts link d past mask flit changed e lands caught in
    let same = landed-is link d past flit rec (landed_with rec.outcome r.packet) rec_is (ap (landed_with rec.outcome) receiver.packet) in
    record {
      held = subst (λ (l : Landed). e.account.held + tokens_credited (arrived_packets l) ≤ most_tokens) (sym same) facts.held;
      room = subst (λ (l : Landed). sum_by flits_of e.buffer + packets.flits_in (stored l) ≤ e.setup.tokens) (sym same)
          (subst (λ (l : LinkFields). sum_by flits_of e.buffer + packets.flits_in (stored (landing_in link (other d) past flit)) ≤ l.tokens) (sym lands.stands.setup) facts.room);
    }

pub land-stands : (link : LinkFields) (d : Toward) (past : List LinkEntry) (mask flit : List ℕ) (changed any : Bool) (e n : EndFields) (r : ReceiverFields) (rec : Reception) (landed : Landed) → Lands link d past mask flit changed e → passes link.profile (other d) past mask flit ≡ false →
    rec ≡ reception_of link.profile (receiver_entries (other d) past) flit → ReceiverStandsFor link.profile r (Land flit (reception_of link.profile (receiver_entries (other d) past) flit).outcome ∷ receiver_entries (other d) past) →
    any ≡ (e.changed || changed) → landed ≡ landing_in link (other d) past flit → StandsFor n.sender (run_entries rec.outcome ++ noted e.sender.retry.profile rec.rrp (sender_entries link d past)) → KeepsSizes e.sender n.sender →
    n ≡ record e { receiver = r; sender = n.sender; changed = pending_changed rec.outcome any; buffer = e.buffer ++ stored landed; account = record e.account { held = e.account.held + tokens_credited (arrived_packets landed) } } →
    EndStandsFor link n (parts_of link d (entry_landed link (other d) past mask flit ∷ past))
land-stands link d past mask flit changed any e n r rec landed lands caught rec_is receiver any_is landed_is sender sizes left =
    let q = link.profile in
    let p = parts_of link d past in
    let R = reception_of q (receiver_entries (other d) past) flit in
    let L = landing_in link (other d) past flit in
    let facts = land-facts link d past mask flit changed e lands caught in
    let t = sender_entries link d past in
    let sends = subst (λ (x : Reception). StandsFor n.sender (run_entries x.outcome ++ noted q x.rrp t)) rec_is (subst (λ (profile : Profile). StandsFor n.sender (run_entries rec.outcome ++ noted profile rec.rrp t)) lands.stands.profile sender) in
    let stands = sender-landed link d past mask flit R.outcome lands.front n.sender lands.kept lands.is_front facts.kept sends in
    let pending : pending_changed rec.outcome any ≡ changed_after mask R.outcome p.changed = (λ i. pending_changed (rec_is i).outcome (any_is i)) ∙ (λ i. pending_changed R.outcome (lands.stands.changed i || lands.changed_is i)) ∙ pending-is mask R.outcome p.changed in
    let after = stands-landed link e p mask flit R.outcome R.rrp (slice_get (line q (other d) past) 0) L r n.sender (record e.account { held = e.account.held + tokens_credited (arrived_packets landed) }) (e.buffer ++ stored landed) (pending_changed rec.outcome any)
    lands.stands (part_laws link d past lands.kept) receiver stands sizes facts.more (λ i. record e.account { held = e.account.held + tokens_credited (arrived_packets (landed_is i)) }) (λ i. e.buffer ++ stored (landed_is i)) pending in
    subst (EndStandsFor link n) (sym (landed-back link d mask flit R.outcome past)) (subst (λ (x : EndFields). EndStandsFor link x (parts_landed mask flit R.outcome (landing_entries link (other d) past flit R.outcome) p)) (sym left) after)

-- An end at which a flit landed.
use Rattle.std.proofs.Common.{◌≡◌, ◌∙◌, ◌≤◌, ◌+◌, ◌-◌, ℕ, Bool, true, false, not, ◌||◌, List, ◌∷◌, ◌++◌, length, take, drop, Option, Some, None, refl, sym, ap, subst, arith, length-append, append_assoc}
use Rattle.std.specs.Prelude.{filter, slice_get, sum_by}
use Rattle.std.proofs.lemmas.List.Sums.{sum_by-append, sum_by-take-drop}
use Rattle.std.proofs.lemmas.List.{drop-append-le, take-append-le}
use Rattle.std.proofs.lemmas.List.Elements.{filter-append}
use Rattle.hmc_codes.specs.Link.{LinkFields}
use Rattle.hmc_codes.specs.Limits.{most_tokens}
use Rattle.hmc_codes.specs.declared.profile.Profile.{Profile}
use Rattle.hmc_packet.specs.declared.kind.Kind.TheVariants.{Start}
use Rattle.hmc_packet.specs.declared.landed.Landed.{Landed}
use Rattle.hmc_packet.specs.declared.outcome.Outcome.{Outcome}
use Rattle.hmc_packet.specs.declared.outcome.Outcome.TheVariants.{Quiet, Trained, Gathered, Accepted, Poisoned, Repeat, AbortedBad, AbortedOrder, Ran}
use Rattle.hmc_packet.specs.Landings.{accepted}
use Rattle.hmc_packet.specs.Landings.ReceiverEntry.{Land}
use Rattle.hmc_packet.specs.Landings as packets
use Rattle.hmc_packet.specs.Packet.{PacketFields, flits_of}
use Rattle.hmc_packet.specs.Receptions.{reception_of}
use Rattle.hmc_receive.specs.Receiver.{ReceiverFields}
use Rattle.hmc_receive.specs.StandsFor.{ReceiverStandsFor}
use Rattle.hmc_send.specs.Acknowledged.{entries_acknowledged}
use Rattle.hmc_send.specs.Entries.{SenderEntry, places, taken_fronts, acked}
use Rattle.hmc_send.specs.LinkCalls.{LinkCall, next_entry, entry_if, landed_front}
use Rattle.hmc_send.specs.LinkEntries.{LinkEntry, other, receiver_entries, handed_packets, takes}
use Rattle.hmc_packet.specs.Masks.{changes, under_mask}
use Rattle.hmc_send.specs.LinkLines.{StampedFlit, line, sent_flits, landings, is_pending_changed, changed_after, passes}
use Rattle.hmc_send.specs.LinkSenders.{sender_entries, landing_entries, run_entries, acknowledgement}
use Rattle.hmc_send.specs.LinkTokens.{flits_begun, flits_accepted, flits_taken, tokens_returned, tokens_credited}
use Rattle.hmc_send.specs.Places.{is_token}
use Rattle.hmc_send.specs.StandsFor.{StandsFor}
use Rattle.hmc_send.specs.declared.state.State.{State}
use Rattle.hmc_send.specs.declared.toward.Toward.{Toward}
use Rattle.hmc_send.specs.declared.toward.Toward.TheVariants.{Forth, Back}
use Rattle.hmc_tokens.specs.declared.account.Account.{Account}
use Rattle.hmc_wire.specs.Conditions.{AreMet, AreHanded, AreFed}
use Rattle.hmc_wire.specs.LinkLaws.{IsKept}
use Rattle.hmc_ends.specs.End.{EndFields}
use Rattle.hmc_ends.specs.Landings.{Lands, arrived_packets, stored, noted, pending_changed, landing_in, entry_landed, KeepsSizes, is_start_run}
use Rattle.hmc_ends.specs.Parts.{EndParts, parts_of, parts_landed}
use Rattle.hmc_ends.specs.StandsFor.{EndStandsFor}
use Rattle.hmc_ends.proofs.Acknowledges.{named-is, stamp-least}
use Rattle.hmc_ends.proofs.Arrivals.{accepted-more}
use Rattle.hmc_ends.proofs.Steps.{kept-more}
use Rattle.hmc_ends.proofs.Lists.{taken-then-added}
use Rattle.hmc_ends.proofs.PartLaws.{PartLaws, part_laws}
use Rattle.hmc_wire.proofs.LawsHold.{direction-laws}

-- ---- the entries that a landing brings to the sender

places-ran : (q : Profile) (o : Outcome) (t : List SenderEntry) → places q (run_entries o ++ t) ≡ places q t
unfolding places
places-ran q (Ran Start) t = refl
places-ran q _ t = refl

places-acked : (q : Profile) (rrp : Option ℕ) (front : Option StampedFlit) (t : List SenderEntry) → places q (acknowledgement rrp front ++ t) ≡ places q t
unfolding places
places-acked q (Some rrp) (Some front) t = refl
places-acked q (Some rrp) None t = refl
places-acked q None front t = refl

pub places-landed : (q : Profile) (o : Outcome) (rrp : Option ℕ) (front : Option StampedFlit) (t : List SenderEntry) → places q ((run_entries o ++ acknowledgement rrp front) ++ t) ≡ places q t
places-landed q o rrp front t = ap (places q) (append_assoc (run_entries o) (acknowledgement rrp front) t) ∙ places-ran q o (acknowledgement rrp front ++ t) ∙ places-acked q rrp front t

fronts-ran : (o : Outcome) (t : List SenderEntry) → taken_fronts (run_entries o ++ t) ≡ taken_fronts t
unfolding taken_fronts
fronts-ran (Ran Start) t = refl
fronts-ran _ t = refl

fronts-acked : (rrp : Option ℕ) (front : Option StampedFlit) (t : List SenderEntry) → taken_fronts (acknowledgement rrp front ++ t) ≡ taken_fronts t
unfolding taken_fronts
fronts-acked (Some rrp) (Some front) t = refl
fronts-acked (Some rrp) None t = refl
fronts-acked None front t = refl

pub fronts-landed : (o : Outcome) (rrp : Option ℕ) (front : Option StampedFlit) (t : List SenderEntry) → taken_fronts ((run_entries o ++ acknowledgement rrp front) ++ t) ≡ taken_fronts t
fronts-landed o rrp front t = ap taken_fronts (append_assoc (run_entries o) (acknowledgement rrp front) t) ∙ fronts-ran o (acknowledgement rrp front ++ t) ∙ fronts-acked rrp front t

fed-ran : (q : Profile) (o : Outcome) (t : List SenderEntry) → AreFed q t → AreFed q (run_entries o ++ t)
unfolding AreFed
fed-ran q (Ran Start) t fed = fed
fed-ran q _ t fed = fed

fed-acked : (q : Profile) (rrp : Option ℕ) (front : Option StampedFlit) (t : List SenderEntry) → AreFed q t → AreFed q (acknowledgement rrp front ++ t)
unfolding AreFed
fed-acked q (Some rrp) (Some front) t fed = fed
fed-acked q (Some rrp) None t fed = fed
fed-acked q None front t fed = fed

fed-landed : (q : Profile) (o : Outcome) (rrp : Option ℕ) (front : Option StampedFlit) (t : List SenderEntry) → AreFed q t → AreFed q ((run_entries o ++ acknowledgement rrp front) ++ t)
fed-landed q o rrp front t fed = subst (AreFed q) (sym (append_assoc (run_entries o) (acknowledgement rrp front) t)) (fed-ran q o (acknowledgement rrp front ++ t) (fed-acked q rrp front t fed))

-- ---- one landing more

met-landed : (link : LinkFields) (d : Toward) (mask flit : List ℕ) (o : Outcome) (past : List LinkEntry) → AreMet link past → AreMet link (LinkEntry.landed d mask flit o ∷ past)
unfolding AreHanded sender_entries
met-landed link Forth mask flit o past met = record { handed = met.handed; forth = met.forth; back = fed-landed link.profile o _ _ (sender_entries link Back past) met.back }
met-landed link Back mask flit o past met = record { handed = met.handed; forth = fed-landed link.profile o _ _ (sender_entries link Forth past) met.forth; back = met.back }

not-passed : (b : Bool) (e : LinkEntry) → b ≡ false → entry_if (not b) e ≡ Some e
not-passed true e is = absurd cc
not-passed false e is = refl

pub next-landed : (link : LinkFields) (d : Toward) (past : List LinkEntry) (mask flit : List ℕ) (front : StampedFlit) → slice_get (line link.profile d past) 0 ≡ Some front → flit ≡ under_mask mask front.flit → passes link.profile d past mask flit ≡ false →
    next_entry link past (LinkCall.land d mask) ≡ Some (entry_landed link d past mask flit)
unfolding next_entry
next-landed link d past mask flit front is flit_is caught =
    ap (landed_front link d past mask) is
    ∙ ap (λ (f : List ℕ). entry_if (not (passes link.profile d past mask f)) (entry_landed link d past mask f)) (sym flit_is)
    ∙ not-passed (passes link.profile d past mask flit) (entry_landed link d past mask flit) caught

pub kept-landed : (link : LinkFields) (d : Toward) (past : List LinkEntry) (mask flit : List ℕ) (front : StampedFlit) → IsKept link past → slice_get (line link.profile d past) 0 ≡ Some front → flit ≡ under_mask mask front.flit → passes link.profile d past mask flit ≡ false →
    IsKept link (entry_landed link d past mask flit ∷ past)
kept-landed link d past mask flit front kept is flit_is caught =
    kept-more link past (LinkCall.land d mask) (entry_landed link d past mask flit) (next-landed link d past mask flit front is flit_is caught) kept (met-landed link d mask flit _ past kept.met)

-- of the end at which it lands
pub landed-back : (link : LinkFields) (d : Toward) (mask flit : List ℕ) (o : Outcome) (past : List LinkEntry) → parts_of link d (LinkEntry.landed (other d) mask flit o ∷ past) ≡ parts_landed mask flit o (landing_entries link (other d) past flit o) (parts_of link d past)
unfolding receiver_entries handed_packets takes sent_flits landings is_pending_changed sender_entries
landed-back link Forth mask flit o past = refl
landed-back link Back mask flit o past = refl

-- ---- an end stands for it

pub stands-landed : (link : LinkFields) (e : EndFields) (p : EndParts) (mask flit : List ℕ) (o : Outcome) (rrp : Option ℕ) (front : Option StampedFlit) (landed : Landed) (r : ReceiverFields) (s : State) (a : Account) (b : List PacketFields) (changed : Bool) →
    EndStandsFor link e p → PartLaws link p → ReceiverStandsFor link.profile r (Land flit o ∷ p.received) → StandsFor s ((run_entries o ++ acknowledgement rrp front) ++ p.sender) → KeepsSizes e.sender s →
    accepted link.profile (Land flit o ∷ p.received) ≡ accepted link.profile p.received ++ arrived_packets landed → a ≡ record e.account { held = e.account.held + tokens_credited (arrived_packets landed) } → b ≡ e.buffer ++ stored landed → changed ≡ changed_after mask o p.changed →
    EndStandsFor link (record e { receiver = r; sender = s; account = a; buffer = b; changed = changed }) (parts_landed mask flit o (run_entries o ++ acknowledgement rrp front) p)
stands-landed link e p mask flit o rrp front landed r s a b changed is laws receiver sender sizes more account buffer change =
    let q = link.profile in
    let t = p.sender in
    let old = accepted q p.received in
    let new = arrived_packets landed in
    let held = laws.held in
    let placed = places-landed q o rrp front t in
    let fronts = fronts-landed o rrp front t in
    let filtered : filter is_token (accepted q (Land flit o ∷ p.received)) ≡ filter is_token old ++ stored landed = ap (filter is_token) more ∙ filter-append is_token old new in
    let credited : tokens_credited (accepted q (Land flit o ∷ p.received)) ≡ tokens_credited old + tokens_credited new = ap tokens_credited more ∙ sum_by-append _ old new in
    let took : flits_taken p.takes (accepted q (Land flit o ∷ p.received)) ≡ flits_taken p.takes old =
    ap (λ (l : List PacketFields). packets.flits_in (take p.takes l)) filtered ∙ ap packets.flits_in (take-append-le p.takes (filter is_token old) (stored landed) is.taken) in
    let taken = is.taken in
    record {
      setup = is.setup;
      own = sizes.own ∙ is.own;
      profile = sizes.profile ∙ is.profile;
      retry = sizes.flits ∙ is.retry;
      sender = sender;
      queue = is.queue ∙ ap (λ (n : ℕ). drop n p.handed) (sym fronts);
      line = is.line;
      transit = is.transit ∙ ap (λ l. flits_begun l - flits_accepted (accepted q p.landed)) (sym placed);
      receiver = receiver;
      changed = change;
      buffer = buffer ∙ ap (λ (l : List PacketFields). l ++ stored landed) is.buffer ∙ sym (drop-append-le p.takes (filter is_token old) (stored landed) is.taken) ∙ ap (drop p.takes) (sym filtered);
      held = ap (λ (x : Account). x.held) account ∙ ap (λ (n : ℕ). n + tokens_credited new) is.held ∙ taken-then-added (tokens_credited old) (flits_begun (places q t)) (tokens_credited new) held
          ∙ (λ i. sym credited i - flits_begun (sym placed i));
      due = ap (λ (x : Account). x.due) account ∙ is.due ∙ (λ i. (link.tokens + sym took i) - tokens_returned (sym placed i));
      begun = subst (λ (n : ℕ). n ≤ length p.handed) (sym fronts) is.begun;
      crossed = is.crossed;
      taken = subst (λ (l : List PacketFields). p.takes ≤ length l) (sym filtered) (let k = length-append (filter is_token old) (stored landed) in omega arith);
    }

-- ---- what a landing may count on

pub record LandFacts (link : LinkFields) (d : Toward) (past : List LinkEntry) (mask flit : List ℕ) (e : EndFields) : Type 0 where
  pub kept : IsKept link (entry_landed link (other d) past mask flit ∷ past)
  pub more : accepted link.profile (Land flit (reception_of link.profile (receiver_entries (other d) past) flit).outcome ∷ receiver_entries (other d) past) ≡ accepted link.profile (receiver_entries (other d) past) ++ arrived_packets (landing_in link (other d) past flit)
  pub held : e.account.held + tokens_credited (arrived_packets (landing_in link (other d) past flit)) ≤ most_tokens
  pub room : sum_by flits_of e.buffer + packets.flits_in (stored (landing_in link (other d) past flit)) ≤ link.tokens

room-of : (taken rest new tokens all : ℕ) → taken + rest + new ≤ taken + tokens → rest + new ≤ tokens
room-of taken rest new tokens all le = omega arith

pub land-facts : (link : LinkFields) (d : Toward) (past : List LinkEntry) (mask flit : List ℕ) (changed : Bool) (e : EndFields) → Lands link d past mask flit changed e → passes link.profile (other d) past mask flit ≡ false → LandFacts link d past mask flit e
land-facts link d past mask flit changed e lands caught =
    let q = link.profile in
    let o = (reception_of q (receiver_entries (other d) past) flit).outcome in
    let p = parts_of link d past in
    let is = lands.stands in
    let landed = landing_in link (other d) past flit in
    let kept = kept-landed link (other d) past mask flit lands.front lands.kept lands.is_front lands.flit_is caught in
    let laws = part_laws link d past lands.kept in
    let after = subst (PartLaws link) (landed-back link d mask flit o past) (part_laws link d (entry_landed link (other d) past mask flit ∷ past) kept) in
    let more : accepted q (Land flit o ∷ p.received) ≡ accepted q p.received ++ arrived_packets landed = accepted-more q p.received flit in
    let placed = places-landed q o (reception_of q p.received flit).rrp (slice_get (line q (other d) past) 0) p.sender in
    let old = accepted q p.received in
    let new = arrived_packets landed in
    let filtered : filter is_token (accepted q (Land flit o ∷ p.received)) ≡ filter is_token old ++ stored landed = ap (filter is_token) more ∙ filter-append is_token old new in
    let credited : tokens_credited (accepted q (Land flit o ∷ p.received)) ≡ tokens_credited old + tokens_credited new = ap tokens_credited more ∙ sum_by-append _ old new in
    let took : flits_taken p.takes (accepted q (Land flit o ∷ p.received)) ≡ flits_taken p.takes old =
    ap (λ (l : List PacketFields). packets.flits_in (take p.takes l)) filtered ∙ ap packets.flits_in (take-append-le p.takes (filter is_token old) (stored landed) is.taken) in
    let all : flits_accepted (accepted q (Land flit o ∷ p.received)) ≡ packets.flits_in (filter is_token old) + packets.flits_in (stored landed) = ap packets.flits_in filtered ∙ sum_by-append flits_of (filter is_token old) (stored landed) in
    let split : packets.flits_in (filter is_token old) ≡ flits_taken p.takes old + sum_by flits_of (drop p.takes (filter is_token old)) = sym (sum_by-take-drop flits_of (filter is_token old) p.takes) in
    let buffer : sum_by flits_of e.buffer ≡ sum_by flits_of (drop p.takes (filter is_token old)) = ap (sum_by flits_of) is.buffer in
    let fits = after.fits in
    let few = after.few_held in
    let begun : flits_begun (places q ((run_entries o ++ acknowledgement (reception_of q p.received flit).rrp (slice_get (line q (other d) past) 0)) ++ p.sender)) ≡ flits_begun (places q p.sender) = ap flits_begun placed in
    let held = laws.held in
    let was = is.held in
    let most = lands.sizes.tokens in
    record {
      kept = kept;
      more = more;
      held = omega arith;
      room = omega arith;
    }

-- ---- what the sender makes of it

noted-is : (link : LinkFields) (d : Toward) (past : List LinkEntry) (mask flit : List ℕ) (o : Outcome) (rrp : Option ℕ) (front : StampedFlit) → IsKept link past → slice_get (line link.profile (other d) past) 0 ≡ Some front →
    (reception_of link.profile (receiver_entries (other d) past) flit).rrp ≡ rrp → IsKept link (LinkEntry.landed (other d) mask flit o ∷ past) →
    noted link.profile rrp (sender_entries link d past) ≡ acknowledgement rrp (Some front) ++ sender_entries link d past
noted-is link d past mask flit o None front kept is at after = refl
noted-is link d past mask flit o (Some rrp) front kept is at after =
    let t = sender_entries link d past in
    let names = (direction-laws link d past kept).counted mask flit o rrp after.lawful at in
    let least = stamp-least link d past rrp front names is in
    let count : acked t + (front.stamp - acked t) ≡ front.stamp = omega arith in
    ap (λ (x : Option ℕ). entries_acknowledged x t) (named-is link d past rrp front kept names is) ∙ ap (λ (n : ℕ). SenderEntry.acknowledged n ∷ t) count

pub sender-landed : (link : LinkFields) (d : Toward) (past : List LinkEntry) (mask flit : List ℕ) (o : Outcome) (front : StampedFlit) (s : State) → IsKept link past → slice_get (line link.profile (other d) past) 0 ≡ Some front → IsKept link (LinkEntry.landed (other d) mask flit o ∷ past) →
    let rrp = (reception_of link.profile (receiver_entries (other d) past) flit).rrp in
    StandsFor s (run_entries o ++ noted link.profile rrp (sender_entries link d past)) → StandsFor s ((run_entries o ++ acknowledgement rrp (slice_get (line link.profile (other d) past) 0)) ++ sender_entries link d past)
sender-landed link d past mask flit o front s kept is after stands =
    let t = sender_entries link d past in
    let rrp = (reception_of link.profile (receiver_entries (other d) past) flit).rrp in
    let same = noted-is link d past mask flit o rrp front kept is refl after in
    subst (StandsFor s) (ap (λ (l : List SenderEntry). run_entries o ++ l) same ∙ ap (λ (f : Option StampedFlit). run_entries o ++ (acknowledgement rrp f ++ t)) (sym is) ∙ sym (append_assoc (run_entries o) (acknowledgement rrp (slice_get (line link.profile (other d) past) 0)) t)) stands

-- the change that is pending
pub pending-is : (mask : List ℕ) (o : Outcome) (before : Bool) → pending_changed o (before || changes mask) ≡ changed_after mask o before
pending-is mask Gathered before = refl
pending-is mask Quiet before = refl
pending-is mask Trained before = refl
pending-is mask Accepted before = refl
pending-is mask Poisoned before = refl
pending-is mask Repeat before = refl
pending-is mask (AbortedBad bad) before = refl
pending-is mask AbortedOrder before = refl
pending-is mask (Ran kind) before = refl

pub no-run : (o : Outcome) (t : List SenderEntry) → is_start_run o ≡ false → t ≡ run_entries o ++ t
no-run (Ran Start) t is = absurd cc
no-run _ t is = refl

pub a-run : (o : Outcome) (t : List SenderEntry) → is_start_run o ≡ true → SenderEntry.ran ∷ t ≡ run_entries o ++ t
a-run (Ran Start) t is = refl
a-run _ t is = absurd cc

-- The list of a direction after a call.
use Rattle.std.proofs.Common.{◌≡◌, ◌∙◌, ◌<◌, ℕ, Bool, true, false, List, [], ◌∷◌, ◌++◌, length, map, Option, Some, None, refl, sym, ap, subst}
use Rattle.std.specs.Prelude.{slice_get}
use Rattle.hmc_codes.specs.Link.{LinkFields}
use Rattle.hmc_packet.specs.Head.{head_in}
use Rattle.hmc_packet.specs.Packet.{PacketFields}
use Rattle.hmc_send.specs.Given.{IsTaken}
use Rattle.hmc_send.specs.LinkCalls.{LinkCall, with_entry, names_flits}
use Rattle.hmc_send.specs.LinkEntries.{LinkEntry}
use Rattle.hmc_packet.specs.Masks.{under_mask}
use Rattle.hmc_send.specs.LinkLines.{StampedFlit, line, passes}
use Rattle.hmc_send.specs.declared.toward.Toward.{Toward}
use Rattle.hmc_wire.specs.LinkLaws.{IsKept}
use Rattle.hmc_ends.specs.declared.link_landed.LinkLanded.{LinkLanded}
use Rattle.hmc_ends.specs.Answers.{after_call}
use Rattle.hmc_ends.specs.End.{EndFields, is_ready}
use Rattle.hmc_link.specs.Held.{LinkHeld, sending_end}
use Rattle.hmc_ends.specs.Landings.{link_landed, came, landing_passed, landing_in, entry_landed, removed}
use Rattle.hmc_ends.specs.List.{handed_list, listed_packet, listed_open}
use Rattle.hmc_ends.specs.StandsFor.{EndsStandFor}
use Rattle.hmc_ends.proofs.Calls.{next-handed}
use Rattle.hmc_ends.proofs.CrossLemmas.{next-empty}
use Rattle.hmc_ends.proofs.Steps.{Steps}
use Rattle.hmc_ends.proofs.LandStands.{next-landed}
use Rattle.hmc_ends.proofs.Begins.{next-begun}
use Rattle.hmc_ends.proofs.ListLaws.{list-handed, list-through, list-gives}

pub hand-list : (d toward : Toward) (now : LinkHeld) (s l s' : EndFields) (packet : PacketFields) → sending_end toward now ≡ s → length (sending_end toward now).queue < (sending_end toward now).setup.output → IsTaken (sending_end toward now).setup.profile packet → Steps d (LinkCall.hand d packet) s l s' l →
    (link : LinkFields) (past : List LinkEntry) → EndsStandFor link d s l past → handed_list link d (after_call link past (LinkCall.hand d packet)) ≡ handed_list link d past ++ listed_packet packet ∷ []
hand-list d toward now s l s' packet sends room fit steps link past both =
    let here = subst (λ (e : EndFields). length e.queue < e.setup.output) sends room in
    let fits = subst (λ (e : EndFields). IsTaken e.setup.profile packet) sends fit in
    let e : after_call link past (LinkCall.hand d packet) ≡ LinkEntry.handed d packet ∷ past = ap (with_entry past) (next-handed link d past s packet both.sending here fits) in
    let after = steps.after link past both in
    ap (λ (t : List LinkEntry). handed_list link d t) e ∙ list-handed link d packet past (subst (IsKept link) e after.kept)

pub begin-list : (d toward : Toward) (now : LinkHeld) (s l s' : EndFields) (head : List ℕ) (flits : ℕ) → sending_end toward now ≡ s → is_ready (sending_end toward now) flits ≡ true → names_flits flits (head_in head) ≡ true → Steps d (LinkCall.begin d head flits) s l s' l →
    (link : LinkFields) (past : List LinkEntry) → EndsStandFor link d s l past → handed_list link d (after_call link past (LinkCall.begin d head flits)) ≡ handed_list link d past ++ listed_open head flits ∷ []
begin-list d toward now s l s' head flits sends ready named steps link past both =
    let here = subst (λ (e : EndFields). is_ready e flits ≡ true) sends ready in
    let e : after_call link past (LinkCall.begin d head flits) ≡ LinkEntry.through d head flits ∷ past = ap (with_entry past) (next-begun link d past s head flits both.sending here named) in
    let after = steps.after link past both in
    ap (λ (t : List LinkEntry). handed_list link d t) e ∙ list-through link d head flits past (subst (IsKept link) e after.kept)

-- ---- a landing

abbrev Gives : LinkFields → Toward → (past after : List LinkEntry) → LinkLanded → Type 0
Gives link d past after x = handed_list link d past ≡ map listed_packet (removed x) ++ handed_list link d after

by-pass : (link : LinkFields) (d : Toward) (past : List LinkEntry) (mask : List ℕ) (front : StampedFlit) (x : LinkLanded) (b : Bool) → slice_get (line link.profile d past) 0 ≡ Some front → passes link.profile d past mask (under_mask mask front.flit) ≡ b →
    x ≡ came b (under_mask mask front.flit) (landing_in link d past (under_mask mask front.flit)) → landing_passed x ≡ false → IsKept link (after_call link past (LinkCall.land d mask)) → Gives link d past (after_call link past (LinkCall.land d mask)) x
by-pass link d past mask front x true is passed x_is caught kept = absurd (let clash : true ≡ false = sym (ap landing_passed x_is) ∙ caught in cc)
by-pass link d past mask front x false is passed x_is caught kept =
    let flit = under_mask mask front.flit in
    let e : after_call link past (LinkCall.land d mask) ≡ entry_landed link d past mask flit ∷ past = ap (with_entry past) (next-landed link d past mask flit front is refl passed) in
    list-gives link d mask flit past (subst (IsKept link) e kept) ∙ (λ i. map listed_packet (removed (sym x_is i)) ++ handed_list link d (sym e i))

by-front : (link : LinkFields) (d : Toward) (past : List LinkEntry) (mask : List ℕ) (front : Option StampedFlit) (x : LinkLanded) → slice_get (line link.profile d past) 0 ≡ front → x ≡ link_landed link d past mask front → landing_passed x ≡ false →
    IsKept link (after_call link past (LinkCall.land d mask)) → Gives link d past (after_call link past (LinkCall.land d mask)) x
by-front link d past mask None x is x_is caught kept =
    let e : after_call link past (LinkCall.land d mask) ≡ past = ap (with_entry past) (next-empty link d past mask is) in
    λ i. map listed_packet (removed (sym x_is i)) ++ handed_list link d (sym e i)
by-front link d past mask (Some front) x is x_is caught kept = by-pass link d past mask front x _ is refl x_is caught kept

pub land-list : (d : Toward) (mask : List ℕ) (x : LinkLanded) (s l s' l' : EndFields) → Steps d (LinkCall.land d mask) s l s' l' → landing_passed x ≡ false → (link : LinkFields) (past : List LinkEntry) → EndsStandFor link d s l past → x ≡ link_landed link d past mask (slice_get (line link.profile d past) 0) →
    Gives link d past (after_call link past (LinkCall.land d mask)) x
land-list d mask x s l s' l' steps caught link past both is =
    let after = steps.after link past both in
    by-front link d past mask _ x refl is caught after.kept

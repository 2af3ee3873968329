-- The lengths of the lists of both directions, after each call.
use Rattle.std.proofs.Common.{◌≡◌, ◌∙◌, ◌≤◌, ◌<◌, ◌+◌, ◌-◌, inl, inr, ℕ, zero, suc, Bool, true, false, List, [], ◌∷◌, length, drop, map, Option, Some, None, refl, sym, ap, subst, arith, length-append, Fits, w32}
use Rattle.std.specs.Prelude.{filter, ◌&&◌, nat_le, slice_get, is_none, if◌then◌else◌}
use Rattle.std.proofs.lemmas.List.{length-drop}
use Rattle.std.proofs.lemmas.List.Sums.{sum_by-cons}
use Rattle.std.proofs.lemmas.Bool.{and_parts}
use Rattle.std.proofs.Math.Nat.{sub-zero}
use Rattle.hmc_codes.specs.Link.{LinkFields, IsLinkSetup}
use Rattle.hmc_codes.specs.declared.profile.Profile.{Profile}
use Rattle.hmc_packet.specs.declared.feed.Feed.{Feed}
use Rattle.hmc_packet.specs.declared.what.What.{What}
use Rattle.hmc_packet.specs.Packet.{PacketFields}
use Rattle.hmc_send.specs.Entries.{unfinished, acked}
use Rattle.hmc_packet.specs.Head.{head_in}
use Rattle.hmc_send.specs.Choice.{is_free}
use Rattle.hmc_send.specs.Given.{IsTaken, given_only}
use Rattle.hmc_send.specs.Sender.{view_held, room_held}
use Rattle.hmc_send.specs.LinkCalls.{names_flits, LinkCall, next_entry, with_entry, call_of}
use Rattle.hmc_send.specs.LinkEntries.{LinkEntry, other, accepted_packets}
use Rattle.hmc_packet.specs.Masks.{under_mask}
use Rattle.hmc_send.specs.LinkLines.{StampedFlit, line, passes}
use Rattle.hmc_send.specs.LinkSenders.{sender_entries, places_in, queue_in}
use Rattle.hmc_send.specs.Places.{Place, flits_at, flits_in, takes_tokens}
use Rattle.hmc_send.specs.declared.toward.Toward.{Toward}
use Rattle.hmc_send.specs.declared.toward.Toward.TheVariants.{Forth, Back}
use Rattle.hmc_send.proofs.LinkLists.{next-call}
use Rattle.hmc_wire.specs.LinkLaws.{IsKept}
use Rattle.hmc_wire.proofs.Places.{AllFit, FitOr}
use Rattle.hmc_ends.specs.declared.link_landed.LinkLanded.{LinkLanded}
use Rattle.hmc_ends.specs.Answers.{after_call}
use Rattle.hmc_ends.specs.End.{EndFields, own_view, is_ready}
use Rattle.hmc_link.specs.Held.{LinkHeld, sending_end, listed_at}
use Rattle.hmc_ends.specs.Landings.{link_landed, came, landing_passed, landing_in, entry_landed, removed, stored}
use Rattle.hmc_ends.specs.List.{handed_list, listed_place, listed_packet, listed_open, place_sent, leaves}
use Rattle.hmc_ends.specs.Parts.{parts_of}
use Rattle.hmc_ends.specs.StandsFor.{EndStandsFor}
use Rattle.hmc_link.specs.StandsFor.{LinkStandsFor, IsLink}
use Rattle.hmc_ends.proofs.Calls.{next-handed}
use Rattle.hmc_ends.proofs.CrossLemmas.{next-empty}
use Rattle.hmc_ends.proofs.Fed.{sender-is}
use Rattle.hmc_link.proofs.Joins.{Numbers}
use Rattle.hmc_ends.proofs.LandStands.{next-landed}
use Rattle.hmc_ends.proofs.Lists.{length-map}
use Rattle.hmc_ends.proofs.Begins.{next-begun}
use Rattle.hmc_ends.proofs.ListLaws.{list-handed, list-through, list-sent, list-gives, list-over}
use Rattle.hmc_wire.proofs.LawsHold.{direction-laws}
use Rattle.hmc_retry.proofs.Kept.{most_small}

abbrev number : LinkFields → Toward → List LinkEntry → ℕ
number link d past = length (handed_list link d past)

-- ---- calls that leave the lengths

abbrev keeps_number : LinkCall → Bool
keeps_number (LinkCall.take d) = true
keeps_number (LinkCall.send d feed) = true
keeps_number (LinkCall.unlock d) = true
keeps_number (LinkCall.hand d packet) = false
keeps_number (LinkCall.land d mask) = false
keeps_number (LinkCall.begin d head flits) = false

sent-number : (link : LinkFields) (d : Toward) (feed : Feed) (w : What) (flit : List ℕ) (past : List LinkEntry) → IsKept link (LinkEntry.sent d feed w flit ∷ past) → number link d (LinkEntry.sent d feed w flit ∷ past) ≡ number link d past
sent-number link d feed w flit past kept = ap (λ (l : List Place). length l) (list-sent link d feed w flit past kept) ∙ length-map (place_sent w link.profile (unfinished (sender_entries link d past)) feed) (handed_list link d past)

over-number : (link : LinkFields) (d : Toward) (entry : LinkEntry) (past : List LinkEntry) → leaves d entry ≡ true → number link d (entry ∷ past) ≡ number link d past
over-number link d entry past is = ap (λ (l : List Place). length l) (list-over link d entry past is)

entry-number : (link : LinkFields) (d : Toward) (entry : LinkEntry) (past : List LinkEntry) → keeps_number (call_of entry) ≡ true → IsKept link (entry ∷ past) → number link d (entry ∷ past) ≡ number link d past
entry-number link d (LinkEntry.taken way) past keeps kept = over-number link d (LinkEntry.taken way) past refl
entry-number link d (LinkEntry.unlocked way) past keeps kept = over-number link d (LinkEntry.unlocked way) past refl
entry-number link Forth (LinkEntry.sent Forth feed w flit) past keeps kept = sent-number link Forth feed w flit past kept
entry-number link Forth (LinkEntry.sent Back feed w flit) past keeps kept = over-number link Forth (LinkEntry.sent Back feed w flit) past refl
entry-number link Back (LinkEntry.sent Forth feed w flit) past keeps kept = over-number link Back (LinkEntry.sent Forth feed w flit) past refl
entry-number link Back (LinkEntry.sent Back feed w flit) past keeps kept = sent-number link Back feed w flit past kept
entry-number link d (LinkEntry.handed way packet) past keeps kept = absurd cc
entry-number link d (LinkEntry.landed way mask flit o) past keeps kept = absurd cc
entry-number link d (LinkEntry.through way head flits) past keeps kept = absurd cc

call-number : (link : LinkFields) (d : Toward) (call : LinkCall) (past : List LinkEntry) → keeps_number call ≡ true → IsKept link (after_call link past call) → number link d (after_call link past call) ≡ number link d past
call-number link d call past keeps kept = by_next (next_entry link past call) refl kept
  where
    by_next : (o : Option LinkEntry) → next_entry link past call ≡ o → IsKept link (with_entry past o) → number link d (with_entry past o) ≡ number link d past
    by_next None is k = refl
    by_next (Some entry) is k = entry-number link d entry past (subst (λ (c : LinkCall). keeps_number c ≡ true) (sym (next-call link past call entry is)) keeps) k

pub numbers-kept : (call : LinkCall) (h h' : LinkHeld) → keeps_number call ≡ true → h'.forth ≡ h.forth → h'.back ≡ h.back → Numbers call h h'
numbers-kept call h h' keeps forth back = record {
  after = λ link past s kept. record {
    forth = forth ∙ s.lengths.forth ∙ sym (call-number link Forth call past keeps kept);
    back = back ∙ s.lengths.back ∙ sym (call-number link Back call past keeps kept);
  };
}

-- ---- calls that add one

numbers-more : (d : Toward) (call : LinkCall) (entry : LinkEntry) (h h' : LinkHeld) →
    ((link : LinkFields) (past : List LinkEntry) → LinkStandsFor link h past → next_entry link past call ≡ Some entry) →
    ((link : LinkFields) (past : List LinkEntry) → IsKept link (entry ∷ past) → number link d (entry ∷ past) ≡ number link d past + 1) → leaves (other d) entry ≡ true →
    listed_at d h' ≡ listed_at d h + 1 → listed_at (other d) h' ≡ listed_at (other d) h → Numbers call h h'
numbers-more Forth call entry h h' next grows leaves more rest = record {
  after = λ link past s kept.
      let e : after_call link past call ≡ entry ∷ past = ap (with_entry past) (next link past s) in
      record {
        forth = more ∙ ap (λ (n : ℕ). n + 1) s.lengths.forth ∙ sym (ap (number link Forth) e ∙ grows link past (subst (IsKept link) e kept));
        back = rest ∙ s.lengths.back ∙ sym (ap (number link Back) e ∙ over-number link Back entry past leaves);
      };
}
numbers-more Back call entry h h' next grows leaves more rest = record {
  after = λ link past s kept.
      let e : after_call link past call ≡ entry ∷ past = ap (with_entry past) (next link past s) in
      record {
        forth = rest ∙ s.lengths.forth ∙ sym (ap (number link Forth) e ∙ over-number link Forth entry past leaves);
        back = more ∙ ap (λ (n : ℕ). n + 1) s.lengths.back ∙ sym (ap (number link Back) e ∙ grows link past (subst (IsKept link) e kept));
      };
}

leaves-handed : (d : Toward) (packet : PacketFields) → leaves (other d) (LinkEntry.handed d packet) ≡ true
leaves-handed Forth packet = refl
leaves-handed Back packet = refl

leaves-through : (d : Toward) (head : List ℕ) (flits : ℕ) → leaves (other d) (LinkEntry.through d head flits) ≡ true
leaves-through Forth head flits = refl
leaves-through Back head flits = refl

pub numbers-handed : (d : Toward) (packet : PacketFields) (h h' : LinkHeld) → ((link : LinkFields) (past : List LinkEntry) → LinkStandsFor link h past → next_entry link past (LinkCall.hand d packet) ≡ Some (LinkEntry.handed d packet)) →
    listed_at d h' ≡ listed_at d h + 1 → listed_at (other d) h' ≡ listed_at (other d) h → Numbers (LinkCall.hand d packet) h h'
numbers-handed d packet h h' next more rest =
    numbers-more d (LinkCall.hand d packet) (LinkEntry.handed d packet) h h' next
    (λ link past kept. ap (λ (l : List Place). length l) (list-handed link d packet past kept) ∙ length-append (handed_list link d past) (listed_packet packet ∷ []))
    (leaves-handed d packet) more rest

pub numbers-through : (d : Toward) (head : List ℕ) (flits : ℕ) (h h' : LinkHeld) → ((link : LinkFields) (past : List LinkEntry) → LinkStandsFor link h past → next_entry link past (LinkCall.begin d head flits) ≡ Some (LinkEntry.through d head flits)) →
    listed_at d h' ≡ listed_at d h + 1 → listed_at (other d) h' ≡ listed_at (other d) h → Numbers (LinkCall.begin d head flits) h h'
numbers-through d head flits h h' next more rest =
    numbers-more d (LinkCall.begin d head flits) (LinkEntry.through d head flits) h h' next
    (λ link past kept. ap (λ (l : List Place). length l) (list-through link d head flits past kept) ∙ length-append (handed_list link d past) (listed_open head flits ∷ []))
    (leaves-through d head flits) more rest

-- ---- a landing

landed-number : (link : LinkFields) (d : Toward) (mask flit : List ℕ) (past : List LinkEntry) → IsKept link (entry_landed link d past mask flit ∷ past) →
    number link d (entry_landed link d past mask flit ∷ past) ≡ number link d past - length (stored (landing_in link d past flit))
landed-number link d mask flit past kept =
    let after = handed_list link d (entry_landed link d past mask flit ∷ past) in
    let gives = stored (landing_in link d past flit) in
    let e : number link d past ≡ length gives + length after =
    ap (λ (l : List Place). length l) (list-gives link d mask flit past kept) ∙ length-append (map listed_packet gives) after ∙ ap (λ (n : ℕ). n + length after) (length-map listed_packet gives) in
    less (length gives) (length after) (number link d past) e
  where
    less : (a b n : ℕ) → n ≡ a + b → b ≡ n - a
    less a b n is = omega arith

leaves-landed : (link : LinkFields) (d : Toward) (past : List LinkEntry) (mask flit : List ℕ) → leaves (other d) (entry_landed link d past mask flit) ≡ true
leaves-landed link Forth past mask flit = refl
leaves-landed link Back past mask flit = refl

-- what a landing does to both lengths
record Fewer (link : LinkFields) (d : Toward) (past after : List LinkEntry) (x : LinkLanded) : Type 0 where
  here : number link d after ≡ number link d past - length (removed x)
  there : number link (other d) after ≡ number link (other d) past

by-pass : (link : LinkFields) (d : Toward) (past : List LinkEntry) (mask : List ℕ) (front : StampedFlit) (x : LinkLanded) (b : Bool) → slice_get (line link.profile d past) 0 ≡ Some front → passes link.profile d past mask (under_mask mask front.flit) ≡ b →
    x ≡ came b (under_mask mask front.flit) (landing_in link d past (under_mask mask front.flit)) → landing_passed x ≡ false → IsKept link (after_call link past (LinkCall.land d mask)) → Fewer link d past (after_call link past (LinkCall.land d mask)) x
by-pass link d past mask front x true is passed x_is caught kept = absurd (let clash : true ≡ false = sym (ap landing_passed x_is) ∙ caught in cc)
by-pass link d past mask front x false is passed x_is caught kept =
    let flit = under_mask mask front.flit in
    let e : after_call link past (LinkCall.land d mask) ≡ entry_landed link d past mask flit ∷ past = ap (with_entry past) (next-landed link d past mask flit front is refl passed) in
    let k = subst (IsKept link) e kept in
    record {
      here = ap (number link d) e ∙ landed-number link d mask flit past k ∙ ap (λ (y : LinkLanded). number link d past - length (removed y)) (sym x_is);
      there = ap (number link (other d)) e ∙ over-number link (other d) (entry_landed link d past mask flit) past (leaves-landed link d past mask flit);
    }

by-front : (link : LinkFields) (d : Toward) (past : List LinkEntry) (mask : List ℕ) (front : Option StampedFlit) (x : LinkLanded) → slice_get (line link.profile d past) 0 ≡ front →
    x ≡ link_landed link d past mask front → landing_passed x ≡ false → IsKept link (after_call link past (LinkCall.land d mask)) → Fewer link d past (after_call link past (LinkCall.land d mask)) x
by-front link d past mask None x is x_is caught kept =
    let e : after_call link past (LinkCall.land d mask) ≡ past = ap (with_entry past) (next-empty link d past mask is) in
    record {
      here = ap (number link d) e ∙ sym (sub-zero (number link d past)) ∙ ap (λ (y : LinkLanded). number link d past - length (removed y)) (sym x_is);
      there = ap (number link (other d)) e;
    }
by-front link d past mask (Some front) x is x_is caught kept = by-pass link d past mask front x _ is refl x_is caught kept

pub numbers-landed : (d : Toward) (mask : List ℕ) (x : LinkLanded) (h h' : LinkHeld) → ((link : LinkFields) (past : List LinkEntry) → LinkStandsFor link h past → x ≡ link_landed link d past mask (slice_get (line link.profile d past) 0)) → landing_passed x ≡ false →
    listed_at d h' ≡ listed_at d h - length (removed x) → listed_at (other d) h' ≡ listed_at (other d) h → Numbers (LinkCall.land d mask) h h'
numbers-landed Forth mask x h h' answers caught here there = record {
  after = λ link past s kept.
      let fewer = by-front link Forth past mask _ x refl (answers link past s) caught kept in
      record {
        forth = here ∙ ap (λ (n : ℕ). n - length (removed x)) s.lengths.forth ∙ sym fewer.here;
        back = there ∙ s.lengths.back ∙ sym fewer.there;
      };
}
numbers-landed Back mask x h h' answers caught here there = record {
  after = λ link past s kept.
      let fewer = by-front link Back past mask _ x refl (answers link past s) caught kept in
      record {
        forth = there ∙ s.lengths.forth ∙ sym fewer.there;
        back = here ∙ ap (λ (n : ℕ). n - length (removed x)) s.lengths.back ∙ sym fewer.here;
      };
}

-- ---- the lengths are small

filter-less : (p : Place → Bool) (l : List Place) → length (filter p l) ≤ length l
filter-less p [] = omega arith
filter-less p (x ∷ l) = by_test (p x) (filter-less p l)
  where
    by_test : (b : Bool) → length (filter p l) ≤ length l → length (if b then x ∷ filter p l else filter p l) ≤ suc (length l)
    by_test true le = omega arith
    by_test false le = omega arith

some-flit : (q : Profile) (x : Place) → FitOr q x → 1 ≤ flits_at x
some-flit q (Place.known p) fit = omega arith
some-flit q (Place.awaited head flits n) (inl h) = absurd (let clash : None ≡ Some h.packet = h.fits.known in cc)
some-flit q (Place.awaited head flits n) (inr o) = let two = o.some in omega arith

some-flits : (q : Profile) (l : List Place) → AllFit q l → length l ≤ flits_in l
some-flits q [] all = omega arith
some-flits q (x ∷ l) all =
    let one = some-flit q x all.0 in
    let rest = some-flits q l all.1 in
    let sum = sum_by-cons flits_at x l in
    omega arith

fit-drop : (q : Profile) (n : ℕ) (l : List Place) → AllFit q l → AllFit q (drop n l)
fit-drop q zero l all = all
fit-drop q (suc n) [] all = tt
fit-drop q (suc n) (x ∷ l) all = fit-drop q n l all.1

few-number : (link : LinkFields) (d : Toward) (past : List LinkEntry) → IsKept link past → number link d past ≤ link.retry + length (queue_in link d past)
few-number link d past kept =
    let laws = direction-laws link d past kept in
    let l = places_in link d past in
    let n = length (accepted_packets link.profile d past) in
    let a = acked (sender_entries link d past) in
    let parts = length-append (map listed_place (filter takes_tokens (drop n l))) (map listed_packet (queue_in link d past)) in
    let begun = length-map listed_place (filter takes_tokens (drop n l)) in
    let waits = length-map listed_packet (queue_in link d past) in
    let some = filter-less takes_tokens (drop n l) in
    let here = length-drop n l in
    let there = length-drop a l in
    let order = laws.acknowledged in
    let flits = some-flits link.profile (drop a l) (fit-drop link.profile a l (sender-is link d past kept).fit) in
    let room = laws.kept in
    omega arith

pub number-fits : (link : LinkFields) (d : Toward) (past : List LinkEntry) (n : ℕ) → IsKept link past → length (queue_in link d past) ≤ 1024 → n ≡ number link d past → Fits w32 (n + 1)
number-fits link d past n kept queue is =
    let few = few-number link d past kept in
    let retry = kept.retry in
    let most = most_small link.profile in
    omega arith

-- ---- by what a link does

few-queue : (link : LinkFields) (d : Toward) (past : List LinkEntry) (s : EndFields) → IsLinkSetup link → EndStandsFor link s (parts_of link d past) → length s.queue < s.setup.output → length (queue_in link d past) ≤ 1024
few-queue link d past s sizes is room =
    let size = subst (λ (x : LinkFields). length s.queue < x.output) is.setup room in
    let same = ap (λ (q : List PacketFields). length q) is.queue in
    let most = sizes.output in
    omega arith

no-queue : (link : LinkFields) (d : Toward) (past : List LinkEntry) (s : EndFields) (flits : ℕ) → EndStandsFor link s (parts_of link d past) → is_ready s flits ≡ true → length (queue_in link d past) ≤ 1024
no-queue link d past s flits is ready =
    let free = is_free (view_held s.sender (given_only (own_view s))) in
    let parts = and_parts (is_none (slice_get s.queue 0) && free) (nat_le flits s.account.held && nat_le flits (room_held s.sender)) ready in
    let none = nothing s.queue (and_parts (is_none (slice_get s.queue 0)) free parts.0).0 in
    let same = ap (λ (q : List PacketFields). length q) is.queue in
    omega arith
  where
    nothing : (l : List PacketFields) → is_none (slice_get l 0) ≡ true → length l ≡ 0
    nothing [] is = refl
    nothing (x ∷ l) is = absurd cc

pub hand-fits-forth : (toward : Toward) (now h : LinkHeld) → sending_end toward now ≡ h.a → h ≡ now → IsLink h → now.going ≡ true → length (sending_end toward now).queue < (sending_end toward now).setup.output → Fits w32 (h.forth + 1)
hand-fits-forth toward now h sends same is going room =
    let some = is (ap (λ (x : LinkHeld). x.going) same ∙ going) in
    let here = subst (λ (e : EndFields). length e.queue < e.setup.output) sends room in
    number-fits some.link Forth some.past h.forth some.stands.kept (few-queue some.link Forth some.past h.a some.stands.sizes some.stands.a here) some.stands.lengths.forth

pub begin-fits-forth : (toward : Toward) (now h : LinkHeld) (flits : ℕ) → sending_end toward now ≡ h.a → h ≡ now → IsLink h → now.going ≡ true → is_ready (sending_end toward now) flits ≡ true → Fits w32 (h.forth + 1)
begin-fits-forth toward now h flits sends same is going ready =
    let some = is (ap (λ (x : LinkHeld). x.going) same ∙ going) in
    let here = subst (λ (e : EndFields). is_ready e flits ≡ true) sends ready in
    number-fits some.link Forth some.past h.forth some.stands.kept (no-queue some.link Forth some.past h.a flits some.stands.a here) some.stands.lengths.forth

pub hand-numbers-forth : (toward : Toward) (now h h' : LinkHeld) (packet : PacketFields) → sending_end toward now ≡ h.a → length (sending_end toward now).queue < (sending_end toward now).setup.output → IsTaken (sending_end toward now).setup.profile packet →
    listed_at Forth h' ≡ listed_at Forth h + 1 → listed_at (other Forth) h' ≡ listed_at (other Forth) h → Numbers (LinkCall.hand Forth packet) h h'
hand-numbers-forth toward now h h' packet sends room fit more rest =
    let here = subst (λ (e : EndFields). length e.queue < e.setup.output) sends room in
    let fits = subst (λ (e : EndFields). IsTaken e.setup.profile packet) sends fit in
    numbers-handed Forth packet h h' (λ link past s. next-handed link Forth past h.a packet s.a here fits) more rest

pub begin-numbers-forth : (toward : Toward) (now h h' : LinkHeld) (head : List ℕ) (flits : ℕ) → sending_end toward now ≡ h.a → is_ready (sending_end toward now) flits ≡ true → names_flits flits (head_in head) ≡ true →
    listed_at Forth h' ≡ listed_at Forth h + 1 → listed_at (other Forth) h' ≡ listed_at (other Forth) h → Numbers (LinkCall.begin Forth head flits) h h'
begin-numbers-forth toward now h h' head flits sends ready named more rest =
    let here = subst (λ (e : EndFields). is_ready e flits ≡ true) sends ready in
    numbers-through Forth head flits h h' (λ link past s. next-begun link Forth past h.a head flits s.a here named) more rest

pub hand-fits-back : (toward : Toward) (now h : LinkHeld) → sending_end toward now ≡ h.b → h ≡ now → IsLink h → now.going ≡ true → length (sending_end toward now).queue < (sending_end toward now).setup.output → Fits w32 (h.back + 1)
hand-fits-back toward now h sends same is going room =
    let some = is (ap (λ (x : LinkHeld). x.going) same ∙ going) in
    let here = subst (λ (e : EndFields). length e.queue < e.setup.output) sends room in
    number-fits some.link Back some.past h.back some.stands.kept (few-queue some.link Back some.past h.b some.stands.sizes some.stands.b here) some.stands.lengths.back

pub begin-fits-back : (toward : Toward) (now h : LinkHeld) (flits : ℕ) → sending_end toward now ≡ h.b → h ≡ now → IsLink h → now.going ≡ true → is_ready (sending_end toward now) flits ≡ true → Fits w32 (h.back + 1)
begin-fits-back toward now h flits sends same is going ready =
    let some = is (ap (λ (x : LinkHeld). x.going) same ∙ going) in
    let here = subst (λ (e : EndFields). is_ready e flits ≡ true) sends ready in
    number-fits some.link Back some.past h.back some.stands.kept (no-queue some.link Back some.past h.b flits some.stands.b here) some.stands.lengths.back

pub hand-numbers-back : (toward : Toward) (now h h' : LinkHeld) (packet : PacketFields) → sending_end toward now ≡ h.b → length (sending_end toward now).queue < (sending_end toward now).setup.output → IsTaken (sending_end toward now).setup.profile packet →
    listed_at Back h' ≡ listed_at Back h + 1 → listed_at (other Back) h' ≡ listed_at (other Back) h → Numbers (LinkCall.hand Back packet) h h'
hand-numbers-back toward now h h' packet sends room fit more rest =
    let here = subst (λ (e : EndFields). length e.queue < e.setup.output) sends room in
    let fits = subst (λ (e : EndFields). IsTaken e.setup.profile packet) sends fit in
    numbers-handed Back packet h h' (λ link past s. next-handed link Back past h.b packet s.b here fits) more rest

pub begin-numbers-back : (toward : Toward) (now h h' : LinkHeld) (head : List ℕ) (flits : ℕ) → sending_end toward now ≡ h.b → is_ready (sending_end toward now) flits ≡ true → names_flits flits (head_in head) ≡ true →
    listed_at Back h' ≡ listed_at Back h + 1 → listed_at (other Back) h' ≡ listed_at (other Back) h → Numbers (LinkCall.begin Back head flits) h h'
begin-numbers-back toward now h h' head flits sends ready named more rest =
    let here = subst (λ (e : EndFields). is_ready e flits ≡ true) sends ready in
    numbers-through Back head flits h h' (λ link past s. next-begun link Back past h.b head flits s.b here named) more rest

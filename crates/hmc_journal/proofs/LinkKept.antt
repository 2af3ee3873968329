-- A link that keeps its conditions keeps them after one more entry.
use Rattle.std.proofs.Common.{◌≡◌, ◌≤◌, ◌∙◌, ◌-◌, ℕ, zero, suc, Bool, true, false, ◌&&◌, ◌||◌, ◌⊎◌, if◌then◌else◌, List, [], ◌∷◌, ◌++◌, Option, Some, None, get_or, length, refl, sym, ap, subst, arith}
use Rattle.std.specs.Prelude.{slice_get, bit_xor, is_none}
use Rattle.std.specs.Str.{bytes_eq}
use Rattle.std.proofs.lemmas.Slice.Eq.{bytes_eq-Decides}
use Rattle.std.proofs.lemmas.Nat.Bits.{bit_at_xor, bit_at-lt, same_from_bits}
use Rattle.std.proofs.lemmas.Bool.{and_from}
use Rattle.hmc_codes.specs.Bytes.{IsBytes}
use Rattle.hmc_codes.specs.Flit.{zero_flit, IsFlit}
use Rattle.hmc_codes.specs.Link.{LinkFields}
use Rattle.hmc_codes.specs.Profile.{most_retry}
use Rattle.hmc_codes.specs.declared.profile.Profile.{Profile}
use Rattle.hmc_packet.specs.declared.feed.Feed.{Feed}
use Rattle.hmc_packet.specs.declared.feed.Feed.TheVariants.{Waiting}
use Rattle.hmc_packet.specs.Head.{head_in}
use Rattle.hmc_packet.specs.declared.kind.Kind.TheVariants.{Start, Clear}
use Rattle.hmc_packet.specs.declared.outcome.Outcome.{Outcome}
use Rattle.hmc_packet.specs.declared.outcome.Outcome.TheVariants as outcomes
use Rattle.hmc_packet.specs.declared.what.What.{What}
use Rattle.hmc_packet.specs.Packet.{PacketFields, null_packet}
use Rattle.hmc_packet.specs.Receptions.{reception_of}
use Rattle.hmc_send.specs.declared.toward.Toward.{Toward}
use Rattle.hmc_send.specs.declared.toward.Toward.TheVariants.{Forth, Back}
use Rattle.hmc_send.specs.declared.sent.Sent.{Sent}
use Rattle.hmc_send.specs.declared.sent.Sent.TheVariants.{Out}
use Rattle.hmc_send.specs.Entries.{SenderEntry, Part, under_way, unfinished, places, last_begun, with_place}
use Rattle.hmc_send.specs.IsSender.{IsFed}
use Rattle.hmc_send.specs.Kept.{IsFedFor}
use Rattle.hmc_send.specs.LinkCalls.{LinkCall, entry_if, has_room, holds_packet, view_in, may_pass_on, names_flits, sent_entry, landed_front, next_entry, IsLawful}
use Rattle.hmc_send.specs.LinkEntries.{LinkEntry, receiver_entries, handed_packets}
use Rattle.hmc_packet.specs.Masks.{changes, under_mask}
use Rattle.hmc_send.specs.LinkLines.{StampedFlit, line, is_pending_changed, passes}
use Rattle.hmc_send.specs.LinkSenders.{sender_entries, places_in, given_after, run_entries, acknowledgement}
use Rattle.hmc_send.specs.Places.{Place, is_token, place_at}
use Rattle.hmc_send.proofs.LinkLawful.{IsSend, IsLanding}
use Rattle.hmc_wire.specs.Conditions.{IsFeed, IsHanded, AreHanded, AreFed}
use Rattle.hmc_wire.specs.LinkLaws.{IsKept}
use Rattle.hmc_wire.proofs.Places.{packet_of}
use Rattle.hmc_wire.proofs.OpenPlaces.{AreKnown, IsOpen, open-place}
use Rattle.hmc_wire.proofs.Flits.{masked-flit}
use Rattle.hmc_wire.proofs.LawsHold.{direction-laws}
use Rattle.hmc_wire.proofs.Links.{unchanged}
use Rattle.hmc_wire.proofs.Turns.{own-joins}
use Rattle.hmc_journal.specs.Links.{mask_between, landing_mask}

-- ---- what is said of each entry

-- a link that did nothing
pub kept-none : (link : LinkFields) → link.retry ≤ most_retry link.profile → IsKept link []
unfolding IsLawful AreHanded sender_entries AreFed
kept-none link few = record { retry = few; lawful = tt; met = record { handed = tt; forth = tt; back = tt } }

if_true : (b : Bool) (entry : LinkEntry) → b ≡ true → entry_if b entry ≡ Some entry
if_true b entry is = ap (λ (c : Bool). entry_if c entry) is

-- what is taken leaves the room of an output queue
pub room_taken : (sizes : LinkFields) (d way : Toward) (past : List LinkEntry) →
    has_room sizes d (LinkEntry.taken way ∷ past) ≡ has_room sizes d past
unfolding sender_entries handed_packets
room_taken sizes Forth way past = refl
room_taken sizes Back way past = refl

-- a packet is handed where the queue has room
pub kept-handed : (link : LinkFields) (past : List LinkEntry) (d : Toward) (packet : PacketFields) → IsKept link past → has_room link d past ≡ true → is_token packet ≡ true → IsHanded link.profile packet → IsKept link (LinkEntry.handed d packet ∷ past)
unfolding IsLawful next_entry AreHanded sender_entries
kept-handed link past d packet is room token fit = record {
  retry = is.retry;
  lawful = (if_true (has_room link d past && is_token packet) (LinkEntry.handed d packet) (and_from (has_room link d past) (is_token packet) room token), is.lawful);
  met = record { handed = (fit, is.met.handed); forth = is.met.forth; back = is.met.back };
}

-- a packet is taken where the buffer holds one
pub kept-taken : (link : LinkFields) (past : List LinkEntry) (d : Toward) → IsKept link past → holds_packet link d past ≡ true → IsKept link (LinkEntry.taken d ∷ past)
unfolding IsLawful next_entry AreHanded sender_entries
kept-taken link past d is holds = record {
  retry = is.retry;
  lawful = (if_true (holds_packet link d past) (LinkEntry.taken d) holds, is.lawful);
  met = record { handed = is.met.handed; forth = is.met.forth; back = is.met.back };
}

-- a receiver is unlocked
pub kept-unlocked : (link : LinkFields) (past : List LinkEntry) (d : Toward) → IsKept link past → IsKept link (LinkEntry.unlocked d ∷ past)
unfolding IsLawful next_entry AreHanded sender_entries
kept-unlocked link past d is = record {
  retry = is.retry;
  lawful = (refl, is.lawful);
  met = record { handed = is.met.handed; forth = is.met.forth; back = is.met.back };
}

-- a cut-through is begun where the sender is free for it
pub kept-through : (link : LinkFields) (past : List LinkEntry) (d : Toward) (head : List ℕ) (flits : ℕ) → IsKept link past → may_pass_on (view_in link d past Waiting) flits ≡ true → names_flits flits (head_in head) ≡ true → IsFlit head
    → IsKept link (LinkEntry.through d head flits ∷ past)
unfolding IsLawful next_entry AreHanded sender_entries AreFed
kept-through link past Forth head flits is may names flit = record {
  retry = is.retry;
  lawful = (if_true (may_pass_on (view_in link Forth past Waiting) flits && names_flits flits (head_in head)) (LinkEntry.through Forth head flits) (and_from (may_pass_on (view_in link Forth past Waiting) flits) (names_flits flits (head_in head)) may names), is.lawful);
  met = record { handed = is.met.handed; forth = (flit, is.met.forth); back = is.met.back };
}
kept-through link past Back head flits is may names flit = record {
  retry = is.retry;
  lawful = (if_true (may_pass_on (view_in link Back past Waiting) flits && names_flits flits (head_in head)) (LinkEntry.through Back head flits) (and_from (may_pass_on (view_in link Back past Waiting) flits) (names_flits flits (head_in head)) may names), is.lawful);
  met = record { handed = is.met.handed; forth = is.met.forth; back = (flit, is.met.back) };
}

-- ---- places

-- each place has its packet, except an open one at the end whose packet is under way
pub opened : (link : LinkFields) (d : Toward) (past : List LinkEntry) → IsKept link past → AreKnown (places_in link d past) ⊎ IsOpen link.profile (sender_entries link d past)
opened link Forth past is = let j = own-joins link past is in open-place link.profile link.retry (sender_entries link Forth past) j.forth.chosen is.met.forth
opened link Back past is = let j = own-joins link past is in open-place link.profile link.retry (sender_entries link Back past) j.back.chosen is.met.back

-- nothing is fed to a packet that is known
fed_for : (part : Part) (place : Place) (feed : Feed) → is_none (packet_of place) ≡ false → IsFedFor part place feed
fed_for part (Place.known packet) feed known = tt
fed_for part (Place.awaited head flits numbers) feed known = absurd (let clash : true ≡ false = known in cc)

fed_with : (place : Place) (part : Option Part) (feed : Feed) → is_none (packet_of place) ≡ false → IsFed (with_place place part) feed
fed_with place None feed known = tt
fed_with place (Some part) feed known = fed_for part place feed known

pub known_at : (l : List Place) (n : ℕ) → AreKnown l → is_none (packet_of (get_or l n (Place.known null_packet))) ≡ false
known_at [] n known = refl
known_at (x ∷ l) zero known = known.0
known_at (x ∷ l) (suc n) known = known_at l n known.1

pub known-fed : (q : Profile) (past : List SenderEntry) (feed : Feed) → AreKnown (places q past) → IsFed (under_way q past) feed
known-fed q past feed known = fed_with (place_at (places q past) (last_begun q past)) (unfinished past) feed (known_at (places q past) (last_begun q past - 1) known)

-- ---- a send

send_made : (d : Toward) (feed : Feed) (full : Bool) (s : Sent) (what : What) (flit : List ℕ) → full ≡ false → s ≡ Out flit what → sent_entry d feed full s ≡ Some (LinkEntry.sent d feed what flit)
send_made d feed full s what flit room is = rw (room, is) refl

pub kept-sent : (link : LinkFields) (past : List LinkEntry) (d : Toward) (feed : Feed) (what : What) (flit : List ℕ) → IsKept link past → IsFed (under_way link.profile (sender_entries link d past)) feed → IsFeed feed → IsSend link past d feed what flit
    → IsKept link (LinkEntry.sent d feed what flit ∷ past)
unfolding IsLawful next_entry AreHanded sender_entries AreFed given_after
kept-sent link past Forth feed what flit is fed flits sent = record {
  retry = is.retry;
  lawful = (send_made Forth feed _ _ what flit sent.has_room sent.chosen, is.lawful);
  met = record { handed = is.met.handed; forth = (fed, flits, is.met.forth); back = is.met.back };
}
kept-sent link past Back feed what flit is fed flits sent = record {
  retry = is.retry;
  lawful = (send_made Back feed _ _ what flit sent.has_room sent.chosen, is.lawful);
  met = record { handed = is.met.handed; forth = is.met.forth; back = (fed, flits, is.met.back) };
}

-- ---- a landing

xor_back : (a b : ℕ) → bit_xor (bit_xor a b) a ≡ b
xor_back a b = same_from_bits (bit_xor (bit_xor a b) a) b (λ i.
    let first = bit_at_xor (bit_xor a b) a i in
    let second = bit_at_xor a b i in
    let low = bit_at-lt a i in
    let few = bit_at-lt b i in
    omega arith)

masked_back : (mask front : List ℕ) → under_mask (under_mask front (under_mask mask front)) front ≡ under_mask mask front
masked_back [] [] = refl
masked_back [] (f ∷ front) = refl
masked_back (m ∷ mask) [] = refl
masked_back (m ∷ mask) (f ∷ front) = λ i. xor_back f (bit_xor m f) i ∷ masked_back mask front i

zero_changes : changes zero_flit ≡ false
unfolding zero_flit
zero_changes = refl

-- the mask that is read off a landing turns over what was turned over, and changes no more
pub record IsMaskOf (mask front flit found : List ℕ) : Type 0 where
  pub same : under_mask found front ≡ flit
  pub quiet : changes mask ≡ false → changes found ≡ false

mask_by : (mask front : List ℕ) (same : Bool) → bytes_eq front (under_mask mask front) ≡ same → IsFlit front → IsMaskOf mask front (under_mask mask front) (if same then zero_flit else under_mask front (under_mask mask front))
mask_by mask front true is whole =
    record { same = unchanged zero_flit front whole zero_changes ∙ (bytes_eq-Decides front (under_mask mask front)).0 is; quiet = λ none. zero_changes }
mask_by mask front false is whole = record {
  same = masked_back mask front;
  quiet = λ none.
      let same : front ≡ under_mask mask front = sym (unchanged mask front whole none) in
      absurd (let clash : true ≡ false = sym ((bytes_eq-Decides front (under_mask mask front)).1 same) ∙ is in cc);
}

pub is_mask : (mask front flit : List ℕ) → IsFlit front → flit ≡ under_mask mask front → IsMaskOf mask front flit (if bytes_eq front flit then zero_flit else under_mask front flit)
is_mask mask front flit whole is =
    subst (λ (f : List ℕ). IsMaskOf mask front f (if bytes_eq front f then zero_flit else under_mask front f)) (sym is) (mask_by mask front (bytes_eq front (under_mask mask front)) refl whole)

still_caught : (checked pending before now : Bool) → (before ≡ false → now ≡ false) → (checked && (pending || before)) ≡ false → (checked && (pending || now)) ≡ false
still_caught false pending before now quiet caught = refl
still_caught true true before now quiet caught = caught
still_caught true false before now quiet caught = quiet caught

-- what is on a line is a flit
pub line-flit : (link : LinkFields) (past : List LinkEntry) (d : Toward) (front : StampedFlit) → IsKept link past → slice_get (line link.profile d past) 0 ≡ Some front → IsFlit front.flit
line-flit link past d front is at = (direction-laws link d past is).flits 0 front at

landed_made : (link : LinkFields) (past : List LinkEntry) (d : Toward) (found flit : List ℕ) (outcome : Outcome) (at : Option StampedFlit) (front : StampedFlit) → at ≡ Some front → under_mask found front.flit ≡ flit
    → passes link.profile d past found flit ≡ false → outcome ≡ (reception_of link.profile (receiver_entries d past) flit).outcome
    → landed_front link d past found at ≡ Some (LinkEntry.landed d found flit outcome)
landed_made link past d found flit outcome at front is same caught gives = rw (is, same, caught, gives) refl

pub landing-made : (link : LinkFields) (past : List LinkEntry) (d : Toward) (mask flit : List ℕ) (outcome : Outcome) → IsKept link past → IsLanding link past d mask flit outcome
    → next_entry link past (LinkCall.land d (landing_mask link d past flit)) ≡ Some (LinkEntry.landed d (landing_mask link d past flit) flit outcome)
unfolding next_entry passes
landing-made link past d mask flit outcome is landing =
    let found : IsMaskOf mask landing.front.flit flit (mask_between (Some landing.front) flit) = is_mask mask landing.front.flit flit (line-flit link past d landing.front is landing.is_front) landing.flit_is in
    let at : landing_mask link d past flit ≡ mask_between (Some landing.front) flit = ap (λ (f : Option StampedFlit). mask_between f flit) landing.is_front in
    let caught = still_caught (reception_of link.profile (receiver_entries d past) flit).checked (is_pending_changed d past) (changes mask) (changes (mask_between (Some landing.front) flit)) found.quiet landing.caught in
    subst (λ (m : List ℕ). landed_front link d past m (slice_get (line link.profile d past) 0) ≡ Some (LinkEntry.landed d m flit outcome)) (sym at)
    (landed_made link past d (mask_between (Some landing.front) flit) flit outcome _ landing.front landing.is_front found.same caught landing.outcome_is)

-- what lands under a mask is a flit
pub landing-flit : (link : LinkFields) (past : List LinkEntry) (d : Toward) (mask flit : List ℕ) (outcome : Outcome) → IsKept link past → length mask ≡ 16 → IsBytes mask → IsLanding link past d mask flit outcome → IsFlit flit
landing-flit link past d mask flit outcome is long bytes landing =
    subst IsFlit (sym landing.flit_is) (masked-flit mask landing.front.flit long bytes (line-flit link past d landing.front is landing.is_front))

fed_rrp : (q : Profile) (rrp : Option ℕ) (front : Option StampedFlit) (past : List SenderEntry) → AreFed q past → AreFed q (acknowledgement rrp front ++ past)
unfolding AreFed
fed_rrp q (Some rrp) (Some front) past fed = fed
fed_rrp q (Some rrp) None past fed = fed
fed_rrp q None front past fed = fed

fed_run : (q : Profile) (outcome : Outcome) (rrp : Option ℕ) (front : Option StampedFlit) (past : List SenderEntry) → AreFed q past → AreFed q ((run_entries outcome ++ acknowledgement rrp front) ++ past)
unfolding AreFed
fed_run q (outcomes.Ran Start) rrp front past fed = fed_rrp q rrp front past fed
fed_run q (outcomes.Ran Clear) rrp front past fed = fed_rrp q rrp front past fed
fed_run q _ rrp front past fed = fed_rrp q rrp front past fed

pub kept-landed : (link : LinkFields) (past : List LinkEntry) (d : Toward) (mask flit : List ℕ) (outcome : Outcome) → IsKept link past → IsLanding link past d mask flit outcome
    → IsKept link (LinkEntry.landed d (landing_mask link d past flit) flit outcome ∷ past)
unfolding IsLawful AreHanded sender_entries
kept-landed link past Forth mask flit outcome is landing = record {
  retry = is.retry;
  lawful = (landing-made link past Forth mask flit outcome is landing, is.lawful);
  met = record { handed = is.met.handed; forth = is.met.forth; back = fed_run link.profile outcome _ _ (sender_entries link Back past) is.met.back };
}
kept-landed link past Back mask flit outcome is landing = record {
  retry = is.retry;
  lawful = (landing-made link past Back mask flit outcome is landing, is.lawful);
  met = record { handed = is.met.handed; forth = fed_run link.profile outcome _ _ (sender_entries link Forth past) is.met.forth; back = is.met.back };
}

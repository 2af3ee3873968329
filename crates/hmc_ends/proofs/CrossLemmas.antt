-- A flit that crosses a line.
use Rattle.std.proofs.Common.{◌≡◌, ◌∙◌, ◌≤◌, ◌+◌, ◌-◌, ℕ, Bool, true, false, List, [], ◌∷◌, drop, Option, Some, None, refl, sym, ap, subst, arith}
use Rattle.std.specs.Prelude.{slice_get, filter}
use Rattle.std.proofs.lemmas.List.Sums.{sum_by-append}
use Rattle.std.proofs.Math.Nat.{sub-add-eq}
use Rattle.std.proofs.lemmas.List.Elements.{filter-append}
use Rattle.hmc_codes.proofs.General.{drop-one_more}
use Rattle.hmc_codes.specs.Link.{LinkFields}
use Rattle.hmc_packet.specs.declared.landed.Landed.{Landed}
use Rattle.hmc_packet.specs.Landings.{accepted}
use Rattle.hmc_packet.specs.Landings.ReceiverEntry.{Land}
use Rattle.hmc_packet.specs.Landings as packets
use Rattle.hmc_packet.specs.Packet.{flits_of}
use Rattle.hmc_packet.specs.Receptions.{reception_of}
use Rattle.hmc_send.specs.Entries.{places}
use Rattle.hmc_send.specs.LinkCalls.{LinkCall, next_entry, landed_front}
use Rattle.hmc_send.specs.LinkEntries.{LinkEntry, other, receiver_entries}
use Rattle.hmc_packet.specs.Masks.{changes, under_mask}
use Rattle.hmc_send.specs.LinkLines.{StampedFlit, line, passes}
use Rattle.hmc_send.specs.LinkTokens.{flits_begun, flits_accepted}
use Rattle.hmc_send.specs.Places.{is_token}
use Rattle.hmc_send.specs.declared.toward.Toward.{Toward}
use Rattle.hmc_send.specs.declared.toward.Toward.TheVariants.{Forth, Back}
use Rattle.hmc_ends.specs.declared.link_landed.LinkLanded.TheVariants as links
use Rattle.hmc_ends.specs.Answers.{after_call}
use Rattle.hmc_ends.specs.End.{EndFields}
use Rattle.hmc_ends.specs.Landings.{Lands, arrived_packets, stored, landing_in, entry_landed, landed_unless_passed, link_landed, came}
use Rattle.hmc_ends.specs.Parts.{parts_of, parts_crossed, flits_under_way}
use Rattle.hmc_ends.specs.StandsFor.{EndStandsFor, EndsStandFor, flits_on}
use Rattle.hmc_ends.proofs.Arrivals.{accepted-more}
use Rattle.hmc_ends.proofs.Steps.{both-more, both-same}
use Rattle.hmc_ends.proofs.LandStands.{kept-landed, next-landed}
use Rattle.hmc_ends.proofs.Lists.{map-drop, front-longer}
use Rattle.hmc_ends.proofs.PartLaws.{PartLaws, part_laws}
use Rattle.hmc_ends.proofs.Projections.{landed-here}

-- ---- the front of a line

-- the front, with its stamp
pub record Front (link : LinkFields) (d : Toward) (past : List LinkEntry) (flit : List ℕ) : Type 0 where
  pub front : StampedFlit
  pub is : slice_get (line link.profile d past) 0 ≡ Some front
  pub flit_is : front.flit ≡ flit

record FrontOf (l : List StampedFlit) (flit : List ℕ) : Type 0 where
  front : StampedFlit
  is : slice_get l 0 ≡ Some front
  flit_is : front.flit ≡ flit

front-flit : (l : List StampedFlit) (x : List ℕ) → slice_get (flits_on l) 0 ≡ Some x → FrontOf l x
front-flit [] x is = absurd cc
front-flit (y ∷ l) x is = record { front = y; is = refl; flit_is = cc }

no-front : (l : List StampedFlit) → slice_get (flits_on l) 0 ≡ None → slice_get l 0 ≡ None
no-front [] is = refl
no-front (y ∷ l) is = absurd cc

pub front-of : (link : LinkFields) (d : Toward) (past : List LinkEntry) (e : EndFields) (x : List ℕ) → EndStandsFor link e (parts_of link d past) → slice_get e.line 0 ≡ Some x → Front link d past x
unfolding line
front-of link d past e x is front =
    let f = front-flit (flits_under_way (parts_of link d past)) x (ap (λ (l : List (List ℕ)). slice_get l 0) (sym is.line) ∙ front) in
    record { front = f.front; is = f.is; flit_is = f.flit_is }

pub none-of : (link : LinkFields) (d : Toward) (past : List LinkEntry) (e : EndFields) → EndStandsFor link e (parts_of link d past) → slice_get e.line 0 ≡ None → slice_get (line link.profile d past) 0 ≡ None
unfolding line
none-of link d past e is none = no-front (flits_under_way (parts_of link d past)) (ap (λ (l : List (List ℕ)). slice_get l 0) (sym is.line) ∙ none)

-- ---- no flit

drop-none : (l : List (List ℕ)) → slice_get l 0 ≡ None → drop 1 l ≡ l
drop-none [] is = refl
drop-none (x ∷ l) is = absurd cc

pub next-empty : (link : LinkFields) (d : Toward) (past : List LinkEntry) (mask : List ℕ) → slice_get (line link.profile d past) 0 ≡ None → next_entry link past (LinkCall.land d mask) ≡ None
unfolding next_entry
next-empty link d past mask is = ap (landed_front link d past mask) is

pub empty-stands : (link : LinkFields) (d : Toward) (past : List LinkEntry) (mask : List ℕ) (s l s' : EndFields) → EndsStandFor link d s l past → None ≡ slice_get s.line 0 → s' ≡ record s { line = drop 1 s.line } → EndsStandFor link d s' l (after_call link past (LinkCall.land d mask))
empty-stands link d past mask s l s' both none left =
    let same : s' ≡ s = left ∙ (λ i. record s { line = drop-none s.line (sym none) i }) in
    subst (λ (x : EndFields). EndsStandFor link d x l (after_call link past (LinkCall.land d mask))) (sym same)
    (both-same link d past (LinkCall.land d mask) s l (next-empty link d past mask (none-of link d past s both.sending (sym none))) both)

pub empty-answer : (link : LinkFields) (d : Toward) (past : List LinkEntry) (mask : List ℕ) (s : EndFields) → EndStandsFor link s (parts_of link d past) → None ≡ slice_get s.line 0 → links.Empty ≡ link_landed link d past mask (slice_get (line link.profile d past) 0)
empty-answer link d past mask s is none = sym (ap (link_landed link d past mask) (none-of link d past s is (sym none)))

-- ---- a flit lands at the other end

pub lands-of : (link : LinkFields) (d : Toward) (past : List LinkEntry) (mask sent flit : List ℕ) (changed : Bool) (s l : EndFields) → EndsStandFor link d s l past → Some sent ≡ slice_get s.line 0 → flit ≡ under_mask mask sent → changed ≡ changes mask → Lands link (other d) past mask flit changed l
lands-of link Forth past mask sent flit changed s l both front flit_is changed_is =
    let f = front-of link Forth past s sent both.sending (sym front) in
    record { sizes = both.sizes; kept = both.kept; stands = both.landing; front = f.front; is_front = f.is; flit_is = flit_is ∙ ap (under_mask mask) (sym f.flit_is); changed_is = changed_is }
lands-of link Back past mask sent flit changed s l both front flit_is changed_is =
    let f = front-of link Back past s sent both.sending (sym front) in
    record { sizes = both.sizes; kept = both.kept; stands = both.landing; front = f.front; is_front = f.is; flit_is = flit_is ∙ ap (under_mask mask) (sym f.flit_is); changed_is = changed_is }

-- what the end answers
abbrev Answers : (flit : List ℕ) → Bool → EndFields → Option Landed → Type 0
Answers flit changed l result =
    (link : LinkFields) (d : Toward) (past : List LinkEntry) (mask : List ℕ) → Lands link d past mask flit changed l → result ≡ landed_unless_passed (passes link.profile (other d) past mask flit) (landing_in link (other d) past flit)

pub answer-of : (link : LinkFields) (d : Toward) (past : List LinkEntry) (mask flit : List ℕ) (changed : Bool) (l : EndFields) (result : Option Landed) → Answers flit changed l result → Lands link (other d) past mask flit changed l →
    result ≡ landed_unless_passed (passes link.profile d past mask flit) (landing_in link d past flit)
answer-of link Forth past mask flit changed l result answers lands = answers link Back past mask lands
answer-of link Back past mask flit changed l result answers lands = answers link Forth past mask lands

-- and what it then stands for
abbrev Leaves : (flit : List ℕ) → Bool → (l l' : EndFields) → Type 0
Leaves flit changed l l' =
    (link : LinkFields) (d : Toward) (past : List LinkEntry) (mask : List ℕ) → Lands link d past mask flit changed l → passes link.profile (other d) past mask flit ≡ false → EndStandsFor link l' (parts_of link d (entry_landed link (other d) past mask flit ∷ past))

left-of : (link : LinkFields) (d : Toward) (past : List LinkEntry) (mask flit : List ℕ) (changed : Bool) (l l' : EndFields) → Leaves flit changed l l' → Lands link (other d) past mask flit changed l → passes link.profile d past mask flit ≡ false →
    EndStandsFor link l' (parts_of link (other d) (entry_landed link d past mask flit ∷ past))
left-of link Forth past mask flit changed l l' leaves lands caught = leaves link Back past mask lands caught
left-of link Back past mask flit changed l l' leaves lands caught = leaves link Forth past mask lands caught

pub caught-is : (b : Bool) (x y : Landed) → Some x ≡ landed_unless_passed b y → (b ≡ false) × (x ≡ y)
caught-is true x y is = absurd cc
caught-is false x y is = (refl, cc)

pub passed-is : (b : Bool) (y : Landed) → None ≡ landed_unless_passed b y → b ≡ true
passed-is true y is = refl
passed-is false y is = absurd cc

link-is : (link : LinkFields) (d : Toward) (past : List LinkEntry) (mask sent flit : List ℕ) (s : EndFields) → EndStandsFor link s (parts_of link d past) → Some sent ≡ slice_get s.line 0 → flit ≡ under_mask mask sent →
    link_landed link d past mask (slice_get (line link.profile d past) 0) ≡ came (passes link.profile d past mask flit) flit (landing_in link d past flit)
link-is link d past mask sent flit s is front flit_is =
    let f = front-of link d past s sent is (sym front) in
    let same : under_mask mask f.front.flit ≡ flit = ap (under_mask mask) f.flit_is ∙ sym flit_is in
    ap (link_landed link d past mask) f.is ∙ ap (λ (x : List ℕ). came (passes link.profile d past mask x) x (landing_in link d past x)) same

pub passed-answer : (link : LinkFields) (d : Toward) (past : List LinkEntry) (mask sent flit : List ℕ) (changed : Bool) (s l : EndFields) → EndsStandFor link d s l past → Some sent ≡ slice_get s.line 0 → flit ≡ under_mask mask sent → changed ≡ changes mask → Answers flit changed l None →
    links.Passed flit ≡ link_landed link d past mask (slice_get (line link.profile d past) 0)
passed-answer link d past mask sent flit changed s l both front flit_is changed_is answers =
    let lands = lands-of link d past mask sent flit changed s l both front flit_is changed_is in
    let passed = passed-is _ (landing_in link d past flit) (answer-of link d past mask flit changed l None answers lands) in
    sym (link-is link d past mask sent flit s both.sending front flit_is ∙ ap (λ (b : Bool). came b flit (landing_in link d past flit)) passed)

pub came-answer : (link : LinkFields) (d : Toward) (past : List LinkEntry) (mask sent flit : List ℕ) (changed : Bool) (s l : EndFields) (landed : Landed) → EndsStandFor link d s l past → Some sent ≡ slice_get s.line 0 → flit ≡ under_mask mask sent → changed ≡ changes mask → Answers flit changed l (Some landed) →
    links.Came flit landed ≡ link_landed link d past mask (slice_get (line link.profile d past) 0)
came-answer link d past mask sent flit changed s l landed both front flit_is changed_is answers =
    let lands = lands-of link d past mask sent flit changed s l both front flit_is changed_is in
    let caught = caught-is _ landed (landing_in link d past flit) (answer-of link d past mask flit changed l (Some landed) answers lands) in
    sym (link-is link d past mask sent flit s both.sending front flit_is ∙ (λ i. came (caught.0 i) flit (sym caught.1 i)))

-- ---- the end that sent it

arrived-more : (link : LinkFields) (d : Toward) (past : List LinkEntry) (flit : List ℕ) → flits_accepted (accepted link.profile (Land flit (reception_of link.profile (receiver_entries d past) flit).outcome ∷ receiver_entries d past)) ≡ flits_accepted (accepted link.profile (receiver_entries d past)) + packets.flits_in (stored (landing_in link d past flit))
arrived-more link d past flit =
    let old = accepted link.profile (receiver_entries d past) in
    ap flits_accepted (accepted-more link.profile (receiver_entries d past) flit) ∙ ap packets.flits_in (filter-append is_token old (arrived_packets (landing_in link d past flit))) ∙ sum_by-append flits_of (filter is_token old) (stored (landing_in link d past flit))

transit-room : (b a x : ℕ) → a + x ≤ b → x ≤ b - a
transit-room b a x le = omega arith

pub transit-few : (link : LinkFields) (d : Toward) (past : List LinkEntry) (mask sent flit : List ℕ) (changed : Bool) (s l : EndFields) (landed : Landed) → EndsStandFor link d s l past → Some sent ≡ slice_get s.line 0 → flit ≡ under_mask mask sent → changed ≡ changes mask → Answers flit changed l (Some landed) →
    packets.flits_in (stored landed) ≤ s.transit
transit-few link d past mask sent flit changed s l landed both front flit_is changed_is answers =
    let lands = lands-of link d past mask sent flit changed s l both front flit_is changed_is in
    let caught = caught-is _ landed (landing_in link d past flit) (answer-of link d past mask flit changed l (Some landed) answers lands) in
    let f = front-of link d past s sent both.sending (sym front) in
    let kept = kept-landed link d past mask flit f.front both.kept f.is (flit_is ∙ ap (under_mask mask) (sym f.flit_is)) caught.0 in
    let o = (reception_of link.profile (receiver_entries d past) flit).outcome in
    let laws = subst (PartLaws link) (landed-here link d mask flit o past) (part_laws link d (entry_landed link d past mask flit ∷ past) kept) in
    let L = landing_in link d past flit in
    let begun = flits_begun (places link.profile (parts_of link d past).sender) in
    let some : flits_accepted (accepted link.profile (receiver_entries d past)) + packets.flits_in (stored L) ≤ begun = subst (λ (n : ℕ). n ≤ begun) (arrived-more link d past flit) laws.transit in
    let room = transit-room begun (flits_accepted (accepted link.profile (receiver_entries d past))) (packets.flits_in (stored L)) some in
    subst (λ (x : Landed). packets.flits_in (stored x) ≤ s.transit) (sym caught.1) (subst (λ (n : ℕ). packets.flits_in (stored L) ≤ n) (sym both.sending.transit) room)

stands-crossed : (link : LinkFields) (d : Toward) (past : List LinkEntry) (flit : List ℕ) (s : EndFields) (front : StampedFlit) → EndStandsFor link s (parts_of link d past) → slice_get (flits_under_way (parts_of link d past)) 0 ≡ Some front →
    EndStandsFor link (record s { line = drop 1 s.line; transit = s.transit - packets.flits_in (stored (landing_in link d past flit)) }) (parts_crossed flit (reception_of link.profile (receiver_entries d past) flit).outcome (parts_of link d past))
stands-crossed link d past flit s front is some =
    let p = parts_of link d past in
    let L = landing_in link d past flit in
    let begun = flits_begun (places link.profile p.sender) in
    let old = flits_accepted (accepted link.profile p.landed) in
    record {
      setup = is.setup;
      own = is.own;
      profile = is.profile;
      retry = is.retry;
      sender = is.sender;
      queue = is.queue;
      line = ap (drop 1) is.line ∙ sym (map-drop (λ (x : StampedFlit). x.flit) 1 (flits_under_way p)) ∙ ap flits_on (sym (drop-one_more p.landings p.flits));
      transit = ap (λ (n : ℕ). n - packets.flits_in (stored L)) is.transit ∙ sym (sub-add-eq begun old (packets.flits_in (stored L))) ∙ ap (λ (n : ℕ). begun - n) (sym (arrived-more link d past flit));
      receiver = is.receiver;
      changed = is.changed;
      buffer = is.buffer;
      held = is.held;
      due = is.due;
      begun = is.begun;
      crossed = (let lt = front-longer p.landings p.flits front some in omega arith);
      taken = is.taken;
    }

line-front : (link : LinkFields) (d : Toward) (past : List LinkEntry) (front : StampedFlit) → slice_get (line link.profile d past) 0 ≡ Some front → slice_get (flits_under_way (parts_of link d past)) 0 ≡ Some front
unfolding line
line-front link d past front is = is

pub came-stands : (link : LinkFields) (d : Toward) (past : List LinkEntry) (mask sent flit : List ℕ) (changed : Bool) (s l s1 s' l' : EndFields) (landed : Landed) → EndsStandFor link d s l past → Some sent ≡ slice_get s.line 0 → flit ≡ under_mask mask sent → changed ≡ changes mask → Answers flit changed l (Some landed) → Leaves flit changed l l' →
    s1 ≡ record s { line = drop 1 s.line } → s' ≡ record s1 { transit = s1.transit - packets.flits_in (stored landed) } → EndsStandFor link d s' l' (after_call link past (LinkCall.land d mask))
came-stands link d past mask sent flit changed s l s1 s' l' landed both front flit_is changed_is answers leaves taken left =
    let lands = lands-of link d past mask sent flit changed s l both front flit_is changed_is in
    let caught = caught-is _ landed (landing_in link d past flit) (answer-of link d past mask flit changed l (Some landed) answers lands) in
    let f = front-of link d past s sent both.sending (sym front) in
    let at : flit ≡ under_mask mask f.front.flit = flit_is ∙ ap (under_mask mask) (sym f.flit_is) in
    let o = (reception_of link.profile (receiver_entries d past) flit).outcome in
    let L = landing_in link d past flit in
    let s_is : s' ≡ record s { line = drop 1 s.line; transit = s.transit - packets.flits_in (stored L) } =
    left ∙ (λ i. record (taken i) { transit = (taken i).transit - packets.flits_in (stored (caught.1 i)) }) in
    both-more link d past (LinkCall.land d mask) (entry_landed link d past mask flit) s' l' (next-landed link d past mask flit f.front f.is at caught.0) (record {
      sizes = both.sizes;
      kept = kept-landed link d past mask flit f.front both.kept f.is at caught.0;
      sending = subst (λ (x : EndFields). EndStandsFor link x (parts_of link d (entry_landed link d past mask flit ∷ past))) (sym s_is)
          (subst (EndStandsFor link (record s { line = drop 1 s.line; transit = s.transit - packets.flits_in (stored L) })) (sym (landed-here link d mask flit o past)) (stands-crossed link d past flit s f.front both.sending (line-front link d past f.front f.is)));
      landing = left-of link d past mask flit changed l l' leaves lands caught.0;
    })

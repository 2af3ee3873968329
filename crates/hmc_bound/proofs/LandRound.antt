-- A landing of a flit that isn't changed is a landing of hmc_link_state's rounds.
use Rattle.std.proofs.Common.{◌≡◌, ◌∙◌, ◌-◌, ℕ, Bool, true, false, List, ◌∷◌, refl, sym, ap, subst}
use Rattle.std.specs.Prelude.{if◌then◌else◌, is_some}
use Rattle.hmc_codes.specs.Link.{LinkFields}
use Rattle.hmc_packet.specs.declared.outcome.Outcome.{Outcome}
use Rattle.hmc_packet.specs.Irtry.{irtry_in}
use Rattle.hmc_packet.specs.Landings.{training}
use Rattle.hmc_packet.specs.Receptions.{reception_of}
use Rattle.hmc_send.specs.declared.toward.Toward.{Toward}
use Rattle.hmc_send.specs.declared.toward.Toward.TheVariants.{Forth, Back}
use Rattle.hmc_send.specs.LinkEntries.{LinkEntry, LinkEntry as entry, receiver_entries, handed_packets, takes}
use Rattle.hmc_packet.specs.Masks.{changes}
use Rattle.hmc_send.specs.LinkLines.{sent_flits, landings, line, is_pending_changed, passes}
use Rattle.hmc_send.specs.LinkSenders.{sender_entries}
use Rattle.hmc_send.proofs.LinkLawful.{lawful-landed}
use Rattle.hmc_numbers.specs.Direction.{Reached, Reached as far, Item}
use Rattle.hmc_numbers.specs.Events.{Reading, Event, happens}
use Rattle.hmc_numbers.specs.Pair.{Half, Move as moves, event_at, own_after, other_after}
use Rattle.hmc_numbers.specs.Turns.{MayMove}
use Rattle.hmc_wire.specs.EntryTurns.{reading_of, turns_of, counted_move, landed_event}
use Rattle.hmc_wire.specs.FieldsAre.{half_after}
use Rattle.hmc_wire.specs.LinkLaws.{IsKept}
use Rattle.hmc_wire.proofs.EntryTurns.{kept-before, turns-may}
use Rattle.hmc_wire.proofs.Steps.{landings_on}
use Rattle.hmc_wire.proofs.Ways.{lists_in}
use Rattle.hmc_link_state.specs.Landing.{land, took}
use Rattle.hmc_link_state.specs.Round.{Reads, front, event_at_far, event_here, is_counted_at, is_ran_start_at, steady_after, costs_next, landed_own, landed_other}
use Rattle.hmc_link_state.specs.State.{Side, wire}
use Rattle.hmc_link_state.specs.Steps.{link_after}
use Rattle.hmc_link_state.proofs.CleanLandings.{buffer_after}
use Rattle.hmc_link_state.proofs.Keeps.{Both}
use Rattle.hmc_steps.specs.Doings.{is_ran_start}
use Rattle.hmc_steps.specs.SideIn.{setup_of, side_in, ack_sent_in, missing_in, buffer_flits}
use Rattle.hmc_steps.proofs.Landed.{event_in, is-landing}
use Rattle.hmc_steps.proofs.Settled.{event-lands}
use Rattle.hmc_steps.proofs.SideIs.{side-is}
use Rattle.hmc_steps.proofs.StepsAre.{side-facts, steps-are}
use Rattle.hmc_steps.proofs.Wired.{wired, side_with}
use Rattle.hmc_rounds.specs.LinkPart.{IsPlain}
use Rattle.hmc_rounds.proofs.Alone.{plain_before}
use Rattle.hmc_bound.specs.Regular.{steady_for, missing_for, regulars}
use Rattle.hmc_bound.proofs.CleanLists.{sums-of, After, Clean, clean-lists}
use Rattle.hmc_bound.proofs.Near.{with_counts, Near}
use Rattle.hmc_bound.proofs.Part.{whole-of, plain}
use Rattle.hmc_bound.proofs.Trains.{line-trains}

-- ---- by numbers

-- what is known of a landing
pub record IsClean (x : Side) (look : Reading) (e : Event) (counted ran : Bool) (st ms : ℕ)
    (bf : List ℕ) : Type 0 where
  pub reads : Reads (front x) look
  pub event : e ≡ event_here x look
  pub counted_is : counted ≡ is_counted_at x (wire x).far e
  pub ran_is : ran ≡ is_ran_start_at x (wire x).far look
  pub steady : (happens (wire x) e).far ≡ far.training → ((wire x).far ≡ far.training)
      × (st ≡ steady_after x look)
  pub lacks : (happens (wire x) e).far ≡ far.spoilt → ((wire x).far ≡ far.spoilt)
      × (ms ≡ x.missing - 1)
  pub buffer : bf ≡ buffer_after x (costs_next x) e

here_by : (x : Side) (a b : ℕ) (look : Reading) (i : Item) (r : Reached) →
    (r ≡ far.training → a ≡ x.steady) → (r ≡ far.spoilt → b ≡ x.missing) →
    event_at_far (with_counts x a b) look i r ≡ event_at_far x look i r
here_by x a b look i far.training s m =
    ap (λ (n : ℕ). event_at_far (with_counts x n b) look i far.training) (s refl)
here_by x a b look i far.spoilt s m =
    ap (λ (n : ℕ). event_at_far (with_counts x a n) look i far.spoilt) (m refl)
here_by x a b look i far.aborting s m = refl
here_by x a b look i far.between s m = refl
here_by x a b look i (far.inside n k) s m = refl

here_near : (x : Side) (a b : ℕ) (look : Reading) → ((wire x).far ≡ far.training → a ≡ x.steady) →
    ((wire x).far ≡ far.spoilt → b ≡ x.missing) →
    event_here (with_counts x a b) look ≡ event_here x look
here_near x a b look s m = here_by x a b look (front x) (wire x).far s m

steady_is : (r : Reached) (k n : ℕ) → (r ≡ far.training → k ≡ n) → steady_for r k n ≡ n
steady_is far.training k n h = h refl
steady_is far.aborting k n h = refl
steady_is far.between k n h = refl
steady_is (far.inside i j) k n h = refl
steady_is far.spoilt k n h = refl

missing_is : (r : Reached) (k n : ℕ) → (r ≡ far.spoilt → k ≡ n) → missing_for r k n ≡ n
missing_is far.training k n h = refl
missing_is far.aborting k n h = refl
missing_is far.between k n h = refl
missing_is (far.inside i j) k n h = refl
missing_is far.spoilt k n h = h refl

half_is : (h : Half) (b : Bool) (e : Event) →
    event_at h 0 e ≡ own_after h 0 (if b then moves.counts e else moves.does e)
half_is h true e = refl
half_is h false e = refl

-- both sides are those of a round's landing
pub record Lands (x y x' y' : Side) (look : Reading) : Type 0 where
  pub reads : Reads (front x) look
  pub own : x' ≡ landed_own x (costs_next x) look
  pub other_is : y' ≡ landed_other x y look

by_counts : (x y : Side) (a b : ℕ) (look : Reading) (e : Event) (counted ran : Bool) (st ms : ℕ)
    (bf : List ℕ) → ((wire x).far ≡ far.training → a ≡ x.steady) →
    ((wire x).far ≡ far.spoilt → b ≡ x.missing) → IsClean x look e counted ran st ms bf →
    let z = with_counts x a b in
    let r = (happens (wire x) e).far in
    Lands z y (land z e (steady_for r st (steady_after z look)) (missing_for r ms (b - 1)) bf)
    (took z y e counted ran) look
by_counts x y a b look e counted ran st ms bf s m is =
    let z = with_counts x a b in
    let r = (happens (wire x) e).far in
    let event : e ≡ event_here z look = is.event ∙ sym (here_near x a b look s m) in
    let counts : counted ≡ is_counted_at z (wire z).far (event_here z look) =
    is.counted_is ∙ ap (λ (v : Event). is_counted_at x (wire x).far v) event in
    let steady : steady_for r st (steady_after z look) ≡ steady_after z look =
    steady_is r st (steady_after z look) (λ t. (is.steady t).1
    ∙ ap (λ (n : ℕ). steady_after (with_counts x n b) look) (sym (s (is.steady t).0))) in
    let missing : missing_for r ms (b - 1) ≡ b - 1 =
    missing_is r ms (b - 1) (λ t. (is.lacks t).1
    ∙ ap (λ (n : ℕ). n - 1) (sym (m (is.lacks t).0))) in
    record {
      reads = is.reads;
      own = λ i. record z {
        half =
            (half_is x.half counted e
            ∙ (λ j. own_after x.half 0 (if counts j then moves.counts (event j)
            else moves.does (event j)))) i;
        steady = steady i;
        missing = missing i;
        buffer = (is.buffer ∙ ap (λ (v : Event). buffer_after x (costs_next x) v) event) i;
      };
      other_is = λ i. record y {
        half =
            other_after x.half y.half (if counts i then moves.counts (event i)
            else moves.does (event i));
        go_back = if is.ran_is i then true else y.go_back;
        is_open = if is.ran_is i then true else y.is_open;
      };
    }

pub lands-near : (x x' y : Side) (look : Reading) (e : Event) (counted ran : Bool) (st ms : ℕ)
    (bf : List ℕ) → Near x x' → IsClean x look e counted ran st ms bf →
    Lands x' y (land x' e (steady_for (happens (wire x') e).far st (steady_after x' look))
    (missing_for (happens (wire x') e).far ms (x'.missing - 1)) bf) (took x' y e counted ran) look
lands-near x x' y look e counted ran st ms bf n is =
    subst (λ (z : Side).
    Lands z y
    (land z e (steady_for (happens (wire z) e).far st (steady_after z look))
    (missing_for (happens (wire z) e).far ms (z.missing - 1)) bf) (took z y e counted ran)
    look) (sym n.same)
    (by_counts x y x'.steady x'.missing look e counted ran st ms bf n.steady n.missing is)

-- ---- the lists

abbrev CleanAt : LinkFields → Toward → List LinkEntry → (mask flit : List ℕ) → Outcome → Type 0
CleanAt link d past mask flit o =
    IsClean (side_in link d past) (reading_of (irtry_in link.profile flit))
    (landed_event link d past mask flit o)
    (is_some (reception_of link.profile (receiver_entries d past) flit).rrp) (is_ran_start o)
    (training link.profile (receiver_entries d (entry.landed d mask flit o ∷ past)))
    (missing_in d (entry.landed d mask flit o ∷ past))
    (buffer_flits link.profile d (entry.landed d mask flit o ∷ past))

clean_forth : (link : LinkFields) (past : List LinkEntry) (mask flit : List ℕ) (o : Outcome) →
    IsKept link (entry.landed Forth mask flit o ∷ past) → changes mask ≡ false →
    Both (setup_of link) (side_in link Forth past) (side_in link Back past) →
    CleanAt link Forth past mask flit o
unfolding sender_entries receiver_entries sent_flits landings landings_on takes handed_packets is_pending_changed turns_of ack_sent_in missing_in line passes
clean_forth link past mask flit o kept ce f =
    let q = link.profile in
    let e = entry.landed Forth mask flit o in
    let before = kept-before link e past kept in
    let x = wired link Forth past before in
    let y = wired link Forth (e ∷ past) kept in
    let mine = lists_in link Forth past in
    let is = lawful-landed link past Forth mask flit o kept.lawful in
    let own = side_with q (half_after link Forth past) x.flits x.received in
    let oth = side_with q (half_after link Back past) x.other_flits x.other_received in
    let event : event_in q mine (changes mask) flit o ≡ event_in q mine false flit o =
    ap (λ (c : Bool). event_in q mine c flit o) ce in
    let rrp = (reception_of q mine.receiver flit).rrp in
    let after : After q mine flit o
    (own_after own.half oth.half.direction.accepted
    (counted_move rrp (event_in q mine (changes mask) flit o))).direction = record {
      sums =
          sums-of q link.retry link.tokens (lists_in link Forth (e ∷ past)) y.s
          (side_with q (half_after link Forth (e ∷ past)) y.flits y.received)
          (side_with q (half_after link Back (e ∷ past)) y.other_flits y.other_received) y.way
          y.linked y.agree;
      begun_is = y.linked.joined.order.accepted;
    } in
    let found : Clean q mine (side_in link Forth past) flit o (event_in q mine false flit o) =
    clean-lists q link.line link.retry link.tokens mine (lists_in link Back past) x.s own oth
    (ack_sent_in link Forth past) (ack_sent_in link Back past) (missing_in Forth past)
    (missing_in Back past) mask flit o is.front kept.retry x.way x.linked
    (record {
      is_front = is.is_front;
      flit_is = is.flit_is;
      outcome_is = is.outcome_is;
      caught =
          is.caught;
    }) ce f.0 f.1 (line-trains link Forth past before)
    (side-is link Forth past before).lacks
    (subst (λ (v : Event). MayMove link.retry link.tokens own.half oth.half (counted_move rrp v))
    event (turns-may link (e ∷ past) kept).0)
    (sums-of q link.retry link.tokens mine x.s own oth x.way x.linked x.agree)
    (subst (λ (v : Event). After q mine flit o
    (own_after own.half oth.half.direction.accepted (counted_move rrp v)).direction) event after)
    (is-landing (event_in q mine false flit o) (event-lands _ mine.changed false _ o)) in
    subst (λ (v : Event). IsClean (side_in link Forth past) (reading_of (irtry_in q flit)) v
    (is_some rrp) (is_ran_start o) (training q (receiver_entries Forth (e ∷ past)))
    (missing_in Forth (e ∷ past)) (buffer_flits q Forth (e ∷ past))) (sym event)
    (record {
      reads = found.reads;
      event = found.event;
      counted_is = found.counted_is;
      ran_is = found.ran_is;
      steady = found.steady;
      lacks = found.lacks;
      buffer = found.buffer;
    })

clean_back : (link : LinkFields) (past : List LinkEntry) (mask flit : List ℕ) (o : Outcome) →
    IsKept link (entry.landed Back mask flit o ∷ past) → changes mask ≡ false →
    Both (setup_of link) (side_in link Back past) (side_in link Forth past) →
    CleanAt link Back past mask flit o
unfolding sender_entries receiver_entries sent_flits landings landings_on takes handed_packets is_pending_changed turns_of ack_sent_in missing_in line passes
clean_back link past mask flit o kept ce f =
    let q = link.profile in
    let e = entry.landed Back mask flit o in
    let before = kept-before link e past kept in
    let x = wired link Back past before in
    let y = wired link Back (e ∷ past) kept in
    let mine = lists_in link Back past in
    let is = lawful-landed link past Back mask flit o kept.lawful in
    let own = side_with q (half_after link Back past) x.flits x.received in
    let oth = side_with q (half_after link Forth past) x.other_flits x.other_received in
    let event : event_in q mine (changes mask) flit o ≡ event_in q mine false flit o =
    ap (λ (c : Bool). event_in q mine c flit o) ce in
    let rrp = (reception_of q mine.receiver flit).rrp in
    let after : After q mine flit o
    (own_after own.half oth.half.direction.accepted
    (counted_move rrp (event_in q mine (changes mask) flit o))).direction = record {
      sums =
          sums-of q link.retry link.tokens (lists_in link Back (e ∷ past)) y.s
          (side_with q (half_after link Back (e ∷ past)) y.flits y.received)
          (side_with q (half_after link Forth (e ∷ past)) y.other_flits y.other_received) y.way
          y.linked y.agree;
      begun_is = y.linked.joined.order.accepted;
    } in
    let found : Clean q mine (side_in link Back past) flit o (event_in q mine false flit o) =
    clean-lists q link.line link.retry link.tokens mine (lists_in link Forth past) x.s own oth
    (ack_sent_in link Back past) (ack_sent_in link Forth past) (missing_in Back past)
    (missing_in Forth past) mask flit o is.front kept.retry x.way x.linked
    (record {
      is_front = is.is_front;
      flit_is = is.flit_is;
      outcome_is = is.outcome_is;
      caught =
          is.caught;
    }) ce f.0 f.1 (line-trains link Back past before)
    (side-is link Back past before).lacks
    (subst (λ (v : Event). MayMove link.retry link.tokens own.half oth.half (counted_move rrp v))
    event (turns-may link (e ∷ past) kept).0)
    (sums-of q link.retry link.tokens mine x.s own oth x.way x.linked x.agree)
    (subst (λ (v : Event). After q mine flit o
    (own_after own.half oth.half.direction.accepted (counted_move rrp v)).direction) event after)
    (is-landing (event_in q mine false flit o) (event-lands _ mine.changed false _ o)) in
    subst (λ (v : Event). IsClean (side_in link Back past) (reading_of (irtry_in q flit)) v
    (is_some rrp) (is_ran_start o) (training q (receiver_entries Back (e ∷ past)))
    (missing_in Back (e ∷ past)) (buffer_flits q Back (e ∷ past))) (sym event)
    (record {
      reads = found.reads;
      event = found.event;
      counted_is = found.counted_is;
      ran_is = found.ran_is;
      steady = found.steady;
      lacks = found.lacks;
      buffer = found.buffer;
    })

-- ---- the sides

pub land-forth : (link : LinkFields) (past : List LinkEntry) (mask flit : List ℕ) (o : Outcome) →
    IsPlain link (entry.landed Forth mask flit o ∷ past) → changes mask ≡ false →
    let l = link_after (setup_of link) (regulars link past) in
    let k = link_after (setup_of link) (regulars link (entry.landed Forth mask flit o ∷ past)) in
    Lands l.forth l.back k.forth k.back (reading_of (irtry_in link.profile flit))
unfolding regulars
land-forth link past mask flit o is ce =
    let e = entry.landed Forth mask flit o in
    let before = plain_before link e past is in
    let near = (plain link past before).near Forth in
    let both =
    side-facts link past before.kept
    (steps-are link past before.kept (whole-of past before.alone)) in
    let l = link_after (setup_of link) (regulars link past) in
    lands-near (side_in link Forth past) l.forth l.back (reading_of (irtry_in link.profile flit))
    (landed_event link Forth past mask flit o)
    (is_some (reception_of link.profile (receiver_entries Forth past) flit).rrp) (is_ran_start o)
    (training link.profile (receiver_entries Forth (e ∷ past))) (missing_in Forth (e ∷ past))
    (buffer_flits link.profile Forth (e ∷ past)) near
    (clean_forth link past mask flit o is.kept ce both)

pub land-back : (link : LinkFields) (past : List LinkEntry) (mask flit : List ℕ) (o : Outcome) →
    IsPlain link (entry.landed Back mask flit o ∷ past) → changes mask ≡ false →
    let l = link_after (setup_of link) (regulars link past) in
    let k = link_after (setup_of link) (regulars link (entry.landed Back mask flit o ∷ past)) in
    Lands l.back l.forth k.back k.forth (reading_of (irtry_in link.profile flit))
unfolding regulars
land-back link past mask flit o is ce =
    let e = entry.landed Back mask flit o in
    let before = plain_before link e past is in
    let near = (plain link past before).near Back in
    let both =
    side-facts link past before.kept
    (steps-are link past before.kept (whole-of past before.alone)) in
    let l = link_after (setup_of link) (regulars link past) in
    lands-near (side_in link Back past) l.back l.forth (reading_of (irtry_in link.profile flit))
    (landed_event link Back past mask flit o)
    (is_some (reception_of link.profile (receiver_entries Back past) flit).rrp) (is_ran_start o)
    (training link.profile (receiver_entries Back (e ∷ past))) (missing_in Back (e ∷ past))
    (buffer_flits link.profile Back (e ∷ past)) near
    (clean_back link past mask flit o is.kept ce (both.1, both.0))

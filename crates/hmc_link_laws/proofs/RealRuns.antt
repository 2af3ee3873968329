-- A landing that lengthens a run to 17 or more is of a flit that was sent as such an IRTRY, and the
-- receiver by numbers is that of the list.
use Rattle.std.proofs.Common.{◌≡◌, ◌∙◌, ◌≤◌, ℕ, zero, suc, Bool, List, [], ◌∷◌, length, Option, Some, None, refl, sym, ap, subst, arith, length-append}
use Rattle.std.specs.Prelude.{◌||◌, slice_get}
use Rattle.hmc_codes.specs.Link.{LinkFields}
use Rattle.hmc_packet.specs.declared.kind.Kind.{Kind}
use Rattle.hmc_packet.specs.declared.kind.Kind.TheVariants as kinds
use Rattle.hmc_packet.specs.declared.outcome.Outcome.{Outcome}
use Rattle.hmc_packet.specs.declared.view.Mode as outer_mode
use Rattle.hmc_packet.specs.declared.view.Mode.TheVariants.{Train, Abort, Good}
use Rattle.hmc_packet.specs.declared.what.What.{What}
use Rattle.hmc_packet.specs.declared.what.What.TheVariants as what
use Rattle.hmc_packet.specs.Irtry.{irtry_in}
use Rattle.hmc_packet.specs.Landings as receipts
use Rattle.hmc_packet.specs.Masks.{changes}
use Rattle.hmc_packet.specs.Receptions.{reception_of}
use Rattle.hmc_numbers.specs.Direction.{Direction, Item, Reached, Reached as far, front_or}
use Rattle.hmc_numbers.specs.Direction.{Filler as fillers}
use Rattle.hmc_numbers.specs.Direction.Item.{filler, clear}
use Rattle.hmc_numbers.specs.DirectionLaws.{DirectionLaws}
use Rattle.hmc_numbers.specs.Events.{Event, Reading, happens}
use Rattle.hmc_numbers.specs.Events.Event.{rests, sends_filler, sends_clear, begins, begins_through, begins_again, goes_on, acknowledges, drops, trains, opens, passes, gathers, accepts, repeats, spoils, breaks, unlocks}
use Rattle.hmc_numbers.specs.Events.Reading.{plain, as_start, as_clear}
use Rattle.hmc_numbers.specs.May.{CanReadAs, IsSome, IsNoPart}
use Rattle.hmc_numbers.specs.Pair.{Half, Pair, Way as ways, way, own_after, pair_after}
use Rattle.hmc_numbers.specs.Turns.{MayHere, MayMove}
use Rattle.hmc_numbers.proofs.PairLaws.{pair_laws}
use Rattle.hmc_send.specs.LinkEntries.{LinkEntry, LinkEntry as entry, receiver_entries}
use Rattle.hmc_send.specs.LinkLines.{is_pending_changed}
use Rattle.hmc_send.specs.LinkSenders.{sender_entries}
use Rattle.hmc_send.specs.declared.toward.Toward.{Toward}
use Rattle.hmc_send.specs.declared.toward.Toward.TheVariants.{Forth, Back}
use Rattle.hmc_wire.specs.EntryTurns.{landed_event, counted_move, reading_of, turns_of}
use Rattle.hmc_wire.specs.FieldsAre.{half_on, half_after}
use Rattle.hmc_wire.specs.LinkLaws.{IsKept}
use Rattle.hmc_wire.proofs.ActionLaw.{Linked, both_linked}
use Rattle.hmc_wire.proofs.Actions.{SideOf, link_after}
use Rattle.hmc_wire.proofs.EntryTurns.{kept-before, turns-may, turns-same, fields-are}
use Rattle.hmc_wire.proofs.GrammarLandings as inner
use Rattle.hmc_wire.proofs.GrammarLandings.{Mode as modes}
use Rattle.hmc_wire.proofs.Joins.{WayAt}
use Rattle.hmc_wire.proofs.Matches.{IsAt}
use Rattle.hmc_wire.proofs.PacketGrammar.{grammar}
use Rattle.hmc_wire.proofs.Spelled.{Sent, fronts}
use Rattle.hmc_wire.proofs.Steps.{sent_of, steps_of, turns_by, step_turns}
use Rattle.hmc_wire.proofs.Turns.{pair-after, own-joins}
use Rattle.hmc_wire.proofs.Words.{mode_as}
use Rattle.hmc_numbers.specs.Weights.{Weight}
use Rattle.hmc_codes.specs.declared.profile.Profile.{Profile}
use Rattle.hmc_link_laws.specs.Lines.{line_as, irtry_as, IsItem, AreItems, IsReached, LineIs}
use Rattle.hmc_link_laws.proofs.Items.{event-lands, items-are}

-- ---- by numbers

-- the front of the line can read as this, after so many in a row that did
record Lengthens (w : Direction) (reading : Reading) (before : ℕ) : Type 0 where
  reads : CanReadAs (front_or w.before w.line) reading
  some : IsSome w.line
  long : 16 ≤ before

some-no_part : (l : List Item) → IsNoPart l → IsSome l
some-no_part [] is = is
some-no_part (x ∷ l) is = tt

lengthens-clear : (r adv : ℕ) (own other : Half) (e : Event) → MayHere r adv own other e → way e ≡ ways.lands → 17 ≤ (happens own.direction e).clear_run → Lengthens own.direction as_clear own.direction.clear_run
lengthens-clear r adv own other (drops plain) may lands long = absurd (omega arith)
lengthens-clear r adv own other (drops as_start) may lands long = absurd (omega arith)
lengthens-clear r adv own other (drops as_clear) may lands long = record { reads = may.2; some = may.1; long = omega arith }
lengthens-clear r adv own other opens may lands long = record { reads = may.2; some = may.1; long = omega arith }
lengthens-clear r adv own other (passes plain) may lands long = absurd (omega arith)
lengthens-clear r adv own other (passes as_start) may lands long = absurd (omega arith)
lengthens-clear r adv own other (passes as_clear) may lands long = record { reads = may.2; some = some-no_part own.direction.line may.1; long = omega arith }
lengthens-clear r adv own other trains may lands long = absurd (omega arith)
lengthens-clear r adv own other gathers may lands long = absurd (omega arith)
lengthens-clear r adv own other accepts may lands long = absurd (omega arith)
lengthens-clear r adv own other repeats may lands long = absurd (omega arith)
lengthens-clear r adv own other (spoils c) may lands long = absurd (omega arith)
lengthens-clear r adv own other (breaks c) may lands long = absurd (omega arith)
lengthens-clear r adv own other rests may lands long = absurd (cc lands)
lengthens-clear r adv own other (sends_filler f) may lands long = absurd (cc lands)
lengthens-clear r adv own other sends_clear may lands long = absurd (cc lands)
lengthens-clear r adv own other (begins s) may lands long = absurd (cc lands)
lengthens-clear r adv own other (begins_through s) may lands long = absurd (cc lands)
lengthens-clear r adv own other begins_again may lands long = absurd (cc lands)
lengthens-clear r adv own other goes_on may lands long = absurd (cc lands)
lengthens-clear r adv own other (acknowledges n) may lands long = absurd (cc lands)
lengthens-clear r adv own other unlocks may lands long = absurd (cc lands)

lengthens-start : (r adv : ℕ) (own other : Half) (e : Event) → MayHere r adv own other e → way e ≡ ways.lands → 17 ≤ (happens own.direction e).start_run → Lengthens own.direction as_start own.direction.start_run
lengthens-start r adv own other (drops plain) may lands long = absurd (omega arith)
lengthens-start r adv own other (drops as_start) may lands long = record { reads = may.2; some = may.1; long = omega arith }
lengthens-start r adv own other (drops as_clear) may lands long = absurd (omega arith)
lengthens-start r adv own other opens may lands long = absurd (omega arith)
lengthens-start r adv own other (passes plain) may lands long = absurd (omega arith)
lengthens-start r adv own other (passes as_start) may lands long = record { reads = may.2; some = some-no_part own.direction.line may.1; long = omega arith }
lengthens-start r adv own other (passes as_clear) may lands long = absurd (omega arith)
lengthens-start r adv own other trains may lands long = absurd (omega arith)
lengthens-start r adv own other gathers may lands long = absurd (omega arith)
lengthens-start r adv own other accepts may lands long = absurd (omega arith)
lengthens-start r adv own other repeats may lands long = absurd (omega arith)
lengthens-start r adv own other (spoils c) may lands long = absurd (omega arith)
lengthens-start r adv own other (breaks c) may lands long = absurd (omega arith)
lengthens-start r adv own other rests may lands long = absurd (cc lands)
lengthens-start r adv own other (sends_filler f) may lands long = absurd (cc lands)
lengthens-start r adv own other sends_clear may lands long = absurd (cc lands)
lengthens-start r adv own other (begins s) may lands long = absurd (cc lands)
lengthens-start r adv own other (begins_through s) may lands long = absurd (cc lands)
lengthens-start r adv own other begins_again may lands long = absurd (cc lands)
lengthens-start r adv own other goes_on may lands long = absurd (cc lands)
lengthens-start r adv own other (acknowledges n) may lands long = absurd (cc lands)
lengthens-start r adv own other unlocks may lands long = absurd (cc lands)

-- the front was sent so
front-clear : (q : Profile) (r : ℕ) (w : Direction) (before : Item) (l : List Item) (ws : List What) → w.line ≡ l → before ≡ w.before → DirectionLaws q r w → CanReadAs (front_or before l) as_clear → IsSome l → 16 ≤ w.clear_run → AreItems l ws → slice_get ws 0 ≡ Some what.Clear
front-clear q r w before [] ws line same laws reads some long all = absurd some
front-clear q r w before (x ∷ l) [] line same laws reads some long all = absurd all
front-clear q r w before (x ∷ l) (v ∷ ws) line same laws reads some long all = ap (λ (y : What). Some y) (clear-as v (subst (λ (y : Item). IsItem y v) (laws.clears x l line reads long) all.0))
  where
    clear-as : (v : What) → IsItem clear v → v ≡ what.Clear
    clear-as what.Clear is = refl
    clear-as what.Train is = absurd is
    clear-as what.Start is = absurd is
    clear-as what.Null is = absurd is
    clear-as what.Pret is = absurd is
    clear-as what.Tret is = absurd is
    clear-as what.New is = absurd is
    clear-as what.Again is = absurd is

front-start : (q : Profile) (r : ℕ) (w : Direction) (before : Item) (l : List Item) (ws : List What) → w.line ≡ l → before ≡ w.before → DirectionLaws q r w → CanReadAs (front_or before l) as_start → IsSome l → 16 ≤ w.start_run → AreItems l ws → slice_get ws 0 ≡ Some what.Start
front-start q r w before [] ws line same laws reads some long all = absurd some
front-start q r w before (x ∷ l) [] line same laws reads some long all = absurd all
front-start q r w before (x ∷ l) (v ∷ ws) line same laws reads some long all = ap (λ (y : What). Some y) (start-as v (subst (λ (y : Item). IsItem y v) (laws.starts x l line reads long) all.0))
  where
    start-as : (v : What) → IsItem (filler fillers.start) v → v ≡ what.Start
    start-as what.Start is = refl
    start-as what.Train is = absurd is
    start-as what.Clear is = absurd is
    start-as what.Null is = absurd is
    start-as what.Pret is = absurd is
    start-as what.Tret is = absurd is
    start-as what.New is = absurd is
    start-as what.Again is = absurd is

-- whether the pointer is counted or not
here-of : (r adv : ℕ) (own other : Half) (o : Option ℕ) (e : Event) → MayMove r adv own other (counted_move o e) → MayHere r adv own other e
here-of r adv own other None e may = may
here-of r adv own other (Some rrp) e may = may.0

clear-run-of : (own : Half) (n : ℕ) (o : Option ℕ) (e : Event) → (own_after own n (counted_move o e)).direction.clear_run ≡ (happens own.direction e).clear_run
clear-run-of own n None e = refl
clear-run-of own n (Some rrp) e = refl

start-run-of : (own : Half) (n : ℕ) (o : Option ℕ) (e : Event) → (own_after own n (counted_move o e)).direction.start_run ≡ (happens own.direction e).start_run
start-run-of own n None e = refl
start-run-of own n (Some rrp) e = refl

-- ---- by the list

-- what is known by numbers of a landing in a direction
record Landing (link : LinkFields) (d : Toward) (past : List LinkEntry) (mask flit : List ℕ) (o : Outcome) (other : Half) : Type 0 where
  may : MayHere link.retry link.tokens (half_after link d past) other (landed_event link d past mask flit o)
  laws : DirectionLaws link.profile link.retry (half_after link d past).direction
  clear : (happens (half_after link d past).direction (landed_event link d past mask flit o)).clear_run ≡ receipts.run link.profile kinds.Clear (receiver_entries d (entry.landed d mask flit o ∷ past))
  start : (happens (half_after link d past).direction (landed_event link d past mask flit o)).start_run ≡ receipts.run link.profile kinds.Start (receiver_entries d (entry.landed d mask flit o ∷ past))

landing-forth : (link : LinkFields) (mask flit : List ℕ) (o : Outcome) (past : List LinkEntry) → IsKept link (entry.landed Forth mask flit o ∷ past) → Landing link Forth past mask flit o (half_after link Back past)
unfolding turns_of
landing-forth link mask flit o past kept =
    let counted = (reception_of link.profile (receiver_entries Forth past) flit).rrp in
    let e = landed_event link Forth past mask flit o in
    let own = half_after link Forth past in
    let other = half_after link Back past in
    let may = turns-may link (entry.landed Forth mask flit o ∷ past) kept in
    let fields = fields-are link Forth (entry.landed Forth mask flit o ∷ past) kept in
    record {
      may = here-of link.retry link.tokens own other counted e may.0;
      laws = (pair_laws link.profile link.retry link.tokens (turns_of link past) kept.retry may.1).forth.laws;
      clear = sym (clear-run-of own other.direction.accepted counted e) ∙ fields.clear_run;
      start = sym (start-run-of own other.direction.accepted counted e) ∙ fields.start_run;
    }

landing-back : (link : LinkFields) (mask flit : List ℕ) (o : Outcome) (past : List LinkEntry) → IsKept link (entry.landed Back mask flit o ∷ past) → Landing link Back past mask flit o (half_after link Forth past)
unfolding turns_of
landing-back link mask flit o past kept =
    let counted = (reception_of link.profile (receiver_entries Back past) flit).rrp in
    let e = landed_event link Back past mask flit o in
    let own = half_after link Back past in
    let other = half_after link Forth past in
    let may = turns-may link (entry.landed Back mask flit o ∷ past) kept in
    let fields = fields-are link Back (entry.landed Back mask flit o ∷ past) kept in
    record {
      may = here-of link.retry link.tokens own other counted e may.0;
      laws = (pair_laws link.profile link.retry link.tokens (turns_of link past) kept.retry may.1).back.laws;
      clear = sym (clear-run-of own other.direction.accepted counted e) ∙ fields.clear_run;
      start = sym (start-run-of own other.direction.accepted counted e) ∙ fields.start_run;
    }

real-of : (link : LinkFields) (d : Toward) (mask flit : List ℕ) (o : Outcome) (past : List LinkEntry) (other : Half) (kind : Kind) → IsKept link past → Landing link d past mask flit o other →
    17 ≤ receipts.run link.profile kind (receiver_entries d (entry.landed d mask flit o ∷ past)) → slice_get (line_as d past) 0 ≡ Some (irtry_as kind)
real-of link d mask flit o past other kinds.Clear before is long =
    let e = landed_event link d past mask flit o in
    let own = half_after link d past in
    let lands = event-lands (receipts.mode (receiver_entries d past)) (changes mask || is_pending_changed d past) (changes mask) (reading_of (irtry_in link.profile flit)) o in
    let more = lengthens-clear link.retry link.tokens own other e is.may lands (subst (λ (n : ℕ). 17 ≤ n) (sym is.clear) long) in
    front-clear link.profile link.retry own.direction own.direction.before own.direction.line (line_as d past) refl refl is.laws more.reads more.some more.long (items-are link d past before)
real-of link d mask flit o past other kinds.Start before is long =
    let e = landed_event link d past mask flit o in
    let own = half_after link d past in
    let lands = event-lands (receipts.mode (receiver_entries d past)) (changes mask || is_pending_changed d past) (changes mask) (reading_of (irtry_in link.profile flit)) o in
    let more = lengthens-start link.retry link.tokens own other e is.may lands (subst (λ (n : ℕ). 17 ≤ n) (sym is.start) long) in
    front-start link.profile link.retry own.direction own.direction.before own.direction.line (line_as d past) refl refl is.laws more.reads more.some more.long (items-are link d past before)

pub real-run : (link : LinkFields) (d : Toward) (mask flit : List ℕ) (o : Outcome) (past : List LinkEntry) (kind : Kind) → IsKept link (entry.landed d mask flit o ∷ past) →
    17 ≤ receipts.run link.profile kind (receiver_entries d (entry.landed d mask flit o ∷ past)) → slice_get (line_as d past) 0 ≡ Some (irtry_as kind)
real-run link Forth mask flit o past kind kept long =
    real-of link Forth mask flit o past (half_after link Back past) kind (kept-before link (entry.landed Forth mask flit o) past kept) (landing-forth link mask flit o past kept) long
real-run link Back mask flit o past kind kept long =
    real-of link Back mask flit o past (half_after link Forth past) kind (kept-before link (entry.landed Back mask flit o) past kept) (landing-back link mask flit o past kept) long

-- ---- what the receiver has reached

train-of : (m : outer_mode.Mode) → mode_as m ≡ modes.training → m ≡ Train
train-of Train is = refl
train-of Abort is = absurd (cc is)
train-of Good is = absurd (cc is)

abort-of : (m : outer_mode.Mode) → mode_as m ≡ modes.abort → m ≡ Abort
abort-of Train is = absurd (cc is)
abort-of Abort is = refl
abort-of Good is = absurd (cc is)

good-of : (m : outer_mode.Mode) → mode_as m ≡ modes.good → m ≡ Good
good-of Train is = absurd (cc is)
good-of Abort is = absurd (cc is)
good-of Good is = refl

pub fronts-length : (g : ℕ → List ℕ) (k : ℕ) → length (fronts g k) ≡ k
fronts-length g zero = refl
fronts-length g (suc k) = let more = length-append (fronts g k) (g k ∷ []) in let rest = fronts-length g k in omega arith

reached-at : (q : Profile) (s : Sent (grammar q)) (ps : List Weight) (x : Reached) (m : outer_mode.Mode) (b : Bool) (fs : List (List ℕ)) → IsAt (grammar q) s ps x (mode_as m) b fs → IsReached x m fs b
reached-at q s ps far.training m b fs at = (train-of m at.0, at.2, at.1)
reached-at q s ps far.aborting m b fs at = (abort-of m at.0, at.2, at.1)
reached-at q s ps far.between m b fs at = (good-of m at.0, at.2, at.1)
reached-at q s ps (far.inside n k) m b fs at = (good-of m at.0, ap (λ (l : List (List ℕ)). length l) at.2 ∙ fronts-length (s.front n) k, at.1)
reached-at q s ps far.spoilt m b fs at = (good-of m at.0, at.1)

side-reached : (link : LinkFields) (d : Toward) (past : List LinkEntry) (s : Sent (grammar link.profile)) (own oth : SideOf (grammar link.profile)) → WayAt link d past own → Linked (grammar link.profile) s link.retry link.tokens own oth →
    IsReached own.half.direction.far (receipts.mode (receiver_entries d past)) (receipts.pending (receiver_entries d past)) (is_pending_changed d past)
side-reached link d past s own oth is linked =
    let q = link.profile in
    let g = grammar q in
    let w = own.half.direction in
    let mode_same : inner.mode g own.received ≡ mode_as (receipts.mode (receiver_entries d past)) = ap (inner.mode g) is.received ∙ sym is.mirrors.mode in
    let spoilt : inner.is_spoilt g own.received ≡ is_pending_changed d past = ap (inner.is_spoilt g) is.received ∙ is.spoilt in
    let pending : inner.pending g own.received ≡ receipts.pending (receiver_entries d past) = ap (inner.pending g) is.received ∙ sym is.mirrors.pending in
    reached-at q s w.first w.far (receipts.mode (receiver_entries d past)) (is_pending_changed d past) (receipts.pending (receiver_entries d past))
    (subst (λ m. IsAt g s w.first w.far m (is_pending_changed d past) (receipts.pending (receiver_entries d past))) mode_same
    (subst (λ (b : Bool). IsAt g s w.first w.far (inner.mode g own.received) b (receipts.pending (receiver_entries d past))) spoilt
    (subst (λ (l : List (List ℕ)). IsAt g s w.first w.far (inner.mode g own.received) (inner.is_spoilt g own.received) l) pending linked.matches.place)))

abbrev ReachedIn : LinkFields → Toward → List LinkEntry → Half → Type 0
ReachedIn link d past half = IsReached half.direction.far (receipts.mode (receiver_entries d past)) (receipts.pending (receiver_entries d past)) (is_pending_changed d past)

steps-reached : (link : LinkFields) (d : Toward) (past : List LinkEntry) → IsKept link past → ReachedIn link d past (half_on d (pair_after (step_turns link past)))
unfolding step_turns
steps-reached link d past kept =
    let q = link.profile in
    let s = sent_of q 0 (sender_entries link Forth past) in
    let t = sent_of q 0 (sender_entries link Back past) in
    let l = link_after (grammar q) (steps_of link past) in
    let j = own-joins link past kept in
    let both = both_linked (grammar q) s t link.retry link.tokens (steps_of link past) kept.retry j.may in
    by_direction d (side-reached link Forth past s l.forth l.back j.forth both.forth) (side-reached link Back past t l.back l.forth j.back both.back)
  where
    by_direction : (x : Toward) → ReachedIn link Forth past (link_after (grammar link.profile) (steps_of link past)).forth.half → ReachedIn link Back past (link_after (grammar link.profile) (steps_of link past)).back.half →
        ReachedIn link x past (half_on x (pair_after (turns_by link.profile (steps_of link past))))
    by_direction Forth forth back = subst (λ (p : Pair). ReachedIn link Forth past p.forth) (sym (pair-after link.profile (steps_of link past))) forth
    by_direction Back forth back = subst (λ (p : Pair). ReachedIn link Back past p.back) (sym (pair-after link.profile (steps_of link past))) back

pub line-is : (link : LinkFields) (d : Toward) (past : List LinkEntry) → IsKept link past → LineIs link d past (half_after link d past)
line-is link d past kept = record {
  items = items-are link d past kept;
  far = ap-reached;
}
  where
    ap-reached : ReachedIn link d past (half_after link d past)
    ap-reached = subst (λ moves. ReachedIn link d past (half_on d (pair_after moves))) (turns-same link past kept) (steps-reached link d past kept)

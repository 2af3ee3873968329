-- A landing on a link is a landing by numbers.
use Rattle.std.proofs.Common.{◌≡◌, ◌≢◌, ◌∙◌, ◌+◌, ◌≤◌, ℕ, suc, Bool, true, false, List, [], ◌∷◌, ◌++◌, length, Option, Some, None, refl, sym, ap, subst, arith}
use Rattle.std.specs.Prelude.{◌==◌, ◌||◌, ◌&&◌, nat_lt, if◌then◌else◌, is_some}
use Rattle.std.proofs.lemmas.Grind.{common_steps}
use Rattle.hmc_codes.specs.Commands.{layout_of}
use Rattle.hmc_codes.specs.declared.layout.Layout.{Layout}
use Rattle.hmc_codes.specs.declared.layout.Layout.TheVariants as layouts
use Rattle.hmc_codes.specs.declared.profile.Profile.{Profile}
use Rattle.hmc_packet.specs.declared.bad.Bad.TheVariants as bads
use Rattle.hmc_packet.specs.declared.kind.Kind as outer
use Rattle.hmc_packet.specs.declared.kind.Kind.TheVariants as outer_kinds
use Rattle.hmc_packet.specs.declared.outcome.Outcome as outer_outcome
use Rattle.hmc_packet.specs.declared.outcome.Outcome.TheVariants as out
use Rattle.hmc_packet.specs.declared.reception.Reception.{Reception}
use Rattle.hmc_packet.specs.declared.seen.Seen.{Seen}
use Rattle.hmc_packet.specs.declared.view.Mode as outer_mode
use Rattle.hmc_packet.specs.declared.view.Mode.TheVariants as outer_modes
use Rattle.hmc_packet.specs.Irtry.{irtry_in, kind_of}
use Rattle.hmc_packet.specs.Landings as receipts
use Rattle.hmc_packet.specs.Landings.{ReceiverEntry, is_training, whole_training, whole_run}
use Rattle.hmc_packet.specs.Landings.ReceiverEntry.{Land}
use Rattle.hmc_packet.specs.Parts.{lng_of}
use Rattle.hmc_packet.specs.Reading.{is_null}
use Rattle.hmc_packet.specs.Receptions.{LandingView, landing_view, reception_of, reception_by, mode_reception, packet_reception, is_next, is_repeat, is_no_length, lng_with, checked, unchecked, flits_reception}
use Rattle.hmc_numbers.specs.Events.{Event, Event as events}
use Rattle.hmc_numbers.specs.Pair.{Way as ways, way}
use Rattle.hmc_wire.specs.EntryTurns.{reading_of, event_by, counted_move}
use Rattle.hmc_wire.proofs.Actions.{SideOf, landing_event}
use Rattle.hmc_wire.proofs.EntryTurns.{reading-same, event-same}
use Rattle.hmc_wire.proofs.Grammar.{Kind as inner_kinds}
use Rattle.hmc_wire.proofs.GrammarLandings as inner
use Rattle.hmc_wire.proofs.GrammarLandings.{Outcome as inner_outcomes}
use Rattle.hmc_wire.proofs.LandingCases.{Case, Case as case, case_of, is_short}
use Rattle.hmc_wire.proofs.Matches as matches
use Rattle.hmc_wire.proofs.PacketGrammar.{grammar, alone}
use Rattle.hmc_wire.proofs.Readings.{alone-same}
use Rattle.hmc_wire.proofs.Ways.{Lists, Way}
use Rattle.hmc_wire.proofs.Words.{mode_as, outcome_as}
use Rattle.hmc_link_state.specs.Landing.{IsLanding, move_of}
use Rattle.hmc_link_state.proofs.Chosen.{less_lt}
use Rattle.hmc_steps.specs.Doings.{is_ran_start}
use Rattle.hmc_steps.specs.SideIn.{lacking}

-- the event of a landing after these lists
abbrev pub event_in : (q : Profile) → Lists q → (changed : Bool) → List ℕ → outer_outcome.Outcome →
    Event
event_in q mine changed flit o =
    event_by (receipts.mode mine.receiver) (changed || mine.changed) changed
    (reading_of (irtry_in q flit)) o

pub landing-event_is : (q : Profile) (retry : ℕ) (mine : Lists q) (own : SideOf (grammar q))
    (c : Bool) (flit : List ℕ) (o : outer_outcome.Outcome) → Way q retry mine own →
    inner.outcome (grammar q) own.received flit ≡ outcome_as o →
    landing_event (grammar q) own.received c flit ≡ event_in q mine c flit o
landing-event_is q retry mine own c flit o is outcome =
    let g = grammar q in
    let mode_same : inner.mode g own.received ≡ mode_as (receipts.mode mine.receiver) =
    ap (inner.mode g) is.received ∙ sym is.mirrors.mode in
    let spoilt : inner.is_spoilt g own.received ≡ mine.changed =
    ap (inner.is_spoilt g) is.received ∙ is.spoilt in
    let reading : matches.reading_of (alone q flit) ≡ reading_of (irtry_in q flit) =
    ap matches.reading_of (alone-same q flit) ∙ reading-same (irtry_in q flit) in
    (λ i. matches.event_of (mode_same i) (c || spoilt i) c (reading i) (outcome i))
    ∙ event-same (receipts.mode mine.receiver) (c || mine.changed) c (reading_of (irtry_in q flit))
    o

-- ---- what a landing is

pub is-landing : (e : Event) → way e ≡ ways.lands → IsLanding e
is-landing events.rests q = absurd (cc q)
is-landing (events.sends_filler f) q = absurd (cc q)
is-landing events.sends_clear q = absurd (cc q)
is-landing (events.begins s) q = absurd (cc q)
is-landing (events.begins_through s) q = absurd (cc q)
is-landing events.begins_again q = absurd (cc q)
is-landing events.goes_on q = absurd (cc q)
is-landing (events.acknowledges n) q = absurd (cc q)
is-landing events.unlocks q = absurd (cc q)
is-landing e q = tt

pub move-same : (rrp : Option ℕ) (e : Event) → counted_move rrp e ≡ move_of (is_some rrp) e
move-same None e = refl
move-same (Some n) e = refl

pub ran-start : (o : outer_outcome.Outcome) → is_ran_start o ≡ true →
    outcome_as o ≡ inner_outcomes.ran inner_kinds.start
ran-start (out.Ran outer_kinds.Start) e = refl
ran-start (out.Ran outer_kinds.Clear) e = absurd (cc e)
ran-start out.Quiet e = absurd (cc e)
ran-start out.Trained e = absurd (cc e)
ran-start out.Gathered e = absurd (cc e)
ran-start out.Accepted e = absurd (cc e)
ran-start out.Poisoned e = absurd (cc e)
ran-start out.Repeat e = absurd (cc e)
ran-start (out.AbortedBad bad) e = absurd (cc e)
ran-start out.AbortedOrder e = absurd (cc e)

-- ---- what is gathered

-- it is fewer than its first flit names
retry-other : (b : Bool) (k : outer.Kind) → (if b then out.Ran k else out.Quiet) ≡ out.Gathered → ⊥
retry-other true k e = cc e
retry-other false k e = cc e

order-other : (a b c : Bool) →
    (if a then (if b then out.Poisoned else out.Accepted) else if c then out.Repeat
    else out.AbortedOrder) ≡ out.Gathered → ⊥
order-other true true c e = cc e
order-other true false c e = cc e
order-other false b true e = cc e
order-other false b false e = cc e

packet-other : (q : Profile) (r : LandingView) (l : Layout) (seen : Seen) →
    (packet_reception q r l seen).outcome ≡ out.Gathered → ⊥
packet-other q r layouts.Null seen e = cc e
packet-other q r layouts.Irtry seen e =
    retry-other (r.run (kind_of seen.packet.frp) + 1 == whole_run) (kind_of seen.packet.frp) e
packet-other q r layouts.Pret seen e = cc e
packet-other q r layouts.Tret seen e =
    order-other (is_next q r seen.packet) seen.packet.poisoned (is_repeat q r seen.packet) e
packet-other q r layouts.Ask seen e =
    order-other (is_next q r seen.packet) seen.packet.poisoned (is_repeat q r seen.packet) e
packet-other q r layouts.Reply seen e =
    order-other (is_next q r seen.packet) seen.packet.poisoned (is_repeat q r seen.packet) e

gathered-case : (q : Profile) (r : LandingView) (flit : List ℕ) (l : Reception) → Case q r flit l →
    l.outcome ≡ out.Gathered → (r.mode ≡ outer_modes.Good) × (is_short r flit ≡ true)
gathered-case q r flit l (case.trained m a b) e = absurd (cc e)
gathered-case q r flit l (case.trains m a b) e = absurd (cc e)
gathered-case q r flit l (case.untrained m a) e = absurd (cc e)
gathered-case q r flit l (case.aborting m n) e = absurd (cc e)
gathered-case q r flit l (case.retried m irtry n) e =
    absurd (retry-other (r.run irtry.0 + 1 == whole_run) irtry.0 e)
gathered-case q r flit l (case.null m p n) e = absurd (cc e)
gathered-case q r flit l (case.no_length m p n b) e = absurd (cc e)
gathered-case q r flit l (case.gathered m b) e = (m, b)
gathered-case q r flit l (case.refused m b bad x) e = absurd (cc e)
gathered-case q r flit l (case.whole m b seen x) e =
    absurd (packet-other q r (layout_of seen.packet.command) seen e)

-- it has a length where it is the first
few-by : (lng : ℕ) → is_no_length lng ≡ false → lng ≤ 17
few-by lng e = by_test (lng == 0) (nat_lt 17 lng) refl e
  where
    not_more : (lng : ℕ) → nat_lt 17 lng ≡ false → lng ≤ 17
    not_more lng e = grind (arith, common_steps)

    by_test : (a b : Bool) → nat_lt 17 lng ≡ b → (a || b) ≡ false → lng ≤ 17
    by_test true b h e = absurd (cc e)
    by_test false b h e = not_more lng (h ∙ e)

first-by : (q : Profile) (r : LandingView) (flit : List ℕ) (a b c : Bool) (x : Reception) →
    a ≡ true →
    (if a && b then checked out.Quiet None else if a
    && c then unchecked (out.AbortedBad bads.Length) else x).outcome ≡ out.Gathered → c ≡ false
first-by q r flit true true c x t e = absurd (cc e)
first-by q r flit true false true x t e = absurd (cc e)
first-by q r flit true false false x t e = refl
first-by q r flit false b c x t e = absurd (cc t)

pub first-few : (q : Profile) (r : LandingView) (flit : List ℕ) → r.pending ≡ [] →
    (reception_by q r flit).outcome ≡ out.Gathered → lng_of flit ≤ 17
unfolding reception_by
first-few q r flit nothing e =
    by_mode r.mode (gathered-case q r flit (reception_by q r flit) (case_of q r flit) e).0 e
  where
    by_mode : (m : outer_mode.Mode) → m ≡ outer_modes.Good →
        (mode_reception m q r flit).outcome ≡ out.Gathered → lng_of flit ≤ 17
    by_mode outer_modes.Train g e = absurd (cc g)
    by_mode outer_modes.Abort g e = absurd (cc g)
    by_mode outer_modes.Good g e =
        few-by (lng_of flit)
        (first-by q r flit (length r.pending == 0) (is_null flit) (is_no_length (lng_of flit))
        (flits_reception q r (lng_with r.pending flit) (r.pending ++ flit ∷ []))
        (ap (λ (l : List (List ℕ)). length l == 0) nothing) e)

pub short-of : (q : Profile) (rs : List ReceiverEntry) (flit : List ℕ) →
    (reception_of q rs flit).outcome ≡ out.Gathered →
    nat_lt (length (receipts.pending rs ++ flit ∷ [])) (lng_with (receipts.pending rs) flit) ≡ true
unfolding reception_of landing_view
short-of q rs flit e =
    (gathered-case q (landing_view q rs) flit (reception_by q (landing_view q rs) flit)
    (case_of q (landing_view q rs) flit) e).1

pub few-first : (q : Profile) (rs : List ReceiverEntry) (flit : List ℕ) → receipts.pending rs ≡ [] →
    (reception_of q rs flit).outcome ≡ out.Gathered → lng_of flit ≤ 17
unfolding reception_of landing_view
few-first q rs flit nothing e = first-few q (landing_view q rs) flit nothing e

-- pending flits are of a packet with a length
abbrev pub IsFewFirst : List (List ℕ) → Type 0
IsFewFirst [] = Unit {0}
IsFewFirst (first ∷ rest) = lng_of first ≤ 17

pushed-few : (p : List (List ℕ)) (flit : List ℕ) → IsFewFirst p → (p ≡ [] → lng_of flit ≤ 17) →
    IsFewFirst (p ++ flit ∷ [])
pushed-few [] flit few h = h refl
pushed-few (first ∷ rest) flit few h = few

pub pending-few : (q : Profile) (rs : List ReceiverEntry) (flit : List ℕ)
    (o : outer_outcome.Outcome) → o ≡ (reception_of q rs flit).outcome →
    IsFewFirst (receipts.pending rs) → IsFewFirst (receipts.pending (Land flit o ∷ rs))
unfolding receipts.pending
pending-few q rs flit out.Gathered is few =
    pushed-few (receipts.pending rs) flit few (λ e. few-first q rs flit e (sym is))
pending-few q rs flit out.Quiet is few = tt
pending-few q rs flit out.Trained is few = tt
pending-few q rs flit out.Accepted is few = tt
pending-few q rs flit out.Poisoned is few = tt
pending-few q rs flit out.Repeat is few = tt
pending-few q rs flit (out.AbortedBad bad) is few = tt
pending-few q rs flit out.AbortedOrder is few = tt
pending-few q rs flit (out.Ran k) is few = tt

lacks-by : (p : List (List ℕ)) (flit : List ℕ) →
    nat_lt (length (p ++ flit ∷ [])) (lng_with p flit) ≡ true → IsFewFirst (p ++ flit ∷ []) →
    (1 ≤ lacking (p ++ flit ∷ [])) × (lacking (p ++ flit ∷ []) ≤ 16)
lacks-by [] flit short few = let s = less_lt 1 (lng_of flit) short in (omega arith, omega arith)
lacks-by (first ∷ rest) flit short few =
    let s = less_lt (length (first ∷ rest ++ flit ∷ [])) (lng_of first) short in
    (omega arith, omega arith)

-- after a landing that is gathered, its packet lacks 1 to 16 flits
pub lacks-some : (q : Profile) (rs : List ReceiverEntry) (flit : List ℕ)
    (o : outer_outcome.Outcome) → o ≡ (reception_of q rs flit).outcome →
    IsFewFirst (receipts.pending rs) → o ≡ out.Gathered →
    (1 ≤ lacking (receipts.pending (Land flit o ∷ rs)))
    × (lacking (receipts.pending (Land flit o ∷ rs)) ≤ 16)
unfolding receipts.pending
lacks-some q rs flit out.Gathered is few e =
    lacks-by (receipts.pending rs) flit (short-of q rs flit (sym is))
    (pushed-few (receipts.pending rs) flit few (λ n. few-first q rs flit n (sym is)))
lacks-some q rs flit o is few e = absurd (cc e)

-- ---- in Train

trained-case : (q : Profile) (r : LandingView) (flit : List ℕ) (l : Reception)
    (rs : List ReceiverEntry) → Case q r flit l → r.mode ≡ outer_modes.Train →
    r.training ≡ receipts.training q rs → receipts.training q rs ≤ 7 →
    receipts.training q (Land flit l.outcome ∷ rs) ≤ 7
unfolding receipts.training
trained-case q r flit l rs (case.trained m a b) t n le = omega arith
trained-case q r flit l rs (case.trains m a b) t n le =
    let other = not_eighth r.training b in
    let is : (if is_training q flit then suc (receipts.training q rs) else 0) ≡ suc
    (receipts.training q rs) =
    ap (λ (x : Bool). if x then suc (receipts.training q rs) else 0) a in
    omega arith
  where
    not_eighth : (n : ℕ) → (n + 1 == whole_training) ≡ false → n ≢ 7
    not_eighth n e = grind (arith, common_steps)
trained-case q r flit l rs (case.untrained m a) t n le =
    let is : (if is_training q flit then suc (receipts.training q rs) else 0) ≡ 0 =
    ap (λ (x : Bool). if x then suc (receipts.training q rs) else 0) a in
    omega arith
trained-case q r flit l rs (case.aborting m e) t n le =
    absurd (let clash : outer_modes.Train ≡ outer_modes.Abort = sym t ∙ m in cc clash)
trained-case q r flit l rs (case.retried m irtry e) t n le =
    absurd (let clash : outer_modes.Train ≡ outer_modes.Abort = sym t ∙ m in cc clash)
trained-case q r flit l rs (case.null m p e) t n le =
    absurd (let clash : outer_modes.Train ≡ outer_modes.Good = sym t ∙ m in cc clash)
trained-case q r flit l rs (case.no_length m p e b) t n le =
    absurd (let clash : outer_modes.Train ≡ outer_modes.Good = sym t ∙ m in cc clash)
trained-case q r flit l rs (case.gathered m b) t n le =
    absurd (let clash : outer_modes.Train ≡ outer_modes.Good = sym t ∙ m in cc clash)
trained-case q r flit l rs (case.refused m b bad e) t n le =
    absurd (let clash : outer_modes.Train ≡ outer_modes.Good = sym t ∙ m in cc clash)
trained-case q r flit l rs (case.whole m b seen e) t n le =
    absurd (let clash : outer_modes.Train ≡ outer_modes.Good = sym t ∙ m in cc clash)

pub trained-few : (q : Profile) (rs : List ReceiverEntry) (flit : List ℕ)
    (o : outer_outcome.Outcome) → o ≡ (reception_of q rs flit).outcome →
    receipts.mode rs ≡ outer_modes.Train → receipts.training q rs ≤ 7 →
    receipts.training q (Land flit o ∷ rs) ≤ 7
unfolding reception_of landing_view
trained-few q rs flit o is m le =
    subst (λ (x : outer_outcome.Outcome). receipts.training q (Land flit x ∷ rs) ≤ 7) (sym is)
    (trained-case q (landing_view q rs) flit (reception_by q (landing_view q rs) flit) rs
    (case_of q (landing_view q rs) flit) m refl le)

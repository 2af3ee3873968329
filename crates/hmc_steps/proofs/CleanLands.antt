-- The landing of a flit that isn't changed is the one that the rounds of hmc_link_state make.
use Rattle.std.proofs.Common.{◌≡◌, ◌∙◌, ◌+◌, ◌≤◌, ℕ, zero, suc, Bool, true, false, List, [], ◌∷◌, Option, Some, None, refl, sym, ap, subst, arith}
use Rattle.std.specs.Prelude.{◌==◌, ◌&&◌, nat_le, if◌then◌else◌, is_some}
use Rattle.std.proofs.lemmas.Grind.{common_steps}
use Rattle.hmc_numbers.specs.Weights.{Weight}
use Rattle.hmc_numbers.specs.Direction.{Item, Direction, Reached, Reached as far, Filler as fill, front_or, number_of}
use Rattle.hmc_numbers.specs.Direction.Item.{filler, clear, part}
use Rattle.hmc_numbers.specs.Events.{Reading}
use Rattle.hmc_numbers.specs.Events.Reading.{as_start, as_clear}
use Rattle.hmc_numbers.specs.Events.Event.{drops, opens, passes, gathers, accepts, repeats}
use Rattle.hmc_numbers.specs.May.{May, IsGood, IsNoPart, IsMiddle, IsEnd, IsTouched}
use Rattle.hmc_wire.proofs.Grammar.{Kind, Kind as kinds, Grammar}
use Rattle.hmc_wire.proofs.GrammarLandings.{Outcome, Landings, pending, run, in_abort, in_good, of_read}
use Rattle.hmc_wire.proofs.GrammarLandings.Mode.{abort, good}
use Rattle.hmc_wire.proofs.GrammarLandings.Outcome.{quiet, trained, gathered, accepted, poisoned, repeated, aborted, disordered, ran}
use Rattle.hmc_wire.proofs.GrammarCounted.{counted_run, counted_alone, counted_read, counted_good}
use Rattle.hmc_wire.proofs.LandOutcomes.{good_null, good_flow}
use Rattle.hmc_wire.proofs.Matches.{reading_of, event_of}
use Rattle.hmc_wire.proofs.Spelled.{Sent, Spelled}
use Rattle.hmc_wire.proofs.LandCounted.{null_none, flow_counts}
use Rattle.hmc_link_state.specs.State.{Side, wire}
use Rattle.hmc_link_state.specs.Round.{Reads, event_in_good, event_in_abort, is_start_item, is_start_look, is_ran_start_at, is_counted_at}

-- ---- readings

pub clean-reads : (G : Grammar) (s : Sent G) (ps : List Weight) (x : Item) (f : G.Flit) →
    Spelled G s ps x f → Reads x (reading_of (G.alone f))
clean-reads G s ps (filler fill.null) f h = ap reading_of h.1
clean-reads G s ps (filler fill.train) f h = ap reading_of h
clean-reads G s ps (filler fill.pret) f h = ap reading_of h.alone
clean-reads G s ps (filler fill.start) f h = ap reading_of h.alone
clean-reads G s ps clear f h = ap reading_of h.alone
clean-reads G s ps (part n zero more) f h = ap reading_of (h.0 refl).alone
clean-reads G s ps (part n (suc k) more) f h = tt

-- ---- in Abort

abort_by : (B : Type 0) (c t : Bool) (b : Bool) (r : ℕ) →
    event_of {B = B} abort t c as_clear (if b then ran kinds.clear else quiet) ≡ (if b then opens
    else drops as_clear)
abort_by B c t true r = refl
abort_by B c t false r = refl

start_by : (B : Type 0) (c t : Bool) (b : Bool) (r : ℕ) →
    event_of {B = B} abort t c as_start (if b then ran kinds.start else quiet) ≡ drops as_start
start_by B c t true r = refl
start_by B c t false r = refl

pub abort-event : (G : Grammar) (past : Landings G) (n : ℕ) (t c : Bool) (a : Option (Kind × ℕ)) →
    run G kinds.clear past ≡ n →
    event_of abort t c (reading_of a) (in_abort G past a) ≡ event_in_abort n (reading_of a)
abort-event G past n t c None e = refl
abort-event G past n t c (Some (kinds.start, r)) e =
    start_by G.Bad c t (run G kinds.start past == 23) r
abort-event G past n t c (Some (kinds.clear, r)) e =
    abort_by G.Bad c t (run G kinds.clear past == 23) r
    ∙ ap (λ (m : ℕ). if m == 23 then opens else drops as_clear) e

-- its pointer is counted, and it ends a run of Starts, where hmc_link_state says so

abbrev pub is_ran : {B : Type 0} → Outcome B → Bool
is_ran (ran kinds.start) = true
is_ran o = false

ran_by : (B : Type 0) (k : Kind) (b : Bool) →
    is_ran {B = B} (if b then ran k else quiet) ≡ (is_start_look (reading_of (Some (k, 0))) && b)
ran_by B kinds.start true = refl
ran_by B kinds.start false = refl
ran_by B kinds.clear true = refl
ran_by B kinds.clear false = refl

pub abort-ran : (G : Grammar) (past : Landings G) (x : Side) (a : Option (Kind × ℕ)) →
    run G kinds.start past ≡ (wire x).start_run →
    is_ran (in_abort G past a) ≡ is_ran_start_at x far.aborting (reading_of a)
abort-ran G past x None e = refl
abort-ran G past x (Some (kinds.start, r)) e =
    ran_by G.Bad kinds.start (run G kinds.start past == 23) ∙ ap (λ (n : ℕ). n == 23) e
abort-ran G past x (Some (kinds.clear, r)) e =
    ran_by G.Bad kinds.clear (run G kinds.clear past == 23)

pub counted-run : (n r : ℕ) → is_some (counted_run n r) ≡ nat_le 23 n
counted-run n r = by_test (nat_le 23 n)
  where
    by_test : (b : Bool) → is_some (if b then Some r else None) ≡ b
    by_test true = refl
    by_test false = refl

long_of : (n : ℕ) → (n == 23) ≡ true → nat_le 23 n ≡ true
long_of n e = grind (arith, common_steps)

clear-counts : (x : Side) (n : ℕ) (b : Bool) → (n == 23) ≡ b → n ≡ (wire x).clear_run →
    nat_le 23 n ≡ is_counted_at x far.aborting (if b then opens else drops as_clear)
clear-counts x n true e h = long_of n e
clear-counts x n false e h = ap (λ (m : ℕ). nat_le 23 m) h

pub abort-counted : (G : Grammar) (past : Landings G) (x : Side) (a : Option (Kind × ℕ)) →
    run G kinds.clear past ≡ (wire x).clear_run → run G kinds.start past ≡ (wire x).start_run →
    is_some (counted_alone G past a) ≡ is_counted_at x far.aborting
    (event_in_abort (run G kinds.clear past) (reading_of a))
abort-counted G past x None c s = refl
abort-counted G past x (Some (kinds.start, r)) c s =
    counted-run (run G kinds.start past) r ∙ ap (λ (m : ℕ). nat_le 23 m) s
abort-counted G past x (Some (kinds.clear, r)) c s =
    counted-run (run G kinds.clear past) r
    ∙ clear-counts x (run G kinds.clear past) (run G kinds.clear past == 23) refl c

-- ---- in Good

eq_is : (a b : ℕ) → a ≡ b → (a == b) ≡ true
eq_is a b e = grind (arith, common_steps)

eq_not : (a b : ℕ) → suc a ≤ b → (a == b) ≡ false
eq_not a b e = grind (arith, common_steps)

passes_same : (w : Direction) (x : Item) (xs : List Item) (look : Reading) (r : ℕ) →
    w.line ≡ x ∷ xs → May r w (passes look) → Reads x look → passes look ≡ event_in_good w x
passes_same w (filler fill.null) xs look r e m h = ap passes h
passes_same w (filler fill.train) xs look r e m h = ap passes h
passes_same w (filler fill.pret) xs look r e m h = ap passes h
passes_same w (filler fill.start) xs look r e m h = ap passes h
passes_same w clear xs look r e m h = ap passes h
passes_same w (part n k more) xs look r e m h = absurd (subst IsNoPart e m.1)

gathers_same : (w : Direction) (x : Item) (xs : List Item) (r : ℕ) → w.line ≡ x ∷ xs →
    May r w gathers → gathers ≡ event_in_good w x
gathers_same w (filler f) xs r e m = absurd (subst IsMiddle e m.1)
gathers_same w clear xs r e m = absurd (subst IsMiddle e m.1)
gathers_same w (part n k zero) xs r e m = absurd (subst IsMiddle e m.1)
gathers_same w (part n k (suc more)) xs r e m = refl

front-number : (w : Direction) (x : Item) (xs : List Item) → w.line ≡ x ∷ xs →
    number_of (front_or w.before w.line) ≡ number_of x
front-number w x xs e = ap (λ (l : List Item). number_of (front_or w.before l)) e

accepts_same : (w : Direction) (x : Item) (xs : List Item) (r : ℕ) → w.line ≡ x ∷ xs →
    May r w accepts → accepts ≡ event_in_good w x
accepts_same w (filler f) xs r e m = absurd (subst IsEnd e m.1)
accepts_same w clear xs r e m = absurd (subst IsEnd e m.1)
accepts_same w (part n k zero) xs r e m =
    sym (ap (λ (b : Bool). if b then accepts else repeats)
    (eq_is n (w.accepted + 1) (sym (front-number w (part n k zero) xs e) ∙ m.2)))
accepts_same w (part n k (suc more)) xs r e m = absurd (subst IsEnd e m.1)

repeats_same : (w : Direction) (x : Item) (xs : List Item) (r : ℕ) → w.line ≡ x ∷ xs →
    May r w repeats → repeats ≡ event_in_good w x
repeats_same w (filler f) xs r e m = absurd (subst IsEnd e m.1)
repeats_same w clear xs r e m = absurd (subst IsEnd e m.1)
repeats_same w (part n k zero) xs r e m =
    sym (ap (λ (b : Bool). if b then accepts else repeats)
    (eq_not n (w.accepted + 1) (let le = m.2 in let f = front-number w (part n k zero) xs e in
    omega arith)))
repeats_same w (part n k (suc more)) xs r e m = absurd (subst IsEnd e m.1)

untouched : (x : Reached) → IsGood x → IsTouched x false → ⊥
untouched far.training g t = g
untouched far.aborting g t = g
untouched far.between g t = let clash : false ≡ true = t in cc clash
untouched (far.inside n k) g t = let clash : false ≡ true = t in cc clash
untouched far.spoilt g t = g

-- what lands as it was sent makes the event that its item says
pub good-event : (G : Grammar) (w : Direction) (x : Item) (xs : List Item) (look : Reading)
    (o : Outcome G.Bad) (r : ℕ) → w.line ≡ x ∷ xs → IsGood w.far → Reads x look →
    May r w (event_of good false false look o) →
    event_of good false false look o ≡ event_in_good w x
good-event G w x xs look quiet r e g h m = passes_same w x xs look r e m h
good-event G w x xs look trained r e g h m = passes_same w x xs look r e m h
good-event G w x xs look (ran kinds.start) r e g h m = passes_same w x xs look r e m h
good-event G w x xs look (ran kinds.clear) r e g h m = passes_same w x xs look r e m h
good-event G w x xs look gathered r e g h m = gathers_same w x xs r e m
good-event G w x xs look accepted r e g h m = accepts_same w x xs r e m
good-event G w x xs look poisoned r e g h m = accepts_same w x xs r e m
good-event G w x xs look repeated r e g h m = repeats_same w x xs r e m
good-event G w x xs look (aborted b) r e g h m = absurd (untouched w.far g m.0)
good-event G w x xs look disordered r e g h m = absurd (untouched w.far g m.0)

-- likewise the pointer and the run of a flit that is no part of a packet

abbrev pub IsNoPartItem : Item → Type 0
IsNoPartItem (part n k more) = ⊥
IsNoPartItem x = Unit {0}

pub good-ran : (G : Grammar) (s : Sent G) (w : Direction) (past : Landings G) (y : Item)
    (f : G.Flit) → pending G past ≡ [] → run G kinds.start past ≡ w.start_run → IsNoPartItem y →
    Spelled G s w.first y f → (y ≡ filler fill.train → ⊥) →
    is_ran (in_good G past (pending G past) f) ≡ (is_start_item y && (w.start_run == 23))
good-ran G s w past (filler fill.null) f nothing e p h t =
    ap (λ (o : Outcome G.Bad). is_ran o) (good_null G past (pending G past) f nothing h.0)
good-ran G s w past (filler fill.train) f nothing e p h t = absurd (t refl)
good-ran G s w past (filler fill.pret) f nothing e p h t =
    ap (λ (o : Outcome G.Bad). is_ran o) (good_flow G past (pending G past) f nothing h.some h.lng
    ∙ ap (λ z. of_read G past z) h.read)
good-ran G s w past (filler fill.start) f nothing e p h t =
    ap (λ (o : Outcome G.Bad). is_ran o) (good_flow G past (pending G past) f nothing h.some h.lng
    ∙ ap (λ z. of_read G past z) h.read)
    ∙ ran_by G.Bad kinds.start (run G kinds.start past == 23) ∙ ap (λ (n : ℕ). n == 23) e
good-ran G s w past clear f nothing e p h t =
    ap (λ (o : Outcome G.Bad). is_ran o) (good_flow G past (pending G past) f nothing h.some h.lng
    ∙ ap (λ z. of_read G past z) h.read)
    ∙ ran_by G.Bad kinds.clear (run G kinds.clear past == 23)
good-ran G s w past (part n k more) f nothing e p h t = absurd p

-- whether the pointer of an item is counted in Good
abbrev pub item_counts : Direction → Item → Bool
item_counts w (filler fill.pret) = true
item_counts w (filler fill.start) = nat_le 23 w.start_run
item_counts w clear = nat_le 23 w.clear_run
item_counts w x = false

pub good-counted : (G : Grammar) (s : Sent G) (w : Direction) (past : Landings G) (y : Item)
    (f : G.Flit) → pending G past ≡ [] → run G kinds.clear past ≡ w.clear_run →
    run G kinds.start past ≡ w.start_run → IsNoPartItem y → Spelled G s w.first y f →
    (y ≡ filler fill.train → ⊥) →
    is_some (counted_good G past (pending G past) f) ≡ item_counts w y
good-counted G s w past (filler fill.null) f nothing c e p h t =
    ap (λ (o : Option ℕ). is_some o) (null_none G past (pending G past) f nothing h.0)
good-counted G s w past (filler fill.train) f nothing c e p h t = absurd (t refl)
good-counted G s w past (filler fill.pret) f nothing c e p h t =
    ap (λ (o : Option ℕ). is_some o) (flow_counts G past (pending G past) f nothing h.some h.lng
    ∙ ap (counted_read G past) h.read)
good-counted G s w past (filler fill.start) f nothing c e p h t =
    ap (λ (o : Option ℕ). is_some o) (flow_counts G past (pending G past) f nothing h.some h.lng
    ∙ ap (counted_read G past) h.read)
    ∙ counted-run (run G kinds.start past) h.r ∙ ap (λ (n : ℕ). nat_le 23 n) e
good-counted G s w past clear f nothing c e p h t =
    ap (λ (o : Option ℕ). is_some o) (flow_counts G past (pending G past) f nothing h.some h.lng
    ∙ ap (counted_read G past) h.read)
    ∙ counted-run (run G kinds.clear past) h.r ∙ ap (λ (n : ℕ). nat_le 23 n) c
good-counted G s w past (part n k more) f nothing c e p h t = absurd p

-- A return pointer that is counted is the one that was sent. Used by ActionLaw.
use Rattle.std.proofs.Common.{◌≡◌, ℕ, zero, suc, ◌+◌, ◌-◌, ◌%◌, ◌≤◌, List, [], ◌∷◌, ◌++◌, length, Bool, true, false, inl, inr, refl, sym, ◌∙◌, ap, subst, arith, lt-ltb, le-ltb}
use Rattle.std.specs.Prelude.{not, ◌==◌, ◌&&◌, ◌||◌, nat_lt, nat_le, if◌then◌else◌, Option, Some, None}
use Rattle.std.proofs.lemmas.Grind.{common_steps}
use Rattle.std.proofs.lemmas.Bool.{or_parts}
use Rattle.hmc_numbers.specs.Weights.{size}
use Rattle.hmc_codes.specs.Profile.{modulus_of, window_of}
use Rattle.hmc_numbers.specs.Direction.{Filler as fill, Item, Reached, Reached as far, Direction}
use Rattle.hmc_numbers.specs.Direction.Item.{filler, clear, part}
use Rattle.hmc_numbers.specs.Events.{Reading}
use Rattle.hmc_numbers.specs.Events.Reading.{as_start, as_clear}
use Rattle.hmc_numbers.specs.May.{IsGood, CanReadAs}
use Rattle.hmc_numbers.specs.DirectionLaws.{ContinuesGathered}
use Rattle.hmc_numbers.specs.Turns.{IsLong, IsPret, MayCount}
use Rattle.hmc_wire.proofs.Grammar.{Kind, Kind as kinds, Read, Read as reads, Grammar}
use Rattle.hmc_packet.specs.Receptions.{is_no_length}
use Rattle.hmc_wire.proofs.GrammarLandings.{Mode, Landings, mode, pending, is_spoilt, run, is_some_irtry, checks, checks_good, is_empty, head_or, is_read, in_mode, in_abort, in_good, in_order, of_read, ran_or_quiet, outcome, accepted_in, flits_of}
use Rattle.hmc_wire.proofs.GrammarLandings.Mode.{training, abort, good}
use Rattle.hmc_wire.proofs.GrammarLandings.Outcome.{quiet, accepted, poisoned, repeated, disordered, ran}
use Rattle.hmc_wire.proofs.Spelled.{Sent, Spelled}
use Rattle.hmc_wire.proofs.Matches.{Matches, IsAt, reading_of, event_of}
use Rattle.hmc_wire.proofs.Lands.{Lands, IsOrdered}
use Rattle.hmc_wire.proofs.GrammarCounted.{counted_run, counted_alone, counted_read, counted_good, counted_in, counted, Carries}
use Rattle.hmc_wire.proofs.LandOutcomes.{good_flow}
use Rattle.hmc_wire.proofs.LandShut.{readings, abort_check}
use Rattle.hmc_wire.proofs.LandParts.{Goes, ends, first_tests, lng_test, front_line}
use Rattle.hmc_wire.proofs.LandLanded.{lands, between_goes, inside_goes}

none_some : (x : Option ℕ) (q : ℕ) → x ≡ None → x ≡ Some q → ⊥
none_some x q e h = cc

some_is : (x : Option ℕ) (a b : ℕ) → x ≡ Some a → x ≡ Some b → b ≡ a
some_is x a b e h = cc

run_counted : (n t q : ℕ) → counted_run n t ≡ Some q → (23 ≤ n) × (q ≡ t)
run_counted n t q h = by_test (nat_le 23 n) refl h
  where
    by_test : (b : Bool) → nat_le 23 n ≡ b → (if b then Some t else None) ≡ Some q → (23 ≤ n) × (q ≡ t)
    by_test true e h = (most n e, some_is (Some t) t q refl h)
      where
        most : (n : ℕ) → nat_le 23 n ≡ true → 23 ≤ n
        most n e = grind (arith, common_steps)
    by_test false e h = absurd (none_some None q refl h)

-- in Abort

same_irtry : (a : Option (Kind × ℕ)) (k : Kind) (n t : ℕ) → a ≡ Some (k, n) → a ≡ Some (k, t) → n ≡ t
same_irtry a k n t e h = ap (λ (y : Kind × ℕ). y.1) (pairs (k, n) (k, t) e h)
  where
    pairs : (y z : Kind × ℕ) → a ≡ Some y → a ≡ Some z → y ≡ z
    pairs y z e h = cc

not_changed : (a : Option (Kind × ℕ)) (y : Kind × ℕ) → a ≡ Some y → is_some_irtry a ≡ false → ⊥
not_changed a y e h = cc

-- what lengthens a run to 24 was sent as an IRTRY of its kind, with its pointer
abort_pointer : (G : Grammar) (s : Sent G) (r : ℕ) (w : Direction) (past : Landings G) (x : Item) (xs : List Item) (c : Bool) (f : G.Flit) → Lands G s r w past x xs c f → (t : ℕ) → (c ≡ false → Carries G s t x f) → mode G past ≡ abort →
    (k : Kind) (n : ℕ) → G.alone f ≡ Some (k, n) → 23 ≤ run G k past → n ≡ t
abort_pointer G s r w past x xs c f l t h m k n e i = by_kind k (readings G s r w past x xs c f l (abort_check G (mode G past) past f m) c refl) e i
  where
    clean : (b : Bool) → c ≡ b → (y : Kind × ℕ) → G.alone f ≡ Some y → c ≡ false
    clean true q y e = absurd (not_changed (G.alone f) y e (abort_check G (mode G past) past f m (l.sound (rw q refl))))
    clean false q y e = q

    by_kind : (k : Kind) → CanReadAs x (reading_of (G.alone f)) → G.alone f ≡ Some (k, n) → 23 ≤ run G k past → n ≡ t
    by_kind kinds.clear v e i =
        let z : CanReadAs x as_clear = subst (λ a. CanReadAs x (reading_of a)) e v in
        let q = l.laws.clears x xs l.line z (let a = l.matches.clear_run in omega (arith, i)) in
        let g : Carries G s t clear f = subst (λ y. Carries G s t y f) q (h (clean c refl (kinds.clear, n) e)) in
        same_irtry (G.alone f) kinds.clear n t e g.0
    by_kind kinds.start v e i =
        let z : CanReadAs x as_start = subst (λ a. CanReadAs x (reading_of a)) e v in
        let q = l.laws.starts x xs l.line z (let a = l.matches.start_run in omega (arith, i)) in
        let g : Carries G s t (filler fill.start) f = subst (λ y. Carries G s t y f) q (h (clean c refl (kinds.start, n) e)) in
        same_irtry (G.alone f) kinds.start n t e g.0

long_reading : (G : Grammar) (s : Sent G) (w : Direction) (past : Landings G) (a : Option (Kind × ℕ)) (k : Kind) (n : ℕ) → Matches G s w past → a ≡ Some (k, n) → 23 ≤ run G k past → IsLong w (reading_of a)
long_reading G s w past a kinds.clear n m e i = subst (λ b. IsLong w (reading_of b)) (sym e) (let z = m.clear_run in omega (arith, i))
long_reading G s w past a kinds.start n m e i = subst (λ b. IsLong w (reading_of b)) (sym e) (let z = m.start_run in omega (arith, i))

abort_counts : (G : Grammar) (s : Sent G) (r : ℕ) (w : Direction) (past : Landings G) (x : Item) (xs : List Item) (c : Bool) (f : G.Flit) → Lands G s r w past x xs c f → (t : ℕ) → (c ≡ false → Carries G s t x f) → mode G past ≡ abort → w.far ≡ far.aborting →
    (b : Bool) (q : ℕ) → counted_alone G past (G.alone f) ≡ Some q → MayCount w (event_of abort b c (reading_of (G.alone f)) (in_abort G past (G.alone f))) × (q ≡ t)
abort_counts G s r w past x xs c f l t h m fr b q e = by_alone (G.alone f) refl e
  where
    by_run : (k : Kind) (z : Bool) → IsLong w (reading_of (G.alone f)) → MayCount w (event_of {B = G.Bad} abort b c (reading_of (G.alone f)) (if z then ran k else quiet))
    by_run k false i = (fr, i)
    by_run kinds.start true i = (fr, i)
    by_run kinds.clear true i = tt

    by_alone : (a : Option (Kind × ℕ)) → G.alone f ≡ a → counted_alone G past a ≡ Some q → MayCount w (event_of abort b c (reading_of (G.alone f)) (in_abort G past a)) × (q ≡ t)
    by_alone None u e = absurd (none_some None q refl e)
    by_alone (Some (k, n)) u e =
        let z = run_counted (run G k past) n q e in
        (by_run k (run G k past == 23) (long_reading G s w past (G.alone f) k n l.matches u z.0), z.1 ∙ abort_pointer G s r w past x xs c f l t h m k n u z.0)

-- in Good, where a check fails

read_none : (G : Grammar) (past : Landings G) (x : Read G.Packet G.Bad) → is_read x ≡ false → counted_read G past x ≡ None
read_none G past (reads.bad b) h = refl
read_none G past x h = absurd (cc h)

good_none : (G : Grammar) (past : Landings G) (x : Read G.Packet G.Bad) (e z w m : Bool) → ((e && z) || (not m && is_read x)) ≡ false →
    (if e && z then None else (if e && w then None else (if m then None else counted_read G past x))) ≡ None
good_none G past x true true w m h = absurd (cc h)
good_none G past x true false true m h = refl
good_none G past x true false false true h = refl
good_none G past x true false false false h = read_none G past x h
good_none G past x false z w true h = refl
good_none G past x false z w false h = read_none G past x h

fails_none : (G : Grammar) (past : Landings G) (fs : List G.Flit) (f : G.Flit) → checks_good G fs f ≡ false → counted_good G past fs f ≡ None
fails_none G past fs f h = good_none G past (G.read (fs ++ f ∷ [])) (is_empty fs) (G.is_null f) (is_no_length (G.lng f)) (nat_lt (length fs + 1) (G.lng (head_or fs f))) h

-- and where nothing is changed

pub null_none : (G : Grammar) (past : Landings G) (fs : List G.Flit) (f : G.Flit) → fs ≡ [] → G.is_null f ≡ true → counted_good G past fs f ≡ None
null_none G past [] f p z = rw z refl
null_none G past (g ∷ gs) f p z = absurd (cc p)

pub flow_counts : (G : Grammar) (past : Landings G) (fs : List G.Flit) (f : G.Flit) → fs ≡ [] → G.is_null f ≡ false → G.lng f ≡ 1 → counted_good G past fs f ≡ counted_read G past (G.read (f ∷ []))
flow_counts G past [] f p z l = rw (z, l) refl
flow_counts G past (g ∷ gs) f p z l = absurd (cc p)

gathers_none : (G : Grammar) (past : Landings G) (fs : List G.Flit) (f : G.Flit) → nat_lt (length fs + 1) (G.lng (head_or fs f)) ≡ true → (fs ≡ [] → (G.is_null f ≡ false) × (is_no_length (G.lng f) ≡ false)) → counted_good G past fs f ≡ None
gathers_none G past [] f m h = rw ((h refl).0, (h refl).1, m) refl
gathers_none G past (g ∷ gs) f m h = rw m refl

ends_counts : (G : Grammar) (past : Landings G) (fs : List G.Flit) (f : G.Flit) → nat_lt (length fs + 1) (G.lng (head_or fs f)) ≡ false → (fs ≡ [] → (G.is_null f ≡ false) × (is_no_length (G.lng f) ≡ false)) → counted_good G past fs f ≡ counted_read G past (G.read (fs ++ f ∷ []))
ends_counts G past [] f m h = rw ((h refl).0, (h refl).1, m) refl
ends_counts G past (g ∷ gs) f m h = rw m refl

-- a sequenced packet that is in order
order_counts : (G : Grammar) (w : Direction) (c : Bool) (reading : Reading) (p : G.Packet) (a b d : Bool) → IsOrdered {B = G.Bad} (if a then (if d then poisoned else accepted) else (if b then repeated else disordered)) →
    MayCount w (event_of {B = G.Bad} good false c reading (if a then (if d then poisoned else accepted) else (if b then repeated else disordered)))
order_counts G w c reading p true b true h = tt
order_counts G w c reading p true b false h = tt
order_counts G w c reading p false true d h = tt
order_counts G w c reading p false false d h = absurd h

irtry_counts : (G : Grammar) (s : Sent G) (w : Direction) (past : Landings G) (c : Bool) (f : G.Flit) (k : Kind) (t q : ℕ) → Matches G s w past → pending G past ≡ [] → G.is_null f ≡ false → G.lng f ≡ 1 →
    G.alone f ≡ Some (k, t) → G.read (f ∷ []) ≡ reads.irtry k t → counted_good G past (pending G past) f ≡ Some q → MayCount w (event_of good false c (reading_of (G.alone f)) (in_good G past (pending G past) f)) × (q ≡ t)
irtry_counts G s w past c f k t q m p n l a d e =
    let u : counted_run (run G k past) t ≡ Some q = sym (ap (λ z. counted_read G past z) d) ∙ sym (flow_counts G past (pending G past) f p n l) ∙ e in
    let z = run_counted (run G k past) t q u in
    let o : in_good G past (pending G past) f ≡ ran_or_quiet k (run G k past) = good_flow G past (pending G past) f p n l ∙ ap (λ z. of_read G past z) d in
    (subst (λ y. MayCount w (event_of good false c (reading_of (G.alone f)) y)) (sym o) (by_run (run G k past == 23) (long_reading G s w past (G.alone f) k t m a z.0)), z.1)
  where
    by_run : (b : Bool) → IsLong w (reading_of (G.alone f)) → MayCount w (event_of {B = G.Bad} good false c (reading_of (G.alone f)) (if b then ran k else quiet))
    by_run true i = inl i
    by_run false i = inl i

pret_counts : (G : Grammar) (w : Direction) (past : Landings G) (c : Bool) (f : G.Flit) (xs : List Item) (t q : ℕ) → w.line ≡ filler fill.pret ∷ xs → pending G past ≡ [] → G.is_null f ≡ false → G.lng f ≡ 1 →
    G.read (f ∷ []) ≡ reads.pret t → counted_good G past (pending G past) f ≡ Some q → MayCount w (event_of good false c (reading_of (G.alone f)) (in_good G past (pending G past) f)) × (q ≡ t)
pret_counts G w past c f xs t q i p n l d e =
    let u : Some t ≡ Some q = sym (ap (λ z. counted_read G past z) d) ∙ sym (flow_counts G past (pending G past) f p n l) ∙ e in
    let o : in_good G past (pending G past) f ≡ quiet = good_flow G past (pending G past) f p n l ∙ ap (λ z. of_read G past z) d in
    (subst (λ y. MayCount w (event_of good false c (reading_of (G.alone f)) y)) (sym o) (inr (subst IsPret (sym (front_line w.before (filler fill.pret) xs w.line i)) tt)), some_is (Some t) t q refl u)

-- a part of a packet
part_counts : (G : Grammar) (s : Sent G) (r : ℕ) (w : Direction) (past : Landings G) (n k more : ℕ) (xs : List Item) (c : Bool) (f : G.Flit) (t q : ℕ) → Goes G s r w past n k more xs c f → Carries G s t (part n k more) f → IsOrdered (in_good G past (pending G past) f) →
    counted_good G past (pending G past) f ≡ Some q → MayCount w (event_of good false c (reading_of (G.alone f)) (in_good G past (pending G past) f)) × (q ≡ t)
part_counts G s r w past n k (suc more) xs c f t q g h i e =
    let z = g.lands.laws.placed n k (suc more) xs g.lands.line in
    let u = lng_test G (s.front n) (pending G past) k (size w.first n) f g.behind g.lng g.first ∙ lt-ltb (k + 1) (size w.first n) (omega (arith, z.flits)) in
    absurd (none_some (counted_good G past (pending G past) f) q (gathers_none G past (pending G past) f u (first_tests G (s.front n) (pending G past) k (size w.first n) f g.behind (omega (arith, z.flits)) z.short g.first)) e)
part_counts G s r w past n k zero xs c f t q g h i e =
    let z = g.lands.laws.placed n k 0 xs g.lands.line in
    let u = lng_test G (s.front n) (pending G past) k (size w.first n) f g.behind g.lng g.first ∙ le-ltb (k + 1) (size w.first n) (omega (arith, z.flits)) in
    let v = ends_counts G past (pending G past) f u (first_tests G (s.front n) (pending G past) k (size w.first n) f g.behind (omega (arith, z.flits)) z.short g.first) in
    let d : G.read (pending G past ++ f ∷ []) ≡ reads.packet (s.packet n) t = ap (λ (y : List G.Flit). G.read (y ++ f ∷ [])) g.behind ∙ h in
    let y : Some t ≡ Some q = sym (ap (λ z. counted_read G past z) d) ∙ sym v ∙ e in
    let o = (ends G s r w past n k xs c f g).outcome in
    (by_order o i, some_is (Some t) t q refl y)
  where
    p : G.Packet
    p = s.packet n

    a : ℕ
    a = flits_of G (accepted_in G past)

    b : ℕ
    b = length (accepted_in G past)

    by_order : in_good G past (pending G past) f ≡ in_order G p a b → IsOrdered (in_good G past (pending G past) f) → MayCount w (event_of good false c (reading_of (G.alone f)) (in_good G past (pending G past) f))
    by_order o i =
        subst (λ y. MayCount w (event_of good false c (reading_of (G.alone f)) y)) (sym o)
        (order_counts G w c (reading_of (G.alone f)) p ((G.frp p == (a + G.flits p) % modulus_of G.profile) && (G.seq p == (b + 1) % 8))
        (nat_lt ((a % modulus_of G.profile + (modulus_of G.profile - G.frp p)) % modulus_of G.profile) (window_of G.profile)) (G.poisoned p) (subst IsOrdered o i))

between_counts : (G : Grammar) (s : Sent G) (r : ℕ) (w : Direction) (past : Landings G) (x : Item) (xs : List Item) (c : Bool) (f : G.Flit) → Lands G s r w past x xs c f → (c || is_spoilt G past) ≡ false →
    w.far ≡ far.between → (mode G past ≡ good) × (is_spoilt G past ≡ false) × (pending G past ≡ []) → ContinuesGathered far.between x → IsOrdered (in_good G past (pending G past) f) → (t q : ℕ) → Spelled G s w.first x f → Carries G s t x f →
    counted_good G past (pending G past) f ≡ Some q → MayCount w (event_of good false c (reading_of (G.alone f)) (in_good G past (pending G past) f)) × (q ≡ t)
between_counts G s r w past (filler fill.null) xs c f l h fr p z i t q d y e = absurd (none_some (counted_good G past (pending G past) f) q (null_none G past (pending G past) f p.2 d.0) e)
between_counts G s r w past (filler fill.train) xs c f l h fr p z i t q d y e = absurd (l.laws.trained xs (subst IsGood (sym fr) tt) l.line)
between_counts G s r w past (filler fill.pret) xs c f l h fr p z i t q d y e = pret_counts G w past c f xs t q l.line p.2 d.some d.lng y e
between_counts G s r w past (filler fill.start) xs c f l h fr p z i t q d y e = irtry_counts G s w past c f kinds.start t q l.matches p.2 d.some d.lng y.0 y.1 e
between_counts G s r w past clear xs c f l h fr p z i t q d y e = irtry_counts G s w past c f kinds.clear t q l.matches p.2 d.some d.lng y.0 y.1 e
between_counts G s r w past (part n k more) xs c f l h fr p z i t q d y e = part_counts G s r w past n k more xs c f t q (between_goes G s r w past n k more xs c f l h fr p z) y i e

inside_counts : (G : Grammar) (s : Sent G) (r : ℕ) (w : Direction) (past : Landings G) (x : Item) (xs : List Item) (c : Bool) (f : G.Flit) (m j : ℕ) → Lands G s r w past x xs c f → (c || is_spoilt G past) ≡ false →
    w.far ≡ far.inside m j → IsAt G s w.first (far.inside m j) (mode G past) (is_spoilt G past) (pending G past) → ContinuesGathered (far.inside m j) x → IsOrdered (in_good G past (pending G past) f) → (t q : ℕ) → Carries G s t x f →
    counted_good G past (pending G past) f ≡ Some q → MayCount w (event_of good false c (reading_of (G.alone f)) (in_good G past (pending G past) f)) × (q ≡ t)
inside_counts G s r w past (part n k more) xs c f m j l h fr p z i t q y e = part_counts G s r w past n k more xs c f t q (inside_goes G s r w past n k more xs c f m j l h fr p z) y i e
inside_counts G s r w past (filler x) xs c f m j l h fr p z i t q y e = absurd z
inside_counts G s r w past clear xs c f m j l h fr p z i t q y e = absurd z

-- the claim, in a mode
abbrev Counts : (G : Grammar) → Direction → (past : Landings G) → (c b : Bool) → G.Flit → (t q : ℕ) → Mode → Type 0
Counts G w past c b f t q m = counted_in G m past f ≡ Some q → MayCount w (event_of m b c (reading_of (G.alone f)) (in_mode G m past f)) × (q ≡ t)

good_counts : (G : Grammar) (s : Sent G) (r : ℕ) (w : Direction) (past : Landings G) (x : Item) (xs : List Item) (c : Bool) (f : G.Flit) → Lands G s r w past x xs c f → (t q : ℕ) → mode G past ≡ good →
    ((c || is_spoilt G past) ≡ false → Counts G w past c false f t q good) → Counts G w past c (c || is_spoilt G past) f t q good
good_counts G s r w past x xs c f l t q g h = by_touch (c || is_spoilt G past) refl
  where
    check : (m : Mode) → m ≡ good → checks G m past f ≡ false → checks_good G (pending G past) f ≡ false
    check training e h = absurd (cc e)
    check abort e h = absurd (cc e)
    check good e h = h

    by_touch : (b : Bool) → (c || is_spoilt G past) ≡ b → Counts G w past c b f t q good
    by_touch true e = λ z. absurd (none_some (counted_good G past (pending G past) f) q (fails_none G past (pending G past) f (check (mode G past) g (l.sound e))) z)
    by_touch false e = h e

by_place : (G : Grammar) (s : Sent G) (r : ℕ) (w : Direction) (past : Landings G) (x : Item) (xs : List Item) (c : Bool) (f : G.Flit) → Lands G s r w past x xs c f → (t q : ℕ) → (c ≡ false → Carries G s t x f) → (fr : Reached) → w.far ≡ fr →
    IsAt G s w.first fr (mode G past) (is_spoilt G past) (pending G past) → IsOrdered (outcome G past f) → Counts G w past c (c || is_spoilt G past) f t q (mode G past)
by_place G s r w past x xs c f l t q y far.training e p i = subst (λ m. Counts G w past c (c || is_spoilt G past) f t q m) (sym p.0) (λ z. absurd (none_some None q refl z))
by_place G s r w past x xs c f l t q y far.aborting e p i =
    subst (λ m. Counts G w past c (c || is_spoilt G past) f t q m) (sym p.0) (λ z. abort_counts G s r w past x xs c f l t y p.0 e (c || is_spoilt G past) q z)
by_place G s r w past x xs c f l t q y far.between e p i =
    subst (λ m. Counts G w past c (c || is_spoilt G past) f t q m) (sym p.0)
    (good_counts G s r w past x xs c f l t q p.0 (λ h z. let v = (or_parts c (is_spoilt G past) h).0 in
    between_counts G s r w past x xs c f l h e p (subst (λ u. ContinuesGathered u x) e (l.laws.gathered x xs l.line)) (subst (λ m. IsOrdered (in_mode G m past f)) p.0 i) t q (l.spelled v) (y v) z))
by_place G s r w past x xs c f l t q y (far.inside n k) e p i =
    subst (λ m. Counts G w past c (c || is_spoilt G past) f t q m) (sym p.0)
    (good_counts G s r w past x xs c f l t q p.0 (λ h z. let v = (or_parts c (is_spoilt G past) h).0 in
    inside_counts G s r w past x xs c f n k l h e p (subst (λ u. ContinuesGathered u x) e (l.laws.gathered x xs l.line)) (subst (λ m. IsOrdered (in_mode G m past f)) p.0 i) t q (y v) z))
by_place G s r w past x xs c f l t q y far.spoilt e p i =
    subst (λ m. Counts G w past c (c || is_spoilt G past) f t q m) (sym p.0)
    (good_counts G s r w past x xs c f l t q p.0 (λ h z. absurd (never (is_spoilt G past) p.1 (or_parts c (is_spoilt G past) h).1)))
  where
    never : (b : Bool) → b ≡ true → b ≡ false → ⊥
    never b e g = cc

-- A return pointer that is counted was sent with the flit, and its landing is one that may count.
pub counted_is : (G : Grammar) (s : Sent G) (r : ℕ) (w : Direction) (past : Landings G) (x : Item) (xs : List Item) (c : Bool) (f : G.Flit) → Lands G s r w past x xs c f → (t q : ℕ) → (c ≡ false → Carries G s t x f) → counted G past f ≡ Some q →
    MayCount w (event_of (mode G past) (c || is_spoilt G past) c (reading_of (G.alone f)) (outcome G past f)) × (q ≡ t)
counted_is G s r w past x xs c f l t q y e = by_place G s r w past x xs c f l t q y w.far refl l.matches.place (lands G s r w past x xs c f l).ordered e

-- Tests that compute whether an event may come, and what a list of events leads to. Lists are
-- walked with the oldest event first. Used by Worked and Needed.
use Rattle.std.proofs.Common.{◌≡◌, ℕ, zero, suc, ◌+◌, ◌%◌, ◌<◌, ◌≤◌, List, [], ◌∷◌, Bool, true, false, ◌&&◌, nat_le, nat_lt, nat_eq, refl, sym, ◌∙◌}
use Rattle.std.proofs.lemmas.Bool.{leb-true, ltb-true, eqb-true, le-leb, lt-ltb, eq-eqb, and_parts, and_from}
use Rattle.hmc_numbers.specs.Weights.{Weight, flits_to, HasValidSize}
use Rattle.hmc_numbers.specs.Direction.{Filler, Item, Reached, Direction, opening, begun, position, number_of, front_or}
use Rattle.hmc_numbers.specs.Direction.Filler.{null, train, pret, start}
use Rattle.hmc_numbers.specs.Direction.Item.{filler, clear, part}
use Rattle.hmc_numbers.specs.Direction.Reached.{training, aborting, between, inside, spoilt}
use Rattle.hmc_numbers.specs.Events.{Reading, Event, happens, after}
use Rattle.hmc_numbers.specs.Events.Reading.{plain, as_start, as_clear}
use Rattle.hmc_numbers.specs.Events.Event.{rests, sends_filler, sends_clear, begins, begins_through, begins_again, goes_on, acknowledges, drops, trains, opens, passes, gathers, accepts, repeats, spoils, breaks, unlocks}
use Rattle.hmc_numbers.specs.May.{IsFree, HasRoom, IsSome, IsNoPart, IsMiddle, IsEnd, CanReadAs, IsShut, IsGood, IsTouched, CanFill, May, MayAll}

-- a test that is true exactly where a fact holds
pub record Decides (b : Bool) (P : Type 0) : Type 0 where
  pub yes : b ≡ true → P
  pub no : P → b ≡ true

pub holds : Decides true (Unit {0})
holds = record { yes = λ q. tt; no = λ u. refl }

pub fails : Decides false ⊥
fails = record { yes = λ q. absurd (cc q); no = λ u. absurd u }

pub both : {P Q : Type 0} (a b : Bool) → Decides a P → Decides b Q → Decides (a && b) (P × Q)
both a b p q =
    record {
      yes = λ e. let z = and_parts a b e in (p.yes z.0, q.yes z.1);
      no = λ u. and_from a b (p.no u.0) (q.no u.1);
    }

pub equal : (m n : ℕ) → Decides (nat_eq m n) (m ≡ n)
equal m n = record { yes = λ q. eqb-true m n q; no = λ q. eq-eqb m n q }

pub at_most : (m n : ℕ) → Decides (nat_le m n) (m ≤ n)
at_most m n = record { yes = λ q. leb-true m n q; no = λ q. le-leb m n q }

below : (m n : ℕ) → Decides (nat_lt m n) (m < n)
below m n = record { yes = λ q. ltb-true m n q; no = λ q. lt-ltb m n q }

-- Lines and receivers

abbrev is_some : List Item → Bool
is_some [] = false
is_some (x ∷ xs) = true

decides_some : (xs : List Item) → Decides (is_some xs) (IsSome xs)
decides_some [] = fails
decides_some (x ∷ xs) = holds

abbrev is_no_part : List Item → Bool
is_no_part [] = false
is_no_part (part n k more ∷ xs) = false
is_no_part (x ∷ xs) = true

decides_no_part : (xs : List Item) → Decides (is_no_part xs) (IsNoPart xs)
decides_no_part [] = fails
decides_no_part (part n k more ∷ xs) = fails
decides_no_part (filler f ∷ xs) = holds
decides_no_part (clear ∷ xs) = holds

abbrev is_middle : List Item → Bool
is_middle (part n k (suc more) ∷ xs) = true
is_middle xs = false

decides_middle : (xs : List Item) → Decides (is_middle xs) (IsMiddle xs)
decides_middle [] = fails
decides_middle (part n k zero ∷ xs) = fails
decides_middle (part n k (suc more) ∷ xs) = holds
decides_middle (filler f ∷ xs) = fails
decides_middle (clear ∷ xs) = fails

abbrev is_end : List Item → Bool
is_end (part n k zero ∷ xs) = true
is_end xs = false

decides_end : (xs : List Item) → Decides (is_end xs) (IsEnd xs)
decides_end [] = fails
decides_end (part n k zero ∷ xs) = holds
decides_end (part n k (suc more) ∷ xs) = fails
decides_end (filler f ∷ xs) = fails
decides_end (clear ∷ xs) = fails

abbrev can_read : Item → Reading → Bool
can_read x plain = true
can_read (filler start) as_start = true
can_read (filler f) reading = false
can_read clear as_start = false
can_read clear as_clear = true
can_read (part n k more) reading = nat_le 1 k

decides_reading : (x : Item) (reading : Reading) → Decides (can_read x reading) (CanReadAs x reading)
decides_reading x plain = holds
decides_reading (filler start) as_start = holds
decides_reading (filler null) as_start = fails
decides_reading (filler train) as_start = fails
decides_reading (filler pret) as_start = fails
decides_reading (filler f) as_clear = fails
decides_reading clear as_start = fails
decides_reading clear as_clear = holds
decides_reading (part n k more) as_start = at_most 1 k
decides_reading (part n k more) as_clear = at_most 1 k

abbrev is_shut : Reached → Bool
is_shut training = true
is_shut aborting = true
is_shut far = false

decides_shut : (far : Reached) → Decides (is_shut far) (IsShut far)
decides_shut training = holds
decides_shut aborting = holds
decides_shut between = fails
decides_shut (inside n k) = fails
decides_shut spoilt = fails

abbrev is_good : Reached → Bool
is_good between = true
is_good (inside n k) = true
is_good far = false

decides_good : (far : Reached) → Decides (is_good far) (IsGood far)
decides_good between = holds
decides_good (inside n k) = holds
decides_good training = fails
decides_good aborting = fails
decides_good spoilt = fails

pub is_true : (c : Bool) → Decides c (c ≡ true)
is_true c = record { yes = λ q. q; no = λ q. q }

abbrev is_touched : Reached → Bool → Bool
is_touched between c = c
is_touched (inside n k) c = c
is_touched spoilt c = true
is_touched far c = false

decides_touched : (far : Reached) (c : Bool) → Decides (is_touched far c) (IsTouched far c)
decides_touched between c = is_true c
decides_touched (inside n k) c = is_true c
decides_touched spoilt c = holds
decides_touched training c = fails
decides_touched aborting c = fails

abbrev pub is_training : Reached → Bool
is_training training = true
is_training far = false

pub decides_training : (far : Reached) → Decides (is_training far) (far ≡ training)
decides_training training = record { yes = λ q. refl; no = λ u. refl }
decides_training aborting = record { yes = λ q. absurd (cc q); no = λ u. absurd (cc u) }
decides_training between = record { yes = λ q. absurd (cc q); no = λ u. absurd (cc u) }
decides_training (inside n k) = record { yes = λ q. absurd (cc q); no = λ u. absurd (cc u) }
decides_training spoilt = record { yes = λ q. absurd (cc q); no = λ u. absurd (cc u) }

abbrev pub is_aborting : Reached → Bool
is_aborting aborting = true
is_aborting far = false

pub decides_aborting : (far : Reached) → Decides (is_aborting far) (far ≡ aborting)
decides_aborting aborting = record { yes = λ q. refl; no = λ u. refl }
decides_aborting training = record { yes = λ q. absurd (cc q); no = λ u. absurd (cc u) }
decides_aborting between = record { yes = λ q. absurd (cc q); no = λ u. absurd (cc u) }
decides_aborting (inside n k) = record { yes = λ q. absurd (cc q); no = λ u. absurd (cc u) }
decides_aborting spoilt = record { yes = λ q. absurd (cc q); no = λ u. absurd (cc u) }

-- Events

abbrev is_free : Direction → Bool
is_free w = nat_eq w.left 0 && (nat_eq (w.clears % 32) 0 && nat_eq (position w) (begun w))

abbrev is_valid_size : Weight → Bool
is_valid_size s = nat_le 1 s.flits && nat_le s.flits 17

abbrev has_room : ℕ → Direction → Weight → Bool
has_room r w s = nat_le (flits_to w.first (begun w) + s.flits) (flits_to w.first w.acked + r)

abbrev can_fill : Direction → Filler → Bool
can_fill w train = nat_eq w.clears 0 && is_shut w.far
can_fill w f = true

abbrev front : Direction → Item
front w = front_or w.before w.line

abbrev pub may : ℕ → Direction → Event → Bool
may r w rests = true
may r w (sends_filler f) = nat_eq w.left 0 && can_fill w f
may r w sends_clear = nat_eq w.left 0
may r w (begins s) = is_free w && (is_valid_size s && has_room r w s)
may r w (begins_through s) = is_free w && (is_valid_size s && has_room r w s)
may r w begins_again =
    nat_eq w.left 0 && (nat_eq (w.clears % 32) 0 && nat_lt (position w) (begun w))
may r w goes_on = nat_le 1 w.left
may r w (acknowledges n) = nat_le w.acked n && nat_le n w.accepted
may r w (drops reading) = is_shut w.far && (is_some w.line && can_read (front w) reading)
may r w trains = is_training w.far && is_some w.line
may r w opens =
    is_aborting w.far && (is_some w.line && (can_read (front w) as_clear && nat_eq w.clear_run 23))
may r w (passes reading) = is_good w.far && (is_no_part w.line && can_read (front w) reading)
may r w gathers = is_good w.far && is_middle w.line
may r w accepts =
    is_good w.far && (is_end w.line && nat_eq (number_of (front w)) (w.accepted + 1))
may r w repeats = is_good w.far && (is_end w.line && nat_le (number_of (front w)) w.accepted)
may r w (spoils c) = is_touched w.far c && is_some w.line
may r w (breaks c) = is_touched w.far c && is_some w.line
may r w unlocks = true

pub three : {P Q R : Type 0} (a b c : Bool) → Decides a P → Decides b Q → Decides c R → Decides (a && (b && c)) (P × Q × R)
three a b c p q r =
    record {
      yes = λ e. let y = and_parts a (b && c) e in let z = and_parts b c y.1 in (p.yes y.0, q.yes z.0, r.yes z.1);
      no = λ u. and_from a (b && c) (p.no u.0) (and_from b c (q.no u.1) (r.no u.2));
    }

four : {P Q R S : Type 0} (a b c d : Bool) → Decides a P → Decides b Q → Decides c R → Decides d S → Decides (a && (b && (c && d))) (P × Q × R × S)
four a b c d p q r s =
    record {
      yes = λ e. let x = and_parts a (b && (c && d)) e in let y = and_parts b (c && d) x.1 in let z = and_parts c d y.1 in (p.yes x.0, q.yes y.0, r.yes z.0, s.yes z.1);
      no = λ u. and_from a (b && (c && d)) (p.no u.0) (and_from b (c && d) (q.no u.1) (and_from c d (r.no u.2) (s.no u.3)));
    }

decides_free : (w : Direction) → Decides (is_free w) (IsFree w)
decides_free w = three _ _ _ (equal w.left 0) (equal (w.clears % 32) 0) (equal (position w) (begun w))

decides_valid_size : (s : Weight) → Decides (is_valid_size s) (HasValidSize s)
decides_valid_size s = both _ _ (at_most 1 s.flits) (at_most s.flits 17)

decides_room : (r : ℕ) (w : Direction) (s : Weight) → Decides (has_room r w s) (HasRoom r w s)
decides_room r w s = at_most (flits_to w.first (begun w) + s.flits) (flits_to w.first w.acked + r)

decides_fill : (w : Direction) (f : Filler) → Decides (can_fill w f) (CanFill w f)
decides_fill w train = both _ _ (equal w.clears 0) (decides_shut w.far)
decides_fill w null = holds
decides_fill w pret = holds
decides_fill w start = holds

pub decides_may : (r : ℕ) (w : Direction) (e : Event) → Decides (may r w e) (May r w e)
decides_may r w rests = holds
decides_may r w (sends_filler f) = both _ _ (equal w.left 0) (decides_fill w f)
decides_may r w sends_clear = equal w.left 0
decides_may r w (begins s) = three _ _ _ (decides_free w) (decides_valid_size s) (decides_room r w s)
decides_may r w (begins_through s) = three _ _ _ (decides_free w) (decides_valid_size s) (decides_room r w s)
decides_may r w begins_again = three _ _ _ (equal w.left 0) (equal (w.clears % 32) 0) (below (position w) (begun w))
decides_may r w goes_on = at_most 1 w.left
decides_may r w (acknowledges n) = both _ _ (at_most w.acked n) (at_most n w.accepted)
decides_may r w (drops reading) = three _ _ _ (decides_shut w.far) (decides_some w.line) (decides_reading (front w) reading)
decides_may r w trains = both _ _ (decides_training w.far) (decides_some w.line)
decides_may r w opens = four _ _ _ _ (decides_aborting w.far) (decides_some w.line) (decides_reading (front w) as_clear) (equal w.clear_run 23)
decides_may r w (passes reading) = three _ _ _ (decides_good w.far) (decides_no_part w.line) (decides_reading (front w) reading)
decides_may r w gathers = both _ _ (decides_good w.far) (decides_middle w.line)
decides_may r w accepts = three _ _ _ (decides_good w.far) (decides_end w.line) (equal (number_of (front w)) (w.accepted + 1))
decides_may r w repeats = three _ _ _ (decides_good w.far) (decides_end w.line) (at_most (number_of (front w)) w.accepted)
decides_may r w (spoils c) = both _ _ (decides_touched w.far c) (decides_some w.line)
decides_may r w (breaks c) = both _ _ (decides_touched w.far c) (decides_some w.line)
decides_may r w unlocks = holds

-- Lists, the oldest event first

-- what a list leads to, and whether each of its events might come
pub record Walk : Type 0 where
  pub reached : Direction
  pub might : Bool

abbrev pub walk : ℕ → Direction → Bool → List Event → Walk
walk r w b [] = record { reached = w; might = b }
walk r w b (e ∷ es) = walk r (happens w e) (b && may r w e) es

-- the list with the newest first, before past
abbrev pub onto : List Event → List Event → List Event
onto [] past = past
onto (e ∷ es) past = onto es (e ∷ past)

abbrev pub walked : ℕ → List Event → Walk
walked r es = walk r opening true es

reached_onto : (r : ℕ) (past es : List Event) (b : Bool) → (walk r (after past) b es).reached ≡ after (onto es past)
reached_onto r past [] b = refl
reached_onto r past (e ∷ es) b = reached_onto r (e ∷ past) es (b && may r (after past) e)

might_onto : (r : ℕ) (past es : List Event) (b : Bool) → (walk r (after past) b es).might ≡ true → (b ≡ true) × (MayAll r past → MayAll r (onto es past))
might_onto r past [] b q = (q, λ m. m)
might_onto r past (e ∷ es) b q =
    let h = might_onto r (e ∷ past) es (b && may r (after past) e) q in
    let z = and_parts b (may r (after past) e) h.0 in
    (z.0, λ m. h.1 ((decides_may r (after past) e).yes z.1, m))

pub reached_is : (r : ℕ) (es : List Event) → (walked r es).reached ≡ after (onto es [])
reached_is r es = reached_onto r [] es true

pub all_might : (r : ℕ) (es : List Event) → (walked r es).might ≡ true → MayAll r (onto es [])
all_might r es q = (might_onto r [] es true q).1 tt

-- an event may not come after a list
pub record MayNot (r : ℕ) (es : List Event) (e : Event) : Type 0 where
  pub refuses : May r (walked r es).reached e → ⊥

pub refused : {r : ℕ} {es : List Event} {e : Event} → may r (walked r es).reached e ≡ false → MayNot r es e
refused {r} {es} {e} q = record { refuses = λ m. absurd (cc (sym q ∙ (decides_may r (walked r es).reached e).no m)) }

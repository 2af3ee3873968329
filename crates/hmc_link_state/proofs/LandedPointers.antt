-- What a landing leaves of the return pointers on the line.
use Rattle.std.proofs.Common.{◌≡◌, ℕ, zero, suc, ◌≤◌, nat_le, Bool, true, false, if◌then◌else◌, List, [], ◌∷◌, length, ◌⊎◌, inl, inr, refl, sym, ap, subst, arith}
use Rattle.std.proofs.lemmas.Grind.{common_steps}
use Rattle.hmc_numbers.specs.Direction.{Item, Reached, Direction, rest, front_or}
use Rattle.hmc_numbers.specs.Direction.Item.{filler, clear, part}
use Rattle.hmc_numbers.specs.Direction.Filler.{null, train, start, pret}
use Rattle.hmc_numbers.specs.Direction.Reached.{training, aborting, between, inside, spoilt}
use Rattle.hmc_numbers.specs.Events.{Reading, Event, happens, clear_run_after, start_run_after}
use Rattle.hmc_numbers.specs.Events.Reading.{plain, as_start, as_clear}
use Rattle.hmc_numbers.specs.Events.Event.{rests, sends_filler, sends_clear, begins, begins_through, begins_again, goes_on, acknowledges, drops, trains, opens, passes, gathers, accepts, repeats, spoils, breaks, unlocks}
use Rattle.hmc_numbers.specs.May.{IsGood, IsShut, IsSome, IsNoPart, IsMiddle, IsEnd, May}
use Rattle.hmc_numbers.specs.Pair.{Half, other_after, front_stamp, rest_of_stamps}
use Rattle.hmc_numbers.specs.Turns.{MayCount, IsLong, IsPret}
use Rattle.hmc_numbers.proofs.Step.{clear_front}
use Rattle.hmc_link_state.specs.State.{Setup, Side, wire}
use Rattle.hmc_link_state.specs.Facts.{acked_by, clears_by, starts_by, Counted, CountedLater, SideFacts}
use Rattle.hmc_link_state.specs.Landing.{move_of, reading_of, Lands}
use Rattle.hmc_link_state.proofs.Counting.{IsAckedOf, long_if}
use Rattle.hmc_link_state.proofs.LandedEvents.{may_count, some_no_part}

-- Pointers

pub later_rest : (E : ℕ → ℕ → ℕ → Type 0) (ns : List ℕ) (xs : List Item) → CountedLater E ns xs →
    CountedLater E (rest_of_stamps ns) (rest xs)
later_rest E ns [] h = tt
later_rest E ns (clear ∷ xs) h = h.1
later_rest E ns (filler f ∷ xs) h = h
later_rest E ns (part m k more ∷ xs) h = h

pub front_same : (ns : List ℕ) (a b : ℕ) → 1 ≤ length ns → front_stamp a ns ≡ front_stamp b ns
front_same [] a b l = absurd (omega (arith, l))
front_same (n ∷ ns) a b l = refl

later_front : (E : ℕ → ℕ → ℕ → Type 0) (a : ℕ) (ns : List ℕ) (x : Item) (xs : List Item) →
    length ns ≡ length xs → IsSome xs → front_or x xs ≡ clear → CountedLater E ns xs →
    Counted E (front_stamp a ns) 24 0 (rest_of_stamps ns) (rest xs)
later_front E a ns x [] l i q h = absurd i
later_front E a ns x (clear ∷ xs) l i q h =
    subst (λ n. Counted E n 24 0 (rest_of_stamps ns) xs) (front_same ns 0 a (omega (arith, l))) h.0
later_front E a ns x (filler f ∷ xs) l i q h = absurd (cc q)
later_front E a ns x (part m k more ∷ xs) l i q h = absurd (cc q)

counted_front : (E : ℕ → ℕ → ℕ → Type 0) (a c s : ℕ) (ns : List ℕ) (x : Item) (xs : List Item) →
    IsSome xs → Counted E a c s ns xs →
    Counted E (acked_by (front_or x xs) c s (front_stamp a ns) a) (clears_by (front_or x xs) c)
    (starts_by (front_or x xs) s) (rest_of_stamps ns) (rest xs)
counted_front E a c s ns x [] i h = absurd i
counted_front E a c s ns x (y ∷ ys) i h = h

-- what a landing in Good does to the three numbers
pub record Steps (x : Item) (a c s n a' c' s' : ℕ) : Type 0 where
  pub acked : a' ≡ acked_by x c s n a
  pub clears : c' ≡ clears_by x c
  pub starts : s' ≡ starts_by x s

pub taken : (own other : Half) (b : Bool) (e : Event) →
    (other_after own other (move_of b e)).direction.acked ≡ (if b then front_stamp
    other.direction.acked own.stamps else other.direction.acked)
taken own other true e = refl
taken own other false e = refl

long_false : (s n a : ℕ) → (23 ≤ s → ⊥) → (if nat_le 23 s then n else a) ≡ a
long_false s n a h =
    let e : nat_le 23 s ≡ false = grind (arith, common_steps) in ap (λ b. if b then n else a) e

by_long : (b : Bool) (s n a : ℕ) → (b ≡ true → 23 ≤ s) → (23 ≤ s → b ≡ true) →
    (if b then n else a) ≡ (if nat_le 23 s then n else a)
by_long true s n a f g = sym (long_if s n a (f refl))
by_long false s n a f g = sym (long_false s n a (λ l. absurd (cc (g l))))

not_taken : (b : Bool) (n a : ℕ) → (b ≡ true → ⊥) → (if b then n else a) ≡ a
not_taken true n a f = absurd (f refl)
not_taken false n a f = refl

is_taken : (b : Bool) (n a : ℕ) → b ≡ true → (if b then n else a) ≡ n
is_taken b n a q = ap (λ d. if d then n else a) q

only : {A : Type 0} → A ⊎ ⊥ → A
only (inl h) = h
only (inr h) = absurd h

none : ⊥ ⊎ ⊥ → ⊥
none (inl h) = h
none (inr h) = h

passes_steps : (w : Direction) (b : Bool) (reading : Reading) (x : Item) (n a : ℕ) →
    reading ≡ reading_of x → (b ≡ true → IsLong w reading ⊎ IsPret x) →
    (IsLong w reading ⊎ IsPret x → b ≡ true) → (IsNoPart (x ∷ [])) →
    Steps x a w.clear_run w.start_run n (if b then n else a) (clear_run_after reading w.clear_run)
    (start_run_after reading w.start_run)
passes_steps w b plain (filler null) n a q f g i =
    record { acked = not_taken b n a (λ t. none (f t)); clears = refl; starts = refl }
passes_steps w b plain (filler train) n a q f g i =
    record { acked = not_taken b n a (λ t. none (f t)); clears = refl; starts = refl }
passes_steps w b plain (filler pret) n a q f g i =
    record { acked = is_taken b n a (g (inr tt)); clears = refl; starts = refl }
passes_steps w b as_start (filler start) n a q f g i =
    record {
      acked = by_long b w.start_run n a (λ t. only (f t)) (λ l. g (inl l));
      clears = refl;
      starts = refl;
    }
passes_steps w b as_clear clear n a q f g i =
    record {
      acked = by_long b w.clear_run n a (λ t. only (f t)) (λ l. g (inl l));
      clears = refl;
      starts = refl;
    }
passes_steps w b plain (filler start) n a q f g i = absurd (cc q)
passes_steps w b plain clear n a q f g i = absurd (cc q)
passes_steps w b as_start (filler null) n a q f g i = absurd (cc q)
passes_steps w b as_start (filler train) n a q f g i = absurd (cc q)
passes_steps w b as_start (filler pret) n a q f g i = absurd (cc q)
passes_steps w b as_start clear n a q f g i = absurd (cc q)
passes_steps w b as_clear (filler null) n a q f g i = absurd (cc q)
passes_steps w b as_clear (filler train) n a q f g i = absurd (cc q)
passes_steps w b as_clear (filler pret) n a q f g i = absurd (cc q)
passes_steps w b as_clear (filler start) n a q f g i = absurd (cc q)
passes_steps w b reading (part m k more) n a q f g i = absurd i

no_part_front : (x : Item) (xs : List Item) → IsNoPart xs → IsNoPart (front_or x xs ∷ [])
no_part_front x [] i = absurd i
no_part_front x (filler f ∷ xs) i = tt
no_part_front x (clear ∷ xs) i = tt
no_part_front x (part m k more ∷ xs) i = absurd i

pub some_middle : (xs : List Item) → IsMiddle xs → IsSome xs
some_middle [] c = absurd c
some_middle (x ∷ xs) c = tt

pub some_end : (xs : List Item) → IsEnd xs → IsSome xs
some_end [] c = absurd c
some_end (x ∷ xs) c = tt

middle_steps : (x : Item) (xs : List Item) (a c s n : ℕ) → IsMiddle xs →
    Steps (front_or x xs) a c s n a 0 0
middle_steps x [] a c s n i = absurd i
middle_steps x (filler f ∷ xs) a c s n i = absurd i
middle_steps x (clear ∷ xs) a c s n i = absurd i
middle_steps x (part m k zero ∷ xs) a c s n i = absurd i
middle_steps x (part m k (suc more) ∷ xs) a c s n i =
    record { acked = refl; clears = refl; starts = refl }

end_steps : (x : Item) (xs : List Item) (a c s n : ℕ) → IsEnd xs →
    Steps (front_or x xs) a c s n n 0 0
end_steps x [] a c s n i = absurd i
end_steps x (filler f ∷ xs) a c s n i = absurd i
end_steps x (clear ∷ xs) a c s n i = absurd i
end_steps x (part m k (suc more) ∷ xs) a c s n i = absurd i
end_steps x (part m k zero ∷ xs) a c s n i = record { acked = refl; clears = refl; starts = refl }

-- from the line to what is after its front
pub stepped : (E : ℕ → ℕ → ℕ → Type 0) (a c s a' c' s' : ℕ) (ns : List ℕ) (x : Item)
    (xs : List Item) → IsSome xs → Steps (front_or x xs) a c s (front_stamp a ns) a' c' s' →
    Counted E a c s ns xs →
    Counted E a' c' s' (rest_of_stamps ns) (rest xs)
stepped E a c s a' c' s' ns x xs i t h =
    subst (λ m. Counted E m c' s' (rest_of_stamps ns) (rest xs)) (sym t.acked)
    (subst (λ m. Counted E (acked_by (front_or x xs) c s (front_stamp a ns) a) m s'
    (rest_of_stamps ns) (rest xs)) (sym t.clears)
    (subst (λ m. Counted E (acked_by (front_or x xs) c s (front_stamp a ns) a)
    (clears_by (front_or x xs) c) m (rest_of_stamps ns) (rest xs)) (sym t.starts)
    (counted_front E a c s ns x xs i h)))

abbrev pub Taken : (own other : Side) → Bool → ℕ
Taken own other b =
    if b then front_stamp (wire other).acked own.half.stamps else (wire other).acked

good_not_shut : (far : Reached) → IsGood far → IsShut far → ⊥
good_not_shut between g s = s
good_not_shut (inside n k) g s = s
good_not_shut training g s = g
good_not_shut aborting g s = g
good_not_shut spoilt g s = g

good_not_abort : (far : Reached) → IsGood far → far ≡ aborting → ⊥
good_not_abort between g q = cc q
good_not_abort (inside n k) g q = cc q
good_not_abort training g q = g
good_not_abort aborting g q = g
good_not_abort spoilt g q = g

-- what a landing does in Good that leaves the receiver in Good
pub good_steps : (c : Setup) (own other : Side) (e : Event) (b ran : Bool) (ms : ℕ) (bf : List ℕ) →
    Lands c own other e b ran ms bf → May c.retry (wire own) e → IsGood (wire own).far →
    IsGood (happens (wire own) e).far →
    Steps (front_or (wire own).before (wire own).line) (wire other).acked (wire own).clear_run
    (wire own).start_run (front_stamp (wire other).acked own.half.stamps) (Taken own other b)
    (happens (wire own) e).clear_run (happens (wire own) e).start_run
good_steps c own other rests b ran ms bf l m k g = absurd l.landing
good_steps c own other (sends_filler x) b ran ms bf l m k g = absurd l.landing
good_steps c own other sends_clear b ran ms bf l m k g = absurd l.landing
good_steps c own other (begins x) b ran ms bf l m k g = absurd l.landing
good_steps c own other (begins_through x) b ran ms bf l m k g = absurd l.landing
good_steps c own other begins_again b ran ms bf l m k g = absurd l.landing
good_steps c own other goes_on b ran ms bf l m k g = absurd l.landing
good_steps c own other (acknowledges x) b ran ms bf l m k g = absurd l.landing
good_steps c own other unlocks b ran ms bf l m k g = absurd l.landing
good_steps c own other (drops reading) b ran ms bf l m k g =
    absurd (good_not_shut (wire own).far k m.0)
good_steps c own other trains b ran ms bf l m k g = absurd g
good_steps c own other opens b ran ms bf l m k g = absurd (good_not_abort (wire own).far k m.0)
good_steps c own other (passes reading) b ran ms bf l m k g =
    let w = wire own in
    passes_steps w b reading (front_or w.before w.line)
    (front_stamp (wire other).acked own.half.stamps) (wire other).acked l.proper
    (may_count c.retry c.tokens own.half other.half b (passes reading) l.may) l.counted
    (no_part_front w.before w.line m.1)
good_steps c own other gathers b ran ms bf l m k g =
    let w = wire own in
    subst (λ n. Steps (front_or w.before w.line) (wire other).acked w.clear_run w.start_run
    (front_stamp (wire other).acked own.half.stamps) n 0 0)
    (sym (not_taken b (front_stamp (wire other).acked own.half.stamps) (wire other).acked
    (may_count c.retry c.tokens own.half other.half b gathers l.may)))
    (middle_steps w.before w.line (wire other).acked w.clear_run w.start_run
    (front_stamp (wire other).acked own.half.stamps) m.1)
good_steps c own other accepts b ran ms bf l m k g =
    let w = wire own in
    subst (λ n. Steps (front_or w.before w.line) (wire other).acked w.clear_run w.start_run
    (front_stamp (wire other).acked own.half.stamps) n 0 0)
    (sym (is_taken b (front_stamp (wire other).acked own.half.stamps) (wire other).acked
    (l.counted tt)))
    (end_steps w.before w.line (wire other).acked w.clear_run w.start_run
    (front_stamp (wire other).acked own.half.stamps) m.1)
good_steps c own other repeats b ran ms bf l m k g =
    let w = wire own in
    subst (λ n. Steps (front_or w.before w.line) (wire other).acked w.clear_run w.start_run
    (front_stamp (wire other).acked own.half.stamps) n 0 0)
    (sym (is_taken b (front_stamp (wire other).acked own.half.stamps) (wire other).acked
    (l.counted tt)))
    (end_steps w.before w.line (wire other).acked w.clear_run w.start_run
    (front_stamp (wire other).acked own.half.stamps) m.1)
good_steps c own other (spoils d) b ran ms bf l m k g = absurd g
good_steps c own other (breaks d) b ran ms bf l m k g = absurd g

pub ack_after_landing : (c : Setup) (own other : Side) (e : Event) (b ran : Bool) (ms : ℕ)
    (bf : List ℕ) → Lands c own other e b ran ms bf → SideFacts c own other →
    May c.retry (wire own) e → (b ≡ true → MayCount (wire own) e) →
    IsGood (happens (wire own) e).far →
    Counted (IsAckedOf own) (Taken own other b) (happens (wire own) e).clear_run
    (happens (wire own) e).start_run (rest_of_stamps own.half.stamps) (rest (wire own).line)
ack_after_landing c own other rests b ran ms bf l f m k g = absurd l.landing
ack_after_landing c own other (sends_filler x) b ran ms bf l f m k g = absurd l.landing
ack_after_landing c own other sends_clear b ran ms bf l f m k g = absurd l.landing
ack_after_landing c own other (begins x) b ran ms bf l f m k g = absurd l.landing
ack_after_landing c own other (begins_through x) b ran ms bf l f m k g = absurd l.landing
ack_after_landing c own other begins_again b ran ms bf l f m k g = absurd l.landing
ack_after_landing c own other goes_on b ran ms bf l f m k g = absurd l.landing
ack_after_landing c own other (acknowledges x) b ran ms bf l f m k g = absurd l.landing
ack_after_landing c own other unlocks b ran ms bf l f m k g = absurd l.landing
ack_after_landing c own other (drops reading) b ran ms bf l f m k g =
    absurd (good_not_shut (wire own).far g m.0)
ack_after_landing c own other trains b ran ms bf l f m k g = absurd g
ack_after_landing c own other opens b ran ms bf l f m k g =
    let w = wire own in
    let q : front_or w.before w.line ≡ clear =
    clear_front c.retry w f.joined.order m.1 m.2 (omega (arith, m.3)) in
    let z : Counted (IsAckedOf own) (front_stamp (wire other).acked own.half.stamps) 24 0
    (rest_of_stamps own.half.stamps) (rest w.line) =
    later_front (IsAckedOf own) (wire other).acked own.half.stamps w.before w.line
    f.joined.stamped m.1 q f.later in
    let r : 24 ≡ suc w.clear_run = omega (arith, m.3) in
    subst (λ n. Counted (IsAckedOf own) n (suc w.clear_run) 0 (rest_of_stamps own.half.stamps)
    (rest w.line))
    (sym (is_taken b (front_stamp (wire other).acked own.half.stamps) (wire other).acked
    (l.counted tt)))
    (subst (λ n. Counted (IsAckedOf own) (front_stamp (wire other).acked own.half.stamps) n 0
    (rest_of_stamps own.half.stamps) (rest w.line)) r z)
ack_after_landing c own other (passes reading) b ran ms bf l f m k g =
    let w = wire own in
    stepped (IsAckedOf own) (wire other).acked w.clear_run w.start_run (Taken own other b)
    (clear_run_after reading w.clear_run) (start_run_after reading w.start_run) own.half.stamps
    w.before w.line (some_no_part w.line m.1)
    (passes_steps w b reading (front_or w.before w.line)
    (front_stamp (wire other).acked own.half.stamps) (wire other).acked l.proper k l.counted
    (no_part_front w.before w.line m.1)) (f.counted m.0)
ack_after_landing c own other gathers b ran ms bf l f m k g =
    let w = wire own in
    subst (λ n. Counted (IsAckedOf own) n 0 0 (rest_of_stamps own.half.stamps) (rest w.line))
    (sym (not_taken b (front_stamp (wire other).acked own.half.stamps) (wire other).acked k))
    (stepped (IsAckedOf own) (wire other).acked w.clear_run w.start_run (wire other).acked 0 0
    own.half.stamps w.before w.line (some_middle w.line m.1)
    (middle_steps w.before w.line (wire other).acked w.clear_run w.start_run
    (front_stamp (wire other).acked own.half.stamps) m.1) (f.counted m.0))
ack_after_landing c own other accepts b ran ms bf l f m k g =
    let w = wire own in
    subst (λ n. Counted (IsAckedOf own) n 0 0 (rest_of_stamps own.half.stamps) (rest w.line))
    (sym (is_taken b (front_stamp (wire other).acked own.half.stamps) (wire other).acked
    (l.counted tt)))
    (stepped (IsAckedOf own) (wire other).acked w.clear_run w.start_run
    (front_stamp (wire other).acked own.half.stamps) 0 0 own.half.stamps w.before w.line
    (some_end w.line m.1)
    (end_steps w.before w.line (wire other).acked w.clear_run w.start_run
    (front_stamp (wire other).acked own.half.stamps) m.1) (f.counted m.0))
ack_after_landing c own other repeats b ran ms bf l f m k g =
    let w = wire own in
    subst (λ n. Counted (IsAckedOf own) n 0 0 (rest_of_stamps own.half.stamps) (rest w.line))
    (sym (is_taken b (front_stamp (wire other).acked own.half.stamps) (wire other).acked
    (l.counted tt)))
    (stepped (IsAckedOf own) (wire other).acked w.clear_run w.start_run
    (front_stamp (wire other).acked own.half.stamps) 0 0 own.half.stamps w.before w.line
    (some_end w.line m.1)
    (end_steps w.before w.line (wire other).acked w.clear_run w.start_run
    (front_stamp (wire other).acked own.half.stamps) m.1) (f.counted m.0))
ack_after_landing c own other (spoils d) b ran ms bf l f m k g = absurd g
ack_after_landing c own other (breaks d) b ran ms bf l f m k g = absurd g

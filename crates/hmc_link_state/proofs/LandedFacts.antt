-- A landing keeps the facts, whatever the masks.
use Rattle.std.proofs.Common.{◌≡◌, ◌≢◌, ℕ, zero, suc, ◌%◌, ◌≤◌, Bool, true, false, if◌then◌else◌, List, [], ◌∷◌, length, ◌⊎◌, refl, sym, ◌∙◌, subst, arith}
use Rattle.hmc_numbers.specs.Direction.{Item, Direction, rest, front_or}
use Rattle.hmc_numbers.specs.Direction.Item.{filler, clear, part}
use Rattle.hmc_numbers.specs.Direction.Filler.{null, train, start, pret}
use Rattle.hmc_numbers.specs.Direction.Reached.{training, aborting}
use Rattle.hmc_numbers.specs.Events.{Event, happens}
use Rattle.hmc_numbers.specs.Events.Reading.{plain, as_start, as_clear}
use Rattle.hmc_numbers.specs.Events.Event.{rests, sends_filler, sends_clear, begins, begins_through, begins_again, goes_on, acknowledges, drops, trains, opens, passes, gathers, accepts, repeats, spoils, breaks, unlocks}
use Rattle.hmc_numbers.specs.May.{IsSome, May}
use Rattle.hmc_numbers.specs.Pair.{Half, event_at, other_after, front_stamp, rest_of_stamps}
use Rattle.hmc_numbers.specs.PairLaws.{Points}
use Rattle.hmc_numbers.proofs.PairLaws.{points}
use Rattle.hmc_numbers.proofs.Trained.{stays_shut}
use Rattle.hmc_numbers.proofs.Together.{Joined, own_moved, other_moved}
use Rattle.hmc_link_state.specs.State.{Setup, Side, wire}
use Rattle.hmc_link_state.specs.Facts.{AreTraining, Counted, CountedLater, IsAcked, IsNotStart, Spaced, PointUpTo, Untrained, SideFacts}
use Rattle.hmc_link_state.specs.Landing.{IsLanding, move_of, Lands, land, took}
use Rattle.hmc_link_state.proofs.Counting.{IsAckedOf}
use Rattle.hmc_link_state.proofs.Lines.{lands_rest}
use Rattle.hmc_link_state.proofs.LandedEvents.{SameSender, lands_same, land_half, stamps_rest, may_here, may_count, may_of, was_training, short_rest, training_rest, some_no_part, never_ran}
use Rattle.hmc_link_state.proofs.LandedPointers.{later_rest, front_same, taken, some_middle, some_end, Taken, ack_after_landing}

ran_false : (b o : Bool) → (b ≡ true → ⊥) → o ≡ false → (if b then true else o) ≡ false
ran_false true o h q = absurd (h refl)
ran_false false o h q = q

took_first : (own other : Half) (b : Bool) (e : Event) →
    (other_after own other (move_of b e)).direction.first ≡ other.direction.first
took_first own other true e = refl
took_first own other false e = refl

pub took_far : (own other : Half) (b : Bool) (e : Event) →
    (other_after own other (move_of b e)).direction.far ≡ other.direction.far
took_far own other true e = refl
took_far own other false e = refl

point_rest : (n : ℕ) (ns : List ℕ) (xs : List Item) → PointUpTo n ns xs →
    PointUpTo n (rest_of_stamps ns) (rest xs)
point_rest n ns [] h = tt
point_rest n ns (x ∷ xs) h = h.1

point_front : (n a : ℕ) (ns : List ℕ) (x : Item) (xs : List Item) → length ns ≡ length xs →
    IsSome xs → Points (front_or x xs) → PointUpTo n ns xs → front_stamp a ns ≤ n
point_front n a ns x [] l i p h = absurd i
point_front n a ns x (y ∷ ys) l i p h =
    let z = front_same ns 0 a (omega (arith, l)) in let w = h.0 p in omega (arith, z, w)

some_line : (r : ℕ) (w : Direction) (e : Event) → IsLanding e → May r w e → IsSome w.line
some_line r w (drops look) i m = m.1
some_line r w trains i m = m.1
some_line r w opens i m = m.1
some_line r w (passes look) i m = some_no_part w.line m.1
some_line r w gathers i m = some_middle w.line m.1
some_line r w accepts i m = some_end w.line m.1
some_line r w repeats i m = some_end w.line m.1
some_line r w (spoils d) i m = m.1
some_line r w (breaks d) i m = m.1
some_line r w e i m = absurd i

some_front_line : (x : Item) (xs : List Item) → IsSome xs → xs ≡ front_or x xs ∷ rest xs
some_front_line x [] i = absurd i
some_front_line x (y ∷ ys) i = refl

least_landed : (c : Setup) (own other : Side) (e : Event) (b ran : Bool) (ms : ℕ) (bf : List ℕ) →
    Lands c own other e b ran ms bf → SideFacts c own other → May c.retry (wire own) e →
    (t : Bool) → b ≡ t →
    (if t then front_stamp (wire other).acked own.half.stamps else (wire other).acked) ≤
    own.ack_sent
least_landed c own other e b ran ms bf l f m false q = f.least
least_landed c own other e b ran ms bf l f m true q =
    let s = some_line c.retry (wire own) e l.landing m in
    let p : Points (front_or (wire own).before (wire own).line) =
    points c.retry c.tokens own.half other.half f.joined.order e
    (may_here c.retry c.tokens own.half other.half b e l.may)
    (may_count c.retry c.tokens own.half other.half b e l.may q)
    (front_or (wire own).before (wire own).line) (rest (wire own).line)
    (some_front_line (wire own).before (wire own).line s) in
    point_front own.ack_sent (wire other).acked own.half.stamps (wire own).before (wire own).line
    f.joined.stamped s p f.pointed

pub lands_up : (w : Direction) (e : Event) → IsLanding e → w.accepted ≤ (happens w e).accepted
lands_up w accepts h = omega arith
lands_up w (drops look) h = omega arith
lands_up w trains h = omega arith
lands_up w opens h = omega arith
lands_up w (passes look) h = omega arith
lands_up w gathers h = omega arith
lands_up w repeats h = omega arith
lands_up w (spoils c) h = omega arith
lands_up w (breaks c) h = omega arith
lands_up w e h = absurd h

took_accepted : (own other : Half) (b : Bool) (e : Event) →
    (other_after own other (move_of b e)).direction.accepted ≡ other.direction.accepted
took_accepted own other true e = refl
took_accepted own other false e = refl

few_landed : (r : ℕ) (w : Direction) (e : Event) → IsLanding e →
    (e ≡ drops as_clear → w.far ≡ aborting → w.clear_run ≢ 23) →
    (w.far ≡ aborting → w.clear_run ≤ 23) → (happens w e).far ≡ aborting →
    (happens w e).clear_run ≤ 23
few_landed r w (drops as_clear) i h f q = omega (arith, h refl q, f q)
few_landed r w (drops plain) i h f q = omega arith
few_landed r w (drops as_start) i h f q = omega arith
few_landed r w trains i h f q = omega arith
few_landed r w opens i h f q = absurd (cc q)
few_landed r w (passes reading) i h f q = absurd (cc q)
few_landed r w gathers i h f q = absurd (cc q)
few_landed r w accepts i h f q = absurd (cc q)
few_landed r w repeats i h f q = absurd (cc q)
few_landed r w (spoils d) i h f q = absurd (cc q)
few_landed r w (breaks d) i h f q = omega arith
few_landed r w e i h f q = absurd i

pub lands_before : (w : Direction) (e : Event) → IsLanding e →
    (happens w e).before ≡ front_or w.before w.line
lands_before w rests q = absurd q
lands_before w (sends_filler f) q = absurd q
lands_before w sends_clear q = absurd q
lands_before w (begins s) q = absurd q
lands_before w (begins_through s) q = absurd q
lands_before w begins_again q = absurd q
lands_before w goes_on q = absurd q
lands_before w (acknowledges m) q = absurd q
lands_before w unlocks q = absurd q
lands_before w e q = refl

abbrev pub SpacedAt : (s o : ℕ) → Item → List Item → Type 0
SpacedAt s o z xs = (g : ℕ) × (j : ℕ) × Spaced s o z g j xs × (1 ≤ g → IsNotStart z)

spaced_rest : (s o : ℕ) (z : Item) (g j : ℕ) (xs : List Item) → Spaced s o z g j xs →
    (1 ≤ g → IsNotStart z) → SpacedAt s o (front_or z xs) (rest xs)
spaced_rest s o z g j [] h n = (g, j, h, n)
spaced_rest s o z g zero (filler start ∷ xs) h n = (0, 1, h.1, λ l. absurd (omega (arith, l)))
spaced_rest s o z g (suc j) (filler start ∷ xs) h n =
    (0, suc (suc j) % 32, h, λ l. absurd (omega (arith, l)))
spaced_rest s o z g zero (filler train ∷ xs) h n = (suc g, 0, h.1, λ l. tt)
spaced_rest s o z g (suc j) (filler train ∷ xs) h n = (suc g, 0, h.1, λ l. tt)
spaced_rest s o z g zero (filler null ∷ xs) h n = (suc g, 0, h.1, λ l. tt)
spaced_rest s o z g (suc j) (filler null ∷ xs) h n = (suc g, 0, h.1, λ l. tt)
spaced_rest s o z g zero (filler pret ∷ xs) h n = (suc g, 0, h.1, λ l. tt)
spaced_rest s o z g (suc j) (filler pret ∷ xs) h n = (suc g, 0, h.1, λ l. tt)
spaced_rest s o z g zero (clear ∷ xs) h n = (suc g, 0, h.1, λ l. tt)
spaced_rest s o z g (suc j) (clear ∷ xs) h n = (suc g, 0, h.1, λ l. tt)
spaced_rest s o z g zero (part a k more ∷ xs) h n = (suc g, 0, h.1, λ l. tt)
spaced_rest s o z g (suc j) (part a k more ∷ xs) h n = (suc g, 0, h.1, λ l. tt)

pub landed_facts : (c : Setup) (own other : Side) (e : Event) (b ran : Bool) (st ms : ℕ)
    (bf : List ℕ) → ((happens (wire own) e).far ≡ training → st ≤ 7) →
    Lands c own other e b ran ms bf → SideFacts c own other →
    SideFacts c (land own e st ms bf) (took own other e b ran)
landed_facts c own other e b ran st ms bf pace l f =
    let w : Direction = wire own in
    let s = lands_same w e l.landing in
    let m : May c.retry w e = may_of c own other e b ran ms bf l in
    let h : (wire (land own e st ms bf)).line ≡ rest w.line = lands_rest w e l.landing in
    let n : (event_at own.half 0 e).stamps ≡ rest_of_stamps own.half.stamps =
    stamps_rest own.half e l.landing in
    let o : other_after own.half other.half (move_of b e) ≡ other_after own.half other.half
    (move_of b e) = refl in
    record {
      joined =
          subst (λ y. Joined c.retry c.tokens y (other_after own.half other.half (move_of b e)))
          (land_half own.half (wire other).accepted b e l.landing)
          (own_moved c.retry c.tokens own.half other.half (move_of b e) f.joined l.may);
      short = subst (λ xs. length xs ≤ c.line) (sym h) (short_rest w.line c.line f.short);
      queue = f.queue;
      buffer = l.fills;
      missing = l.lacks;
      open_back = f.open_back;
      open_clears = λ q. f.open_clears (subst (λ k. 1 ≤ k) s.clears q);
      shut =
          λ q. let z : w.clears ≡ 0 =
          sym s.clears ∙ q in stays_shut c.retry w e f.joined.order f.joined.trained m z (f.shut z);
      steady = pace;
      few = few_landed c.retry w e l.landing l.few f.few;
      long_ago = f.long_ago;
      spaced = let u = f.spaced in
          subst (λ z. SpacedAt own.starts own.others z (happens w e).line)
          (sym (lands_before w e l.landing))
          (subst (λ xs. SpacedAt own.starts own.others (front_or w.before w.line) xs) (sym h)
          (spaced_rest own.starts own.others w.before u.0 u.1 w.line u.2 u.3));
      untrained = λ q. let u = f.untrained (sym (took_far own.half other.half b e) ∙ q) in
          record {
            line = subst AreTraining (sym h) (training_rest w.line u.line);
            starts = u.starts;
            shut =
                ran_false ran other.is_open
                (λ r. never_ran c.retry w e l.landing m u.line (l.ended r)) u.shut;
            back =
                ran_false ran other.go_back
                (λ r. never_ran c.retry w e l.landing m u.line (l.ended r)) u.back;
            first = s.first ∙ u.first;
            others = took_first own.half other.half b e ∙ u.others;
          };
      one = subst (λ k. (k % 32 ≡ 0) ⊎ (own.starts % 32 ≡ 0)) (sym s.clears) f.one;
      whole =
          λ q. subst (λ k. (k % 32 ≡ 0) × (own.starts % 32 ≡ 0)) (sym s.clears)
          (f.whole (subst (λ k. 1 ≤ k) s.left q));
      least =
          subst (λ a. a ≤ own.ack_sent) (sym (taken own.half other.half b e))
          (least_landed c own other e b ran ms bf l f m b refl);
      most = subst (λ a. own.ack_sent ≤ a) (sym (took_accepted own.half other.half b e)) f.most;
      pointed =
          subst (λ xs. PointUpTo own.ack_sent (event_at own.half 0 e).stamps xs) (sym h)
          (subst (λ ns. PointUpTo own.ack_sent ns (rest w.line)) (sym n)
          (point_rest own.ack_sent own.half.stamps w.line f.pointed));
      later =
          subst (λ k. CountedLater (IsAcked k own.starts own.ack_sent)
          (event_at own.half 0 e).stamps
          (happens w e).line) (sym s.clears)
          (subst (λ xs. CountedLater (IsAcked w.clears own.starts own.ack_sent)
          (event_at own.half 0 e).stamps xs) (sym h)
          (subst (λ ns. CountedLater (IsAcked w.clears own.starts own.ack_sent) ns (rest w.line))
          (sym n)
          (later_rest (IsAckedOf own) own.half.stamps w.line f.later)));
      counted = λ g.
          subst (λ a. Counted (IsAcked (happens w e).clears own.starts own.ack_sent) a
          (happens w e).clear_run (happens w e).start_run (event_at own.half 0 e).stamps
          (happens w e).line) (sym (taken own.half other.half b e))
          (subst (λ k. Counted (IsAcked k own.starts own.ack_sent) (Taken own other b)
          (happens w e).clear_run (happens w e).start_run (event_at own.half 0 e).stamps
          (happens w e).line) (sym s.clears)
          (subst (λ xs. Counted (IsAckedOf own) (Taken own other b) (happens w e).clear_run
          (happens w e).start_run (event_at own.half 0 e).stamps xs) (sym h)
          (subst (λ ns. Counted (IsAckedOf own) (Taken own other b) (happens w e).clear_run
          (happens w e).start_run ns (rest w.line)) (sym n)
          (ack_after_landing c own other e b ran ms bf l f m
          (may_count c.retry c.tokens own.half other.half b e l.may) g))));
    }

if_true : (ran o p : Bool) → (o ≡ true → p ≡ true) → (if ran then true else o) ≡ true →
    (if ran then true else p) ≡ true
if_true true o p h q = refl
if_true false o p h q = h q

else_true : (ran p : Bool) → p ≡ true → (if ran then true else p) ≡ true
else_true true p h = refl
else_true false p h = h

pub took_facts : (c : Setup) (own other : Side) (e : Event) (b ran : Bool) (st ms : ℕ)
    (bf : List ℕ) → Lands c own other e b ran ms bf → SideFacts c own other →
    SideFacts c other own → SideFacts c (took own other e b ran) (land own e st ms bf)
took_facts c own other e b ran st ms bf l f g =
    by_count b refl
    (subst (λ y. Joined c.retry c.tokens (other_after own.half other.half (move_of b e)) y)
    (land_half own.half (wire other).accepted b e l.landing)
    (other_moved c.retry c.tokens own.half other.half (move_of b e) f.joined g.joined l.may))
  where
    s : SameSender (wire own) (happens (wire own) e)
    s = lands_same (wire own) e l.landing

    u : (happens (wire own) e).far ≡ training → Untrained other own
    u q = g.untrained (was_training (wire own) e l.landing q)

    by_count : (d : Bool) → d ≡ b →
        Joined c.retry c.tokens (other_after own.half other.half (move_of d e))
        (event_at own.half 0 e) → SideFacts c (took own other e d ran) (land own e st ms bf)
    by_count true q j = record {
      joined = j;
      short = g.short;
      queue = g.queue;
      buffer = g.buffer;
      missing = g.missing;
      open_back = if_true ran other.go_back other.is_open g.open_back;
      open_clears = λ k. else_true ran other.is_open (g.open_clears k);
      shut = g.shut;
      steady = g.steady;
      few = g.few;
      long_ago = g.long_ago;
      spaced = g.spaced;
      untrained =
          λ k. let v =
          u k in record {
            line = v.line;
            starts = v.starts;
            shut = v.shut;
            back = v.back;
            first = v.first;
            others = s.first ∙ v.others;
          };
      one = g.one;
      whole = g.whole;
      least = subst (λ a. a ≤ other.ack_sent) (sym s.acked) g.least;
      most = let z = lands_up (wire own) e l.landing in omega (arith, z, g.most);
      pointed = g.pointed;
      later = g.later;
      counted =
          λ k. subst (λ a. Counted (IsAckedOf other) a (wire other).clear_run (wire other).start_run
          other.half.stamps (wire other).line) (sym s.acked) (g.counted k);
    }
    by_count false q j = record {
      joined = j;
      short = g.short;
      queue = g.queue;
      buffer = g.buffer;
      missing = g.missing;
      open_back = if_true ran other.go_back other.is_open g.open_back;
      open_clears = λ k. else_true ran other.is_open (g.open_clears k);
      shut = g.shut;
      steady = g.steady;
      few = g.few;
      long_ago = g.long_ago;
      spaced = g.spaced;
      untrained =
          λ k. let v =
          u k in record {
            line = v.line;
            starts = v.starts;
            shut = v.shut;
            back = v.back;
            first = v.first;
            others = s.first ∙ v.others;
          };
      one = g.one;
      whole = g.whole;
      least = subst (λ a. a ≤ other.ack_sent) (sym s.acked) g.least;
      most = let z = lands_up (wire own) e l.landing in omega (arith, z, g.most);
      pointed = g.pointed;
      later = g.later;
      counted =
          λ k. subst (λ a. Counted (IsAckedOf other) a (wire other).clear_run (wire other).start_run
          other.half.stamps (wire other).line) (sym s.acked) (g.counted k);
    }

-- A send keeps what the return pointers on the line acknowledge.
use Rattle.std.proofs.Common.{◌≡◌, ℕ, zero, suc, ◌-◌, ◌%◌, ◌≤◌, List, [], ◌∷◌, ◌++◌, length, refl, sym, subst, arith}
use Rattle.hmc_numbers.specs.Weights.{size}
use Rattle.hmc_numbers.specs.PairLaws.{Points}
use Rattle.hmc_numbers.specs.Events.{begun_new, begun_again}
use Rattle.hmc_numbers.specs.Direction.{Item}
use Rattle.hmc_numbers.specs.Direction.Item.{filler, clear as cleared, part}
use Rattle.hmc_numbers.specs.Direction.Filler.{train as trains, start as starts, null as nulls, pret as prets}
use Rattle.hmc_numbers.specs.May.{IsGood}
use Rattle.hmc_numbers.specs.Tokens.{due_tokens}
use Rattle.hmc_link_state.specs.Choice.{Choice}
use Rattle.hmc_link_state.specs.Choice.Choice.{train, starved, next, clear, start, again, new, tret, pret, null}
use Rattle.hmc_link_state.specs.Sees.{new_slot, tret_slot}
use Rattle.hmc_link_state.specs.State.{Setup, Side, wire}
use Rattle.hmc_link_state.specs.Round.{sight, sent_by, ack_after}
use Rattle.hmc_link_state.specs.Facts.{acked_after, acked_by, clears_by, starts_by, Counted, CountedLater, IsAcked, PointUpTo, SideFacts}
use Rattle.hmc_link_state.proofs.Chosen.{Chosen}
use Rattle.hmc_link_state.proofs.Counting.{IsAckedOf, counted_snoc, later_snoc, NewLater, ack_clear, ack_new_clear, ack_start, ack_same, ack_pret}
use Rattle.hmc_link_state.proofs.SentFields.{no_starts, train_none}

pub record SentItem (c : Setup) (own other : Side) (x : Choice) (i : Item) : Type 0 where
  pub line : (wire (sent_by c own other x)).line ≡ (wire own).line ++ i ∷ []
  pub stamps : (sent_by c own other x).half.stamps ≡ own.half.stamps ++ (wire other).accepted ∷ []
  pub keeps : (a d s : ℕ) → IsAckedOf own a d s →
      IsAckedOf (sent_by c own other x) (acked_by i d s (wire other).accepted a) (clears_by i d)
      (starts_by i s)
  pub begins : NewLater (IsAckedOf (sent_by c own other x)) (wire other).accepted i

abbrev IsPart : Choice → Type 0
IsPart next = Unit {0}
IsPart again = Unit {0}
IsPart (new n) = Unit {0}
IsPart tret = Unit {0}
IsPart x = ⊥

part_acks : (x : Choice) → IsPart x → (cl st ack n more : ℕ) → cl % 32 ≡ 0 → st % 32 ≡ 0 →
    (a d s : ℕ) → IsAcked cl st ack a d s →
    IsAcked cl st (ack_after x more ack n) (acked_after more n a) 0 0
part_acks next p cl st ack n zero q r a d s h = ack_pret cl st n q r
part_acks next p cl st ack n (suc l) q r a d s h = ack_same cl st ack q r a d s h
part_acks again p cl st ack n zero q r a d s h = ack_pret cl st n q r
part_acks again p cl st ack n (suc l) q r a d s h = ack_same cl st ack q r a d s h
part_acks (new v) p cl st ack n zero q r a d s h = ack_pret cl st n q r
part_acks (new v) p cl st ack n (suc l) q r a d s h = ack_same cl st ack q r a d s h
part_acks tret p cl st ack n zero q r a d s h = ack_pret cl st n q r
part_acks tret p cl st ack n (suc l) q r a d s h = ack_same cl st ack q r a d s h
part_acks train p cl st ack n more q r a d s h = absurd p
part_acks starved p cl st ack n more q r a d s h = absurd p
part_acks clear p cl st ack n more q r a d s h = absurd p
part_acks start p cl st ack n more q r a d s h = absurd p
part_acks pret p cl st ack n more q r a d s h = absurd p
part_acks null p cl st ack n more q r a d s h = absurd p

pub keeps_counted : (c : Setup) (own other : Side) (x : Choice) (i : Item) → SentItem c own other x
    i →
    length own.half.stamps ≡ length (wire own).line → IsGood (wire own).far →
    Counted (IsAckedOf own) (wire other).acked (wire own).clear_run (wire own).start_run
    own.half.stamps (wire own).line →
    Counted (IsAckedOf (sent_by c own other x)) (wire other).acked (wire own).clear_run
    (wire own).start_run (sent_by c own other x).half.stamps (wire (sent_by c own other x)).line
keeps_counted c own other x i t l g h =
    let z : Counted (IsAckedOf (sent_by c own other x)) (wire other).acked (wire own).clear_run
    (wire own).start_run (own.half.stamps ++ (wire other).accepted ∷ [])
    ((wire own).line ++ i ∷ []) =
    counted_snoc (IsAckedOf own) (IsAckedOf (sent_by c own other x)) (wire other).acked
    (wire own).clear_run (wire own).start_run own.half.stamps (wire own).line
    (wire other).accepted i l t.keeps h in
    subst (λ xs. Counted (IsAckedOf (sent_by c own other x)) (wire other).acked (wire own).clear_run
    (wire own).start_run (sent_by c own other x).half.stamps xs) (sym t.line)
    (subst (λ ns. Counted (IsAckedOf (sent_by c own other x)) (wire other).acked
    (wire own).clear_run
    (wire own).start_run ns ((wire own).line ++ i ∷ [])) (sym t.stamps) z)

pub keeps_later : (c : Setup) (own other : Side) (x : Choice) (i : Item) → SentItem c own other x i
    → length own.half.stamps ≡ length (wire own).line →
    CountedLater (IsAckedOf own) own.half.stamps (wire own).line →
    CountedLater (IsAckedOf (sent_by c own other x)) (sent_by c own other x).half.stamps
    (wire (sent_by c own other x)).line
keeps_later c own other x i t l h =
    let z : CountedLater (IsAckedOf (sent_by c own other x))
    (own.half.stamps ++ (wire other).accepted
    ∷ []) ((wire own).line ++ i ∷ []) =
    later_snoc (IsAckedOf own) (IsAckedOf (sent_by c own other x)) own.half.stamps (wire own).line
    (wire other).accepted i l t.keeps t.begins h in
    subst (λ xs. CountedLater (IsAckedOf (sent_by c own other x))
    (sent_by c own other x).half.stamps
    xs) (sym t.line)
    (subst (λ ns. CountedLater (IsAckedOf (sent_by c own other x)) ns ((wire own).line ++ i ∷ []))
    (sym t.stamps) z)

pub sent_item : (c : Setup) (own other : Side) (x : Choice) → Chosen (sight c own other) x →
    SideFacts c own other → (i : Item) × SentItem c own other x i
sent_item c own other train h f = let z = train_none c own other h f in (
  filler trains,
  record {
    line = refl;
    stamps = refl;
    keeps = ack_same (wire own).clears own.starts own.ack_sent
        z.1 z.2;
    begins = tt;
  },
)
sent_item c own other starved h f = absurd (cc h)
sent_item c own other next h f = let z = f.whole h.1 in (
  _,
  record {
    line = refl;
    stamps = refl;
    keeps =
        part_acks next tt (wire own).clears own.starts own.ack_sent (wire other).accepted
        ((wire own).left - 1) z.0 z.1;
    begins = tt;
  },
)
sent_item c own other clear h f = let z = no_starts c own other h f in (
  cleared,
  record {
    line = refl;
    stamps = refl;
    keeps = ack_clear (wire own).clears own.starts own.ack_sent
        (wire other).accepted z;
    begins =
        ack_new_clear (wire own).clears own.starts (wire other).accepted z;
  },
)
sent_item c own other start h f = (
  filler starts,
  record {
    line = refl;
    stamps = refl;
    keeps = ack_start (wire own).clears own.starts own.ack_sent
        (wire other).accepted h.clears;
    begins = tt;
  },
)
sent_item c own other again h f = (
  _,
  record {
    line = refl;
    stamps = refl;
    keeps =
        part_acks again tt (wire own).clears own.starts own.ack_sent (wire other).accepted
        (wire (sent_by c own other again)).left h.0.clears h.0.starts;
    begins = tt;
  },
)
sent_item c own other (new n) h f = (
  _,
  record {
    line = refl;
    stamps = refl;
    keeps =
        part_acks (new n) tt (wire own).clears own.starts own.ack_sent (wire other).accepted (n - 1)
        h.new.calm.clears h.new.calm.starts;
    begins = tt;
  },
)
sent_item c own other tret h f = (
  _,
  record {
    line = refl;
    stamps = refl;
    keeps =
        part_acks tret tt (wire own).clears own.starts own.ack_sent (wire other).accepted (1 - 1)
        h.new.calm.clears h.new.calm.starts;
    begins = tt;
  },
)
sent_item c own other pret h f = (
  filler prets,
  record {
    line = refl;
    stamps = refl;
    keeps = λ a d s t. ack_pret (wire own).clears own.starts
        (wire other).accepted h.0.new.calm.clears h.0.new.calm.starts;
    begins = tt;
  },
)
sent_item c own other null h f = (
  filler nulls,
  record {
    line = refl;
    stamps = refl;
    keeps = ack_same (wire own).clears own.starts own.ack_sent
        h.0.new.calm.clears h.0.new.calm.starts;
    begins = tt;
  },
)

-- the pointer sent last

pub ack_least : (x : Choice) (left ack a n : ℕ) → n ≤ ack → ack ≤ a → n ≤ ack_after x left ack a
ack_least train left ack a n h k = h
ack_least starved left ack a n h k = h
ack_least clear left ack a n h k = omega (arith, h, k)
ack_least start left ack a n h k = omega (arith, h, k)
ack_least pret left ack a n h k = omega (arith, h, k)
ack_least null left ack a n h k = h
ack_least next zero ack a n h k = omega (arith, h, k)
ack_least next (suc l) ack a n h k = h
ack_least again zero ack a n h k = omega (arith, h, k)
ack_least again (suc l) ack a n h k = h
ack_least (new m) zero ack a n h k = omega (arith, h, k)
ack_least (new m) (suc l) ack a n h k = h
ack_least tret zero ack a n h k = omega (arith, h, k)
ack_least tret (suc l) ack a n h k = h

pub ack_most : (x : Choice) (left ack a : ℕ) → ack ≤ a → ack_after x left ack a ≤ a
ack_most train left ack a k = k
ack_most starved left ack a k = k
ack_most clear left ack a k = omega arith
ack_most start left ack a k = omega arith
ack_most pret left ack a k = omega arith
ack_most null left ack a k = k
ack_most next zero ack a k = omega arith
ack_most next (suc l) ack a k = k
ack_most again zero ack a k = omega arith
ack_most again (suc l) ack a k = k
ack_most (new m) zero ack a k = omega arith
ack_most (new m) (suc l) ack a k = k
ack_most tret zero ack a k = omega arith
ack_most tret (suc l) ack a k = k

point_snoc : (n m : ℕ) (ns : List ℕ) (xs : List Item) (a : ℕ) (x : Item) → length ns ≡ length xs →
    n ≤ m → (Points x → a ≤ m) → PointUpTo n ns xs → PointUpTo m (ns ++ a ∷ []) (xs ++ x ∷ [])
point_snoc n m [] [] a x l h p q = (p, tt)
point_snoc n m [] (y ∷ ys) a x l h p q = absurd (omega (arith, l))
point_snoc n m (k ∷ ks) [] a x l h p q = absurd (omega (arith, l))
point_snoc n m (k ∷ ks) (y ∷ ys) a x l h p q =
    (λ u. let v = q.0 u in omega (arith, v, h), point_snoc n m ks ys a x (omega (arith, l)) h p q.1)

record PointsOf (c : Setup) (own other : Side) (x : Choice) : Type 0 where
  i : Item
  line : (wire (sent_by c own other x)).line ≡ (wire own).line ++ i ∷ []
  stamps : (sent_by c own other x).half.stamps ≡ own.half.stamps ++ (wire other).accepted ∷ []
  points : Points i → (wire other).accepted ≤ (sent_by c own other x).ack_sent

part_points : (x : Choice) → IsPart x → (n k more ack a : ℕ) → Points (part n k more) →
    a ≤ ack_after x more ack a
part_points next p n k zero ack a h = omega arith
part_points next p n k (suc l) ack a h = absurd h
part_points again p n k zero ack a h = omega arith
part_points again p n k (suc l) ack a h = absurd h
part_points (new m) p n k zero ack a h = omega arith
part_points (new m) p n k (suc l) ack a h = absurd h
part_points tret p n k zero ack a h = omega arith
part_points tret p n k (suc l) ack a h = absurd h
part_points train p n k more ack a h = absurd p
part_points starved p n k more ack a h = absurd p
part_points clear p n k more ack a h = absurd p
part_points start p n k more ack a h = absurd p
part_points pret p n k more ack a h = absurd p
part_points null p n k more ack a h = absurd p

points_of : (c : Setup) (own other : Side) (x : Choice) → Chosen (sight c own other) x →
    PointsOf c own other x
points_of c own other train h =
    record { i = filler trains; line = refl; stamps = refl; points = λ p. absurd p }
points_of c own other starved h = absurd (cc h)
points_of c own other next h =
    record {
      i = part (wire own).last (size (wire own).first (wire own).last - (wire own).left)
          ((wire own).left - 1);
      line =
          refl;
      stamps =
          refl;
      points =
          part_points next tt (wire own).last
          (size (wire own).first (wire own).last - (wire own).left) ((wire own).left - 1)
          own.ack_sent
          (wire other).accepted;
    }
points_of c own other clear h =
    record { i = cleared; line = refl; stamps = refl; points = λ p. omega arith }
points_of c own other start h =
    record { i = filler starts; line = refl; stamps = refl; points = λ p. omega arith }
points_of c own other again h =
    let w = begun_again (wire own) in
    record {
      i = part w.last (size w.first w.last - w.left) (w.left - 1);
      line = refl;
      stamps =
          refl;
      points =
          part_points again tt w.last (size w.first w.last - w.left) (w.left - 1) own.ack_sent
          (wire other).accepted;
    }
points_of c own other (new n) h =
    let w = begun_new (wire own) (new_slot n (due_tokens c.tokens other.half own.half)) in
    record {
      i = part w.last (size w.first w.last - w.left) (w.left - 1);
      line = refl;
      stamps =
          refl;
      points =
          part_points (new n) tt w.last (size w.first w.last - w.left) (w.left - 1) own.ack_sent
          (wire other).accepted;
    }
points_of c own other tret h =
    let w = begun_new (wire own) (tret_slot (due_tokens c.tokens other.half own.half)) in
    record {
      i = part w.last (size w.first w.last - w.left) (w.left - 1);
      line = refl;
      stamps =
          refl;
      points =
          part_points tret tt w.last (size w.first w.last - w.left) (w.left - 1) own.ack_sent
          (wire other).accepted;
    }
points_of c own other pret h =
    record { i = filler prets; line = refl; stamps = refl; points = λ p. omega arith }
points_of c own other null h =
    record { i = filler nulls; line = refl; stamps = refl; points = λ p. absurd p }

pub pointed_sent : (c : Setup) (own other : Side) (x : Choice) → Chosen (sight c own other) x →
    SideFacts c own other →
    PointUpTo (sent_by c own other x).ack_sent (sent_by c own other x).half.stamps
    (wire (sent_by c own other x)).line
pointed_sent c own other x h f =
    let p = points_of c own other x h in
    let l =
    ack_least x (wire (sent_by c own other x)).left own.ack_sent (wire other).accepted own.ack_sent
    (omega arith) f.most in
    subst (λ xs. PointUpTo (sent_by c own other x).ack_sent (sent_by c own other x).half.stamps xs)
    (sym p.line)
    (subst (λ ns. PointUpTo (sent_by c own other x).ack_sent ns ((wire own).line ++ p.i ∷ []))
    (sym p.stamps)
    (point_snoc own.ack_sent (sent_by c own other x).ack_sent own.half.stamps (wire own).line
    (wire other).accepted p.i f.joined.stamped l p.points f.pointed))

-- The laws of a direction follow from the invariant (Order). The clauses of src/laws.rt that speak
-- of one direction cite it.
use Rattle.std.proofs.Common.{◌≡◌, ◌≢◌, ℕ, zero, suc, ◌+◌, ◌-◌, ◌%◌, ◌<◌, ◌≤◌, List, ◌∷◌, ◌++◌, length, ◌⊎◌, inl, inr, ⊎_elim, refl, sym, ◌∙◌, ap, subst, arith}
use Rattle.hmc_numbers.specs.Weights.{Weight, flits_to, size, HaveValidSizes}
use Rattle.hmc_codes.specs.Profile.{modulus_of, window_of}
use Rattle.hmc_codes.specs.declared.profile.Profile.{Profile}
use Rattle.hmc_numbers.specs.Pointers.{pointer}
use Rattle.hmc_numbers.specs.Direction.{Item, Reached, Direction, begun, position}
use Rattle.hmc_numbers.specs.Events.{Event, happens, after}
use Rattle.hmc_numbers.specs.May.{IsGood, CanReadAs, MayAll}
use Rattle.hmc_numbers.specs.Direction.Filler.{start}
use Rattle.hmc_numbers.specs.Direction.Item.{filler, clear, part}
use Rattle.hmc_numbers.specs.Direction.Reached.{training, aborting, between, inside, spoilt}
use Rattle.hmc_numbers.specs.Events.Reading.{as_start, as_clear}
use Rattle.hmc_numbers.specs.Places.{places, put_by, taken_by}
use Rattle.hmc_numbers.specs.DirectionLaws.{DirectionLaws, IsPlaced, ContinuesGathered, PassesNext, PassesRepeat, IsIdentified}
use Rattle.hmc_numbers.specs.Direction.{front_or}
use Rattle.hmc_numbers.specs.Events.Event.{accepts}
use Rattle.hmc_numbers.specs.May.{May}
use Rattle.hmc_numbers.proofs.Near.{real_front as front_real}
use Rattle.hmc_numbers.proofs.Step.{number_real}
use Rattle.hmc_numbers.proofs.Places.{places_step}
use Rattle.hmc_numbers.proofs.Sums.{upto-up, flits-less, size-valid}
use Rattle.hmc_numbers.proofs.Pointers.{behind_identified, behind_not_next, pointers_apart}
use Rattle.hmc_numbers.proofs.Fits.{Fits}
use Rattle.hmc_numbers.proofs.Chain.{Follows, Chain, AtEnd, FarIs}
use Rattle.hmc_numbers.proofs.Near.{Real, Near}
use Rattle.hmc_numbers.proofs.Runs.{clear_run_lands, start_run_lands, clear_run_sent, start_run_sent}
use Rattle.hmc_numbers.proofs.Order.{Order, Stands, Burst, Unfinished}
use Rattle.hmc_numbers.proofs.Trained.{Trained, trained_after, no_train_in_good}
use Rattle.hmc_numbers.proofs.Step.{fits_good, order_after}

near_real : (r : ℕ) (ps : List Weight) (e n k more : ℕ) (xs ys : List Item) → ys ≡ part n k more ∷ xs → Near r ps e ys → Real ps (part n k more) × (flits_to ps e < flits_to ps n + r)
near_real r ps e n k more xs ys q h = let z : Near r ps e (part n k more ∷ xs) = subst (Near r ps e) q h in (z.0, z.1)

follows_front : (E : Item → Type 0) (x y : Item) (xs ys : List Item) → ys ≡ y ∷ xs → Chain E x ys → Follows x y
follows_front E x y xs ys q h = let z : Chain E x (y ∷ xs) = subst (Chain E x) q h in z.0

real_front : (r : ℕ) (ps : List Weight) (e : ℕ) (x : Item) (xs ys : List Item) → ys ≡ x ∷ xs → Near r ps e ys → Real ps x
real_front r ps e (filler f) xs ys q h = tt
real_front r ps e clear xs ys q h = tt
real_front r ps e (part n k more) xs ys q h = (near_real r ps e n k more xs ys q h).0

behind_gathered : (far : Reached) (x y : Item) → FarIs far x → Follows x y → ContinuesGathered far y
behind_gathered training x y f g = tt
behind_gathered aborting x y f g = tt
behind_gathered spoilt x y f g = tt
behind_gathered between x (filler z) f g = tt
behind_gathered between x clear f g = tt
behind_gathered between x (part n k more) f g = g.0 ∙ f
behind_gathered (inside m j) x (filler z) f g = omega (arith, f.1, f.2, g)
behind_gathered (inside m j) x clear f g = omega (arith, f.1, f.2, g)
behind_gathered (inside m j) x (part n k more) f g = (sym (g.1 (λ q. absurd (omega (arith, f.1, f.2, g.0)))) ∙ f.0, g.0 ∙ f.1)

next_or : (n acc : ℕ) → n ≤ acc + 1 → (n ≡ acc + 1) ⊎ (n ≤ acc)
next_or zero acc l = inr (omega arith)
next_or (suc n) zero l = inl (omega arith)
next_or (suc n) (suc acc) l = ⊎_elim (λ q. inl (omega arith)) (λ q. inr (omega arith)) (next_or n acc (omega arith))

-- what the tests show of the next packet, and of one that was accepted before
identified_by : (p : Profile) (r : ℕ) (w : Direction) (n : ℕ) → r ≤ window_of p → HaveValidSizes w.first → 1 ≤ n → n ≤ begun w → flits_to w.first w.accepted < flits_to w.first n + r → (n ≡ w.accepted + 1) ⊎ (n ≤ w.accepted) → IsIdentified p w n
identified_by p r w n l f a b d (inl q) =
    let z = size-valid w.first n f a b in
    let e : flits_to w.first (n - 1) ≡ flits_to w.first w.accepted = ap (λ i. flits_to w.first i) (omega arith) in
    let s : flits_to w.first n ≡ flits_to w.first w.accepted + size w.first n = omega (arith, z.sum) in
    inl (q, (ap (λ x. x % modulus_of p) s, ap (λ x. x % 8) q))
identified_by p r w n l f a b d (inr q) =
    let z = size-valid w.first n f a b in
    let u = upto-up (λ s. s.flits) w.first n w.accepted q in
    inr (
      q,
      behind_not_next p (flits_to w.first w.accepted) w.accepted (flits_to w.first n) (size w.first n) (n % 8) u (omega arith) z.least z.most,
      behind_identified p (flits_to w.first w.accepted) (flits_to w.first n) u (omega arith),
    )

fits_front : (E : ℕ → Type 0) (a n k more : ℕ) (xs ys : List Item) → ys ≡ part n k more ∷ xs → Fits E a a ys → n ≤ a + 1
fits_front E a n k more xs ys q h = let z : Fits E a a (part n k more ∷ xs) = subst (Fits E a a) q h in z.0

-- a receiver in Good gets at most the next packet
pub at_most_next : (r : ℕ) (w : Direction) → Order r w → (n k more : ℕ) (xs : List Item) → IsGood w.far → w.line ≡ part n k more ∷ xs → n ≤ w.accepted + 1
at_most_next r w o n k more xs g q = fits_front (Stands w.acked w.last w.left) w.accepted n k more xs w.line q (fits_good r w o g)

-- its tests show what it is
pub identified : (p : Profile) (r : ℕ) (w : Direction) → r ≤ window_of p → Order r w → (n k : ℕ) (xs : List Item) → IsGood w.far → w.line ≡ part n k 0 ∷ xs → IsIdentified p w n
identified p r w l o n k xs g q =
    let h = near_real r w.first w.accepted n k 0 xs w.line q o.near in
    identified_by p r w n l o.valid_sizes h.0.0 h.0.1 h.1 (next_or n w.accepted (at_most_next r w o n k 0 xs g q))

pub identified_next : (p : Profile) (w : Direction) (n : ℕ) → IsIdentified p w n → n ≡ w.accepted + 1 → PassesNext p w n
identified_next p w n t q = ⊎_elim (λ x. x.1) (λ x. absurd (omega (arith, x.0))) t

pub identified_repeat : (p : Profile) (w : Direction) (n : ℕ) → IsIdentified p w n → n ≤ w.accepted → (PassesNext p w n → ⊥) × PassesRepeat p w n
identified_repeat p w n t l = ⊎_elim (λ x. absurd (omega (arith, x.0))) (λ x. (x.1, x.2)) t

pub placed : (r : ℕ) (w : Direction) → Order r w → (n k more : ℕ) (xs : List Item) → w.line ≡ part n k more ∷ xs → IsPlaced w.first (begun w) n k more
placed r w o n k more xs q =
    let h = (near_real r w.first w.accepted n k more xs w.line q o.near).0 in
    record { least = h.0; most = h.1; flits = h.2; short = (size-valid w.first n o.valid_sizes h.0 h.1).most }

-- packets have at least one flit, so two numbers of packets have two numbers of flits
flits_apart : (ps : List Weight) (i j : ℕ) → HaveValidSizes ps → i ≤ length ps → j ≤ length ps → flits_to ps i ≡ flits_to ps j → (i < j) ⊎ ((j < i) ⊎ (i ≡ j)) → i ≡ j
flits_apart ps i j f a b e (inl l) = let z = flits-less ps i j f l b in absurd (omega arith)
flits_apart ps i j f a b e (inr (inl l)) = let z = flits-less ps j i f l a in absurd (omega arith)
flits_apart ps i j f a b e (inr (inr q)) = q

compare : (i j : ℕ) → (i < j) ⊎ ((j < i) ⊎ (i ≡ j))
compare zero zero = inr (inr refl)
compare zero (suc j) = inl (omega arith)
compare (suc i) zero = inr (inl (omega arith))
compare (suc i) (suc j) = by_less (compare i j)
  where
    by_less : (i < j) ⊎ ((j < i) ⊎ (i ≡ j)) → (suc i < suc j) ⊎ ((suc j < suc i) ⊎ (suc i ≡ suc j))
    by_less (inl l) = inl (omega arith)
    by_less (inr (inl l)) = inr (inl (omega arith))
    by_less (inr (inr q)) = inr (inr (ap suc q))

pub apart : (p : Profile) (r : ℕ) (w : Direction) → r ≤ window_of p → Order r w → (i j : ℕ) → w.acked ≤ i → i ≤ begun w → w.acked ≤ j → j ≤ begun w → pointer p w.first i ≡ pointer p w.first j → i ≡ j
apart p r w l o i j a b c d e =
    let g : Weight → ℕ = λ s. s.flits in
    let i_low = upto-up g w.first w.acked i a in
    let i_high = upto-up g w.first i (begun w) b in
    let j_low = upto-up g w.first w.acked j c in
    let j_high = upto-up g w.first j (begun w) d in
    let k = o.room in
    let q = pointers_apart p (flits_to w.first w.acked) (flits_to w.first i) (flits_to w.first j) i_low (omega arith) j_low (omega arith) e in
    flits_apart w.first i j o.valid_sizes b d q (compare i j)

pub unfinished : (r : ℕ) (w : Direction) (left : ℕ) → HaveValidSizes w.first → w.last ≤ begun w → Unfinished r w.first w.last left → 1 ≤ left → (1 ≤ w.last) × (w.last ≤ begun w) × (left ≤ size w.first w.last) × (size w.first w.last ≤ 17)
unfinished r w zero f l u i = absurd (omega arith)
unfinished r w (suc n) f l u i = (u.0, l, u.1, (size-valid w.first w.last f u.0 l).most)

pub bursts : (c last : ℕ) → Burst c last → c ≢ 0 → last ≡ 0
bursts zero last b n = absurd (n refl)
bursts (suc c) last b n = b

pub clears : (r : ℕ) (w : Direction) → Order r w → (x : Item) (xs : List Item) → w.line ≡ x ∷ xs → CanReadAs x as_clear → 16 ≤ w.clear_run → x ≡ clear
clears r w o x xs q c l =
    let f = follows_front (AtEnd (size w.first w.last) w.last w.left) w.before x xs w.line q o.chain in
    clear_run_sent w.first x (suc w.clear_run) o.valid_sizes (real_front r w.first w.accepted x xs w.line q o.near) (clear_run_lands w.before x as_clear w.clear_run f c o.clear_run) (omega arith)

pub starts : (r : ℕ) (w : Direction) → Order r w → (x : Item) (xs : List Item) → w.line ≡ x ∷ xs → CanReadAs x as_start → 16 ≤ w.start_run → x ≡ filler start
starts r w o x xs q c l =
    let f = follows_front (AtEnd (size w.first w.last) w.last w.left) w.before x xs w.line q o.chain in
    start_run_sent w.first x (suc w.start_run) o.valid_sizes (real_front r w.first w.accepted x xs w.line q o.near) (start_run_lands w.before x as_start w.start_run f c o.start_run) (omega arith)

accepts_below : (r : ℕ) (w : Direction) (e : Event) → Order r w → May r w e → e ≡ accepts → w.accepted < begun w
accepts_below r w e o m q =
    let z : May r w accepts = subst (λ y. May r w y) q m in
    let b = number_real w.first (front_or w.before w.line) (front_real r w.first w.accepted w.before w.line o.real o.near) in
    omega (arith, z.2)

pub position_begun : (r : ℕ) (w : Direction) → Order r w → position w ≤ begun w
position_begun r w o = omega (arith, o.acked, o.accepted, o.last)

pub whole : (r : ℕ) (w : Direction) → Order r w → (x : Item) (xs : List Item) → w.line ≡ x ∷ xs → ContinuesGathered w.far x
whole r w o x xs q = behind_gathered w.far w.before x o.far (follows_front (AtEnd (size w.first w.last) w.last w.left) w.before x xs w.line q o.chain)

pub list_step : (r : ℕ) (w : Direction) (e : Event) → Order r w → May r w e → places w ++ put_by w e ≡ taken_by w e ++ places (happens w e)
list_step r w e o m = places_step w e o.accepted (accepts_below r w e o m)

pub order_laws : (p : Profile) (r : ℕ) (w : Direction) → r ≤ window_of p → Order r w → Trained w → DirectionLaws p r w
order_laws p r w l o t = record {
  acked = o.acked;
  accepted = o.accepted;
  position = position_begun r w o;
  kept = o.room;
  unfinished = unfinished r w w.left o.valid_sizes o.last o.unfinished;
  bursts = bursts (w.clears % 32) w.last o.burst;
  placed = placed r w o;
  gathered = whole r w o;
  trained = λ xs g q. no_train_in_good w xs t g q;
  list = λ e m. list_step r w e o m;
  identified = identified p r w l o;
  clears = clears r w o;
  starts = starts r w o;
  apart = apart p r w l o;
}

pub laws_after : (p : Profile) (r : ℕ) (past : List Event) → r ≤ window_of p → MayAll r past → DirectionLaws p r (after past)
laws_after p r past l m = order_laws p r (after past) l (order_after r past m) (trained_after r past m)

-- Each landing is an event of the numbers that may come, never out of order. Used by ActionLaw.
-- Its cases are LandClean, LandParts, LandShut and LandTouched.
use Rattle.std.proofs.Common.{◌≡◌, ℕ, zero, suc, List, [], Bool, true, false, refl, sym, ◌∙◌, ap, subst}
use Rattle.std.specs.Prelude.{◌||◌}
use Rattle.std.proofs.lemmas.Bool.{or_parts}
use Rattle.hmc_numbers.specs.Weights.{size}
use Rattle.hmc_numbers.specs.Direction.{Item, Reached, Reached as far, Direction}
use Rattle.hmc_numbers.specs.Direction.Item.{filler, clear, part}
use Rattle.hmc_numbers.specs.May.{IsGood}
use Rattle.hmc_numbers.specs.DirectionLaws.{ContinuesGathered}
use Rattle.hmc_wire.proofs.Grammar.{Grammar}
use Rattle.hmc_wire.proofs.GrammarLandings.{Landings, mode, pending, is_spoilt, in_mode, in_good, outcome}
use Rattle.hmc_wire.proofs.GrammarLandings.Mode.{training, abort, good}
use Rattle.hmc_wire.proofs.Spelled.{Sent, fronts}
use Rattle.hmc_wire.proofs.Matches.{IsAt, reading_of, event_of}
use Rattle.hmc_wire.proofs.Lands.{Lands, Done, DoneIn}
use Rattle.hmc_wire.proofs.LandShut.{in_training, in_aborted}
use Rattle.hmc_wire.proofs.LandTouched.{in_touched}
use Rattle.hmc_wire.proofs.LandClean.{pass}
use Rattle.hmc_wire.proofs.LandParts.{Goes, gather, end}

not_spoilt : (b : Bool) → b ≡ true → b ≡ false → ⊥
not_spoilt b e g = cc

-- a part of a packet, where nothing or its packet is gathered
goes : (G : Grammar) (s : Sent G) (r : ℕ) (w : Direction) (past : Landings G) (n k more : ℕ) (xs : List Item) (c : Bool) (f : G.Flit) → Goes G s r w past n k more xs c f →
    Done G s r w past c f (in_good G past (pending G past) f) (event_of good false c (reading_of (G.alone f)) (in_good G past (pending G past) f))
goes G s r w past n k zero xs c f g = end G s r w past n k xs c f g
goes G s r w past n k (suc more) xs c f g = gather G s r w past n k more xs c f g

pub between_goes : (G : Grammar) (s : Sent G) (r : ℕ) (w : Direction) (past : Landings G) (n k more : ℕ) (xs : List Item) (c : Bool) (f : G.Flit) → Lands G s r w past (part n k more) xs c f → (c || is_spoilt G past) ≡ false →
    w.far ≡ far.between → (mode G past ≡ good) × (is_spoilt G past ≡ false) × (pending G past ≡ []) → k ≡ 0 → Goes G s r w past n k more xs c f
between_goes G s r w past n k more xs c f l h q p z =
    let i = l.spelled (or_parts c (is_spoilt G past) h).0 in
    record {
      lands = l;
      far = subst IsGood (sym q) tt;
      mode = p.0;
      clean = h;
      behind = p.2 ∙ ap (λ j. fronts (s.front n) j) (sym z);
      lng = λ y. absurd (y z);
      first = i.0;
      flit = i.1;
    }

pub inside_goes : (G : Grammar) (s : Sent G) (r : ℕ) (w : Direction) (past : Landings G) (n k more : ℕ) (xs : List Item) (c : Bool) (f : G.Flit) (m j : ℕ) → Lands G s r w past (part n k more) xs c f → (c || is_spoilt G past) ≡ false →
    w.far ≡ far.inside m j → IsAt G s w.first (far.inside m j) (mode G past) (is_spoilt G past) (pending G past) → (n ≡ m) × (k ≡ j) → Goes G s r w past n k more xs c f
inside_goes G s r w past n k more xs c f m j l h q p z =
    let i = l.spelled (or_parts c (is_spoilt G past) h).0 in
    record {
      lands = l;
      far = subst IsGood (sym q) tt;
      mode = p.0;
      clean = h;
      behind = p.2 ∙ ap (λ y. fronts (s.front y) j) (sym z.0) ∙ ap (λ y. fronts (s.front n) y) (sym z.1);
      lng = λ y. ap (λ u. G.lng (s.front u 0)) z.0 ∙ p.5 ∙ ap (λ u. size w.first u) (sym z.0);
      first = i.0;
      flit = i.1;
    }

at_between : (G : Grammar) (s : Sent G) (r : ℕ) (w : Direction) (past : Landings G) (x : Item) (xs : List Item) (c : Bool) (f : G.Flit) → Lands G s r w past x xs c f → (c || is_spoilt G past) ≡ false →
    w.far ≡ far.between → (mode G past ≡ good) × (is_spoilt G past ≡ false) × (pending G past ≡ []) → ContinuesGathered far.between x →
    Done G s r w past c f (in_good G past (pending G past) f) (event_of good false c (reading_of (G.alone f)) (in_good G past (pending G past) f))
at_between G s r w past (part n k more) xs c f l h q p z = goes G s r w past n k more xs c f (between_goes G s r w past n k more xs c f l h q p z)
at_between G s r w past (filler y) xs c f l h q p z =
    pass G s r w past (filler y) xs c f (record { lands = l; clean = (or_parts c (is_spoilt G past) h).0; far = q; mode = p.0; nothing = p.2; no_part = tt }) (l.spelled (or_parts c (is_spoilt G past) h).0)
at_between G s r w past clear xs c f l h q p z =
    pass G s r w past clear xs c f (record { lands = l; clean = (or_parts c (is_spoilt G past) h).0; far = q; mode = p.0; nothing = p.2; no_part = tt }) (l.spelled (or_parts c (is_spoilt G past) h).0)

at_inside : (G : Grammar) (s : Sent G) (r : ℕ) (w : Direction) (past : Landings G) (x : Item) (xs : List Item) (c : Bool) (f : G.Flit) (m j : ℕ) → Lands G s r w past x xs c f → (c || is_spoilt G past) ≡ false →
    w.far ≡ far.inside m j → IsAt G s w.first (far.inside m j) (mode G past) (is_spoilt G past) (pending G past) → ContinuesGathered (far.inside m j) x →
    Done G s r w past c f (in_good G past (pending G past) f) (event_of good false c (reading_of (G.alone f)) (in_good G past (pending G past) f))
at_inside G s r w past (part n k more) xs c f m j l h q p z = goes G s r w past n k more xs c f (inside_goes G s r w past n k more xs c f m j l h q p z)
at_inside G s r w past (filler y) xs c f m j l h q p z = absurd z
at_inside G s r w past clear xs c f m j l h q p z = absurd z

-- in Good
in_gathering : (G : Grammar) (s : Sent G) (r : ℕ) (w : Direction) (past : Landings G) (x : Item) (xs : List Item) (c : Bool) (f : G.Flit) → Lands G s r w past x xs c f → mode G past ≡ good →
    ((c || is_spoilt G past) ≡ false → Done G s r w past c f (in_good G past (pending G past) f) (event_of good false c (reading_of (G.alone f)) (in_good G past (pending G past) f))) →
    DoneIn G s r w past c (is_spoilt G past) f (in_mode G good past f) good
in_gathering G s r w past x xs c f l g h = by_touch (c || is_spoilt G past) refl
  where
    by_touch : (t : Bool) → (c || is_spoilt G past) ≡ t → DoneIn G s r w past c (is_spoilt G past) f (in_mode G good past f) good
    by_touch true t = in_touched G s r w past x xs c f l g t
    by_touch false t = subst (λ b. Done G s r w past c f (in_mode G good past f) (event_of good b c (reading_of (G.alone f)) (in_mode G good past f))) (sym t) (h t)

by_place : (G : Grammar) (s : Sent G) (r : ℕ) (w : Direction) (past : Landings G) (x : Item) (xs : List Item) (c : Bool) (f : G.Flit) → Lands G s r w past x xs c f → (fr : Reached) → w.far ≡ fr →
    IsAt G s w.first fr (mode G past) (is_spoilt G past) (pending G past) → DoneIn G s r w past c (is_spoilt G past) f (outcome G past f) (mode G past)
by_place G s r w past x xs c f l far.training q p =
    subst (λ m. DoneIn G s r w past c (is_spoilt G past) f (in_mode G m past f) m) (sym p.0) (subst (λ b. DoneIn G s r w past c b f (in_mode G training past f) training) (sym p.1) (in_training G s r w past x xs c f l q p))
by_place G s r w past x xs c f l far.aborting q p =
    subst (λ m. DoneIn G s r w past c (is_spoilt G past) f (in_mode G m past f) m) (sym p.0) (subst (λ b. DoneIn G s r w past c b f (in_mode G abort past f) abort) (sym p.1) (in_aborted G s r w past x xs c f l q p))
by_place G s r w past x xs c f l far.between q p =
    subst (λ m. DoneIn G s r w past c (is_spoilt G past) f (in_mode G m past f) m) (sym p.0)
    (in_gathering G s r w past x xs c f l p.0 (λ h. at_between G s r w past x xs c f l h q p (subst (λ z. ContinuesGathered z x) q (l.laws.gathered x xs l.line))))
by_place G s r w past x xs c f l (far.inside n k) q p =
    subst (λ m. DoneIn G s r w past c (is_spoilt G past) f (in_mode G m past f) m) (sym p.0)
    (in_gathering G s r w past x xs c f l p.0 (λ h. at_inside G s r w past x xs c f n k l h q p (subst (λ z. ContinuesGathered z x) q (l.laws.gathered x xs l.line))))
by_place G s r w past x xs c f l far.spoilt q p =
    subst (λ m. DoneIn G s r w past c (is_spoilt G past) f (in_mode G m past f) m) (sym p.0)
    (in_gathering G s r w past x xs c f l p.0 (λ h. absurd (not_spoilt (is_spoilt G past) p.1 (or_parts c (is_spoilt G past) h).1)))

pub lands : (G : Grammar) (s : Sent G) (r : ℕ) (w : Direction) (past : Landings G) (x : Item) (xs : List Item) (c : Bool) (f : G.Flit) → Lands G s r w past x xs c f →
    DoneIn G s r w past c (is_spoilt G past) f (outcome G past f) (mode G past)
lands G s r w past x xs c f l = by_place G s r w past x xs c f l w.far refl l.matches.place

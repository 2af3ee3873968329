-- Landings in Good of flits that are no part of a sequenced packet. A case of LandLanded.
use Rattle.std.proofs.Common.{◌≡◌, ℕ, List, [], ◌∷◌, Bool, true, false, refl, sym, ◌∙◌, ap, subst}
use Rattle.std.specs.Prelude.{◌==◌, if◌then◌else◌}
use Rattle.hmc_numbers.specs.Direction.{Item, Direction, front_or}
use Rattle.hmc_numbers.specs.Direction.{Reached as far}
use Rattle.hmc_numbers.specs.Direction.{Filler as fill}
use Rattle.hmc_numbers.specs.Direction.Item.{filler, clear, part}
use Rattle.hmc_numbers.specs.Events.Event.{passes}
use Rattle.hmc_numbers.specs.May.{CanReadAs, IsGood, IsNoPart, May}
use Rattle.hmc_wire.proofs.Grammar.{Kind, Kind as kinds, Grammar}
use Rattle.hmc_wire.proofs.GrammarLandings.{Mode, Outcome, Landings, mode, mode_by, pending, run, in_good, of_read, ran_or_quiet}
use Rattle.hmc_wire.proofs.GrammarLandings.Mode.{training, abort, good}
use Rattle.hmc_wire.proofs.GrammarLandings.Outcome.{quiet, ran}
use Rattle.hmc_wire.proofs.Spelled.{Sent, Spelled, IsIrtry}
use Rattle.hmc_wire.proofs.Matches.{reading_of, event_of}
use Rattle.hmc_wire.proofs.Lands.{Lands, Done}
use Rattle.hmc_wire.proofs.LandOutcomes.{good_null, good_flow}
use Rattle.hmc_wire.proofs.LandKeep.{keep, clear_reads, start_reads, can_read}

-- nothing is pending, and the flit passes
pub record Passes (G : Grammar) (s : Sent G) (r : ℕ) (w : Direction) (past : Landings G) (x : Item) (xs : List Item) (c : Bool) (f : G.Flit) : Type 0 where
  pub lands : Lands G s r w past x xs c f
  pub clean : c ≡ false
  pub far : w.far ≡ far.between
  pub mode : mode G past ≡ good
  pub nothing : pending G past ≡ []
  pub no_part : IsNoPart (x ∷ xs)

may_pass : (G : Grammar) (s : Sent G) (r : ℕ) (w : Direction) (past : Landings G) (x : Item) (xs : List Item) (c : Bool) (f : G.Flit) → Passes G s r w past x xs c f → May r w (passes (reading_of (G.alone f)))
may_pass G s r w past x xs c f p =
    let l = p.lands in
    (subst IsGood (sym p.far) tt, subst IsNoPart (sym l.line) p.no_part, subst (λ ys. CanReadAs (front_or w.before ys) (reading_of (G.alone f))) (sym l.line) (can_read G s w.first x f (l.spelled p.clean)))

pass_quiet : (G : Grammar) (s : Sent G) (r : ℕ) (w : Direction) (past : Landings G) (x : Item) (xs : List Item) (c : Bool) (f : G.Flit) → Passes G s r w past x xs c f → Done G s r w past c f quiet (passes (reading_of (G.alone f)))
pass_quiet G s r w past x xs c f p =
    let m = p.lands.matches in
    record {
      ordered = tt;
      may = may_pass G s r w past x xs c f p;
      matches = keep G s w past c f quiet far.between (reading_of (G.alone f)) m refl (p.mode, refl, refl)
          (clear_reads (G.alone f) (run G kinds.clear past) w.clear_run m.clear_run) (start_reads (G.alone f) (run G kinds.start past) w.start_run m.start_run);
    }

pass_ran : (G : Grammar) (s : Sent G) (r : ℕ) (w : Direction) (past : Landings G) (x : Item) (xs : List Item) (c : Bool) (f : G.Flit) (k : Kind) → Passes G s r w past x xs c f → Done G s r w past c f (ran k) (passes (reading_of (G.alone f)))
pass_ran G s r w past x xs c f k p =
    let m = p.lands.matches in
    record {
      ordered = tt;
      may = may_pass G s r w past x xs c f p;
      matches = keep G s w past c f (ran k) far.between (reading_of (G.alone f)) m refl (mode_ran k (mode G past) p.mode, refl, refl)
          (clear_reads (G.alone f) (run G kinds.clear past) w.clear_run m.clear_run) (start_reads (G.alone f) (run G kinds.start past) w.start_run m.start_run);
    }
  where
    mode_ran : (k : Kind) (m : Mode) → m ≡ good → mode_by {B = G.Bad} (ran k) m ≡ good
    mode_ran kinds.start m e = e
    mode_ran kinds.clear training e = absurd (cc e)
    mode_ran kinds.clear abort e = refl
    mode_ran kinds.clear good e = refl

pass_irtry : (G : Grammar) (s : Sent G) (r : ℕ) (w : Direction) (past : Landings G) (x : Item) (xs : List Item) (c : Bool) (f : G.Flit) (k : Kind) → Passes G s r w past x xs c f → IsIrtry G k f →
    Done G s r w past c f (in_good G past (pending G past) f) (event_of good false c (reading_of (G.alone f)) (in_good G past (pending G past) f))
pass_irtry G s r w past x xs c f k p i =
    let e = good_flow G past (pending G past) f p.nothing i.some i.lng ∙ ap (λ z. of_read G past z) i.read in
    subst (λ o. Done G s r w past c f o (event_of good false c (reading_of (G.alone f)) o)) (sym e) (by_test (run G k past == 23) (ran_or_quiet k (run G k past)) refl)
  where
    by_test : (t : Bool) (o : Outcome G.Bad) → o ≡ (if t then ran k else quiet) → Done G s r w past c f o (event_of good false c (reading_of (G.alone f)) o)
    by_test true o e = subst (λ u. Done G s r w past c f u (event_of good false c (reading_of (G.alone f)) u)) (sym e) (pass_ran G s r w past x xs c f k p)
    by_test false o e = subst (λ u. Done G s r w past c f u (event_of good false c (reading_of (G.alone f)) u)) (sym e) (pass_quiet G s r w past x xs c f p)

pub pass : (G : Grammar) (s : Sent G) (r : ℕ) (w : Direction) (past : Landings G) (x : Item) (xs : List Item) (c : Bool) (f : G.Flit) → Passes G s r w past x xs c f → Spelled G s w.first x f →
    Done G s r w past c f (in_good G past (pending G past) f) (event_of good false c (reading_of (G.alone f)) (in_good G past (pending G past) f))
pass G s r w past (filler fill.null) xs c f p h =
    subst (λ o. Done G s r w past c f o (event_of good false c (reading_of (G.alone f)) o)) (sym (good_null G past (pending G past) f p.nothing h.0)) (pass_quiet G s r w past (filler fill.null) xs c f p)
pass G s r w past (filler fill.train) xs c f p h = absurd (p.lands.laws.trained xs (subst IsGood (sym p.far) tt) p.lands.line)
pass G s r w past (filler fill.pret) xs c f p h =
    let e = good_flow G past (pending G past) f p.nothing h.some h.lng ∙ ap (λ z. of_read G past z) h.read in
    subst (λ o. Done G s r w past c f o (event_of good false c (reading_of (G.alone f)) o)) (sym e) (pass_quiet G s r w past (filler fill.pret) xs c f p)
pass G s r w past (filler fill.start) xs c f p h = pass_irtry G s r w past (filler fill.start) xs c f kinds.start p h
pass G s r w past clear xs c f p h = pass_irtry G s r w past clear xs c f kinds.clear p h
pass G s r w past (part n k more) xs c f p h = absurd p.no_part

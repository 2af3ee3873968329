-- Landings in Train and in Abort. A case of LandLanded.
use Rattle.std.proofs.Common.{◌≡◌, ℕ, ◌+◌, List, [], ◌∷◌, Bool, true, false, refl, sym, ◌∙◌, subst, eqb-true}
use Rattle.std.specs.Prelude.{◌==◌, ◌&&◌, ◌||◌, if◌then◌else◌, Option, Some, None}
use Rattle.hmc_numbers.specs.Direction.{Item, Direction, front_or}
use Rattle.hmc_numbers.specs.Direction.{Reached as far}
use Rattle.hmc_numbers.specs.Events.{Reading, clear_run_after, start_run_after}
use Rattle.hmc_numbers.specs.Events.Reading.{plain, as_clear}
use Rattle.hmc_numbers.specs.May.{CanReadAs, IsShut, IsSome}
use Rattle.hmc_wire.proofs.Grammar.{Kind, Kind as kinds, Grammar}
use Rattle.hmc_wire.proofs.GrammarLandings.{Mode, Outcome, Landings, mode, pending, is_spoilt, run, is_of, is_some_irtry, is_steady, trained_count, checks, in_mode, in_abort}
use Rattle.hmc_wire.proofs.GrammarLandings.Mode.{training, abort, good}
use Rattle.hmc_wire.proofs.GrammarLandings.Outcome.{quiet, trained, ran}
use Rattle.hmc_wire.proofs.Spelled.{Sent}
use Rattle.hmc_wire.proofs.Matches.{Matches, IsAt, reading_of}
use Rattle.hmc_wire.proofs.Lands.{Lands, DoneIn}
use Rattle.hmc_wire.proofs.LandKeep.{keep, clear_reads, start_reads, can_read, changed_reading}

or_right : (a b : Bool) → (a || b) ≡ false → b ≡ false
or_right true b e = absurd (cc e)
or_right false b e = e

-- a changed flit reads as no IRTRY
shut_check : (G : Grammar) (m : Mode) (past : Landings G) (f : G.Flit) → (m ≡ training) → checks G m past f ≡ false → is_some_irtry (G.alone f) ≡ false
shut_check G training past f e h = or_right (G.is_training f) (is_some_irtry (G.alone f)) h
shut_check G abort past f e h = absurd (cc e)
shut_check G good past f e h = absurd (cc e)

pub abort_check : (G : Grammar) (m : Mode) (past : Landings G) (f : G.Flit) → (m ≡ abort) → checks G m past f ≡ false → is_some_irtry (G.alone f) ≡ false
abort_check G abort past f e h = h
abort_check G training past f e h = absurd (cc e)
abort_check G good past f e h = absurd (cc e)

pub readings : (G : Grammar) (s : Sent G) (r : ℕ) (w : Direction) (past : Landings G) (x : Item) (xs : List Item) (c : Bool) (f : G.Flit) → Lands G s r w past x xs c f →
    (checks G (mode G past) past f ≡ false → is_some_irtry (G.alone f) ≡ false) → (b : Bool) → c ≡ b → CanReadAs x (reading_of (G.alone f))
readings G s r w past x xs c f l h true e = changed_reading G x f (h (l.sound (rw e refl)))
readings G s r w past x xs c f l h false e = can_read G s w.first x f (l.spelled e)

front_reading : (G : Grammar) (w : Direction) (x : Item) (xs : List Item) (reading : Reading) → w.line ≡ x ∷ xs → CanReadAs x reading → IsSome w.line × CanReadAs (front_or w.before w.line) reading
front_reading G w x xs reading q h = (subst IsSome (sym q) tt, subst (λ ys. CanReadAs (front_or w.before ys) reading) (sym q) h)

pub in_training : (G : Grammar) (s : Sent G) (r : ℕ) (w : Direction) (past : Landings G) (x : Item) (xs : List Item) (c : Bool) (f : G.Flit) → Lands G s r w past x xs c f → w.far ≡ far.training →
    (mode G past ≡ training) × (is_spoilt G past ≡ false) × (pending G past ≡ []) → DoneIn G s r w past c false f (in_mode G training past f) training
in_training G s r w past x xs c f l q p = by_test (is_steady G f && trained_count G past == 7)
  where
    m : Matches G s w past
    m = l.matches

    v : IsSome w.line × CanReadAs (front_or w.before w.line) (reading_of (G.alone f))
    v = front_reading G w x xs (reading_of (G.alone f)) l.line (readings G s r w past x xs c f l (shut_check G (mode G past) past f p.0) c refl)

    by_test : (t : Bool) → DoneIn G s r w past c false f (if t then trained else quiet) training
    by_test true = record {
      ordered = tt;
      may = (q, v.0);
      matches = keep G s w past c f trained far.aborting plain m refl (refl, refl, refl) refl refl;
    }
    by_test false = record {
      ordered = tt;
      may = (subst IsShut (sym q) tt, v.0, v.1);
      matches = keep G s w past c f quiet w.far (reading_of (G.alone f)) m refl
          (subst (λ z. IsAt G s w.first z (mode G past) false []) (sym q) (p.0, refl, refl))
          (clear_reads (G.alone f) (run G kinds.clear past) w.clear_run m.clear_run) (start_reads (G.alone f) (run G kinds.start past) w.start_run m.start_run);
    }

pub in_aborted : (G : Grammar) (s : Sent G) (r : ℕ) (w : Direction) (past : Landings G) (x : Item) (xs : List Item) (c : Bool) (f : G.Flit) → Lands G s r w past x xs c f → w.far ≡ far.aborting →
    (mode G past ≡ abort) × (is_spoilt G past ≡ false) × (pending G past ≡ []) → DoneIn G s r w past c false f (in_mode G abort past f) abort
in_aborted G s r w past x xs c f l q p = by_alone (G.alone f) refl
  where
    m : Matches G s w past
    m = l.matches

    v : IsSome w.line × CanReadAs (front_or w.before w.line) (reading_of (G.alone f))
    v = front_reading G w x xs (reading_of (G.alone f)) l.line (readings G s r w past x xs c f l (abort_check G (mode G past) past f p.0) c refl)

    drops : (o : Outcome G.Bad) → (o ≡ quiet) → DoneIn G s r w past c false f o abort
    drops o e = subst (λ z. DoneIn G s r w past c false f z abort) (sym e) (record {
      ordered = tt;
      may = (subst IsShut (sym q) tt, v.0, v.1);
      matches = keep G s w past c f quiet w.far (reading_of (G.alone f)) m refl
          (subst (λ z. IsAt G s w.first z (mode G past) false []) (sym q) (p.0, refl, refl))
          (clear_reads (G.alone f) (run G kinds.clear past) w.clear_run m.clear_run) (start_reads (G.alone f) (run G kinds.start past) w.start_run m.start_run);
    })

    by_run : (k : Kind) (n : ℕ) → G.alone f ≡ Some (k, n) → (t : Bool) → (run G k past == 23) ≡ t → DoneIn G s r w past c false f (if t then ran k else quiet) abort
    by_run k n e false h = drops quiet refl
    by_run kinds.start n e true h = record {
      ordered = tt;
      may = (subst IsShut (sym q) tt, v.0, v.1);
      matches = keep G s w past c f (ran kinds.start) w.far (reading_of (G.alone f)) m refl
          (subst (λ z. IsAt G s w.first z (mode G past) false []) (sym q) (p.0, refl, refl))
          (clear_reads (G.alone f) (run G kinds.clear past) w.clear_run m.clear_run) (start_reads (G.alone f) (run G kinds.start past) w.start_run m.start_run);
    }
    by_run kinds.clear n e true h = record {
      ordered = tt;
      may = (q, v.0, subst (λ a. CanReadAs (front_or w.before w.line) (reading_of a)) e v.1, sym m.clear_run ∙ eqb-true (run G kinds.clear past) 23 h);
      matches = keep G s w past c f (ran kinds.clear) far.between as_clear m refl (rw p.0 (refl, refl, refl))
          (subst (λ a. (if is_of kinds.clear (G.alone f) then run G kinds.clear past + 1 else 0) ≡ clear_run_after (reading_of a) w.clear_run) e (clear_reads (G.alone f) (run G kinds.clear past) w.clear_run m.clear_run))
          (subst (λ a. (if is_of kinds.start (G.alone f) then run G kinds.start past + 1 else 0) ≡ start_run_after (reading_of a) w.start_run) e (start_reads (G.alone f) (run G kinds.start past) w.start_run m.start_run));
    }

    by_alone : (a : Option (Kind × ℕ)) → G.alone f ≡ a → DoneIn G s r w past c false f (in_abort G past a) abort
    by_alone None e = drops quiet refl
    by_alone (Some (k, n)) e = by_run k n e (run G k past == 23) refl

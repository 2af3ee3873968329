-- What a landing says beyond hmc_wire's Done: that a pointer is counted where it must be, how a
-- flit reads in Good, and when a run ends.
use Rattle.std.proofs.Common.{◌≡◌, ◌≢◌, ◌∙◌, ◌+◌, ◌≤◌, ◌⊎◌, inl, inr, ℕ, Bool, true, false, List, [], ◌∷◌, ◌++◌, length, Option, Some, None, refl, sym, ap, subst, arith}
use Rattle.std.specs.Prelude.{◌==◌, ◌||◌, ◌&&◌, nat_lt, if◌then◌else◌, is_some}
use Rattle.std.proofs.lemmas.Bool.{or_parts}
use Rattle.hmc_numbers.specs.Weights.{Weight}
use Rattle.hmc_numbers.specs.Direction.{Item, Direction, Reached, Reached as far, Filler as fill, front_or}
use Rattle.hmc_numbers.specs.Direction.Item.{filler, clear, part}
use Rattle.hmc_numbers.specs.DirectionLaws.{ContinuesGathered}
use Rattle.hmc_numbers.specs.Events.{Reading, Event}
use Rattle.hmc_numbers.specs.Events.Reading.{plain, as_start, as_clear}
use Rattle.hmc_numbers.specs.Events.Event.{drops, passes, accepts}
use Rattle.hmc_numbers.specs.May.{May, IsGood, IsNoPart}
use Rattle.hmc_numbers.specs.Turns.{IsLong, IsPret}
use Rattle.hmc_wire.proofs.Grammar.{Kind, Kind as kinds, Read, Read as reads, Grammar}
use Rattle.hmc_wire.proofs.GrammarCounted.{counted_run, counted_alone, counted_read, counted_good, counted_in, counted}
use Rattle.hmc_packet.specs.Receptions.{is_no_length as is_wrong_length}
use Rattle.hmc_wire.proofs.GrammarLandings.{Mode, Outcome, Landings, mode, pending, is_spoilt, run, is_empty, head_or, in_mode, in_abort, in_good, of_read, ran_or_quiet, outcome}
use Rattle.hmc_wire.proofs.GrammarLandings.Mode.{training, abort, good}
use Rattle.hmc_wire.proofs.GrammarLandings.Outcome.{quiet, trained, gathered, accepted, poisoned, repeated, aborted, disordered, ran}
use Rattle.hmc_wire.proofs.Lands.{Lands}
use Rattle.hmc_wire.proofs.LandOutcomes.{Fails, Fails as fails, good_fails, good_null, good_flow}
use Rattle.hmc_wire.proofs.Matches.{IsAt, reading_of, event_of}
use Rattle.hmc_wire.proofs.Spelled.{Sent, Spelled, IsIrtry}
use Rattle.hmc_wire.proofs.LandCounted.{flow_counts}
use Rattle.hmc_wire.proofs.LandTouched.{check_in}
use Rattle.hmc_link_state.specs.Landing as drained
use Rattle.hmc_link_state.specs.Landing.{IsProper, MustCount, Ran}
use Rattle.hmc_link_state.proofs.Chosen.{eq_same, not_same}
use Rattle.hmc_steps.proofs.Codes.{le-is}

pub record OutcomeFacts {B : Type 0} (w : Direction) (o : Outcome B) (e : Event) (n : Option ℕ) :
    Type 0 where
  pub counted : MustCount w e → is_some n ≡ true
  pub proper : IsProper (front_or w.before w.line) e
  pub ended : o ≡ ran kinds.start → Ran w e
  pub few : e ≡ drops as_clear → w.far ≡ far.aborting → w.clear_run ≢ 23

aborting_mode : (G : Grammar) (s : Sent G) (ps : List Weight) (x : Reached) (m : Mode) (b : Bool)
    (fs : List G.Flit) → IsAt G s ps x m b fs → x ≡ far.aborting → m ≡ abort
aborting_mode G s ps x m b fs at e = (subst (λ y. IsAt G s ps y m b fs) e at).0

-- Train

train_facts : (G : Grammar) (w : Direction) (reading : Reading) (t c b : Bool) →
    (w.far ≡ far.aborting → ⊥) →
    OutcomeFacts {B = G.Bad} w (if b then trained else quiet)
    (event_of {B = G.Bad} training t c reading (if b then trained else quiet)) None
train_facts G w reading t c true n =
    record {
      counted = λ m. absurd m;
      proper = tt;
      ended = λ e. absurd (cc e);
      few = λ e. absurd (cc e);
    }
train_facts G w reading t c false n =
    record {
      counted = λ m. absurd m;
      proper = tt;
      ended = λ e. absurd (cc e);
      few = λ e f. absurd (n f);
    }

-- Abort

run_counts : (n r : ℕ) → 23 ≤ n → is_some (counted_run n r) ≡ true
run_counts n r l = rw (le-is 23 n l) refl

abort_test : (G : Grammar) (w : Direction) (k : Kind) (t c b : Bool) (n r : ℕ) → (n == 23) ≡ b →
    (k ≡ kinds.start → n ≡ w.start_run) → (k ≡ kinds.clear → n ≡ w.clear_run) →
    OutcomeFacts {B = G.Bad} w (if b then ran k else quiet)
    (event_of {B = G.Bad} abort t c (reading_of (Some (k, r))) (if b then ran k else quiet))
    (counted_run n r)
abort_test G w kinds.start t c true n r e s l =
    record {
      counted = λ m. absurd m;
      proper = tt;
      ended = λ q. sym (s refl)
          ∙ eq_same n 23 e;
      few = λ q. absurd (cc q);
    }
abort_test G w kinds.start t c false n r e s l =
    record {
      counted = λ m. absurd m;
      proper = tt;
      ended = λ q. absurd (cc q);
      few = λ q. absurd (cc q);
    }
abort_test G w kinds.clear t c true n r e s l =
    record {
      counted = λ m. run_counts n r (let z = eq_same n 23 e in omega arith);
      proper = tt;
      ended = λ q. absurd (cc q);
      few = λ q. absurd (cc q);
    }
abort_test G w kinds.clear t c false n r e s l =
    record {
      counted = λ m. absurd m;
      proper = tt;
      ended = λ q. absurd (cc q);
      few = λ q f z. not_same n 23 e (l refl ∙ z);
    }

abort_facts : (G : Grammar) (w : Direction) (past : Landings G) (t c : Bool)
    (a : Option (Kind × ℕ)) → run G kinds.clear past ≡ w.clear_run →
    run G kinds.start past ≡ w.start_run →
    OutcomeFacts w (in_abort G past a) (event_of abort t c (reading_of a) (in_abort G past a))
    (counted_alone G past a)
abort_facts G w past t c None l s =
    record {
      counted = λ m. absurd m;
      proper = tt;
      ended = λ q. absurd (cc q);
      few = λ q. absurd (cc q);
    }
abort_facts G w past t c (Some (kinds.start, r)) l s =
    abort_test G w kinds.start t c (run G kinds.start past == 23) (run G kinds.start past) r refl
    (λ e. s) (λ e. absurd (cc e))
abort_facts G w past t c (Some (kinds.clear, r)) l s =
    abort_test G w kinds.clear t c (run G kinds.clear past == 23) (run G kinds.clear past) r refl
    (λ e. absurd (cc e)) (λ e. l)

-- Good, a flit that is no part of a packet

abbrev IsPassing : {B : Type 0} → Outcome B → Type 0
IsPassing quiet = Unit {0}
IsPassing trained = Unit {0}
IsPassing (ran k) = Unit {0}
IsPassing o = ⊥

passing_checks : {B : Type 0} (o : Outcome B) → Fails o → IsPassing o → ⊥
passing_checks o fails.gathers p = p
passing_checks o (fails.aborts b) p = p

abbrev IsNoPartItem : Item → Type 0
IsNoPartItem (part n k more) = ⊥
IsNoPartItem x = Unit {0}

no_part : (x : Item) (xs : List Item) → IsNoPart (x ∷ xs) → IsNoPartItem x
no_part (filler f) xs p = tt
no_part clear xs p = tt
no_part (part n k more) xs p = p

pub nothing_pending : (G : Grammar) (s : Sent G) (ps : List Weight) (x : Reached) (m : Mode)
    (b : Bool) (fs : List G.Flit) (y : Item) → IsGood x → IsAt G s ps x m b fs →
    ContinuesGathered x y → IsNoPartItem y → fs ≡ []
nothing_pending G s ps far.training m b fs y g at c p = absurd g
nothing_pending G s ps far.aborting m b fs y g at c p = absurd g
nothing_pending G s ps far.between m b fs y g at c p = at.2
nothing_pending G s ps (far.inside n k) m b fs (filler f) g at c p = absurd c
nothing_pending G s ps (far.inside n k) m b fs clear g at c p = absurd c
nothing_pending G s ps (far.inside n k) m b fs (part i j l) g at c p = absurd p
nothing_pending G s ps far.spoilt m b fs y g at c p = absurd g

pub record Reads (G : Grammar) (w : Direction) (past : Landings G) (x : Item) (f : G.Flit) :
    Type 0 where
  pub reading : reading_of (G.alone f) ≡ drained.reading_of x
  pub counted : IsLong w (reading_of (G.alone f)) ⊎ IsPret x →
      is_some (counted_good G past (pending G past) f) ≡ true
  pub ended : in_good G past (pending G past) f ≡ ran kinds.start →
      (reading_of (G.alone f) ≡ as_start) × (w.start_run ≡ 23)

no_long : (w : Direction) (l : Reading) → l ≡ plain → IsLong w l → ⊥
no_long w l e i = subst (IsLong w) e i

ran_test : (B : Type 0) (k l : Kind) (n : ℕ) (o : Outcome B) → o ≡ ran_or_quiet k n → o ≡ ran l →
    (k ≡ l) × (n ≡ 23)
ran_test B k l n o h e = by_test (n == 23) refl h
  where
    by_test : (b : Bool) → (n == 23) ≡ b → o ≡ (if b then ran k else quiet) → (k ≡ l) × (n ≡ 23)
    by_test true h i = let same : ran k ≡ ran l = sym i ∙ e in (cc, eq_same n 23 h)
    by_test false h i = let clash : quiet ≡ ran l = sym i ∙ e in absurd (cc clash)

reads_irtry : (G : Grammar) (w : Direction) (past : Landings G) (x : Item) (f : G.Flit) (k : Kind) →
    pending G past ≡ [] → run G kinds.clear past ≡ w.clear_run →
    run G kinds.start past ≡ w.start_run → IsIrtry G k f →
    ((r : ℕ) → reading_of (Some (k, r)) ≡ drained.reading_of x) → (IsPret x → ⊥) →
    Reads G w past x f
reads_irtry G w past x f k nothing l s i same other = record {
  reading = ap reading_of i.alone ∙ same i.r;
  counted =
      λ m. ap (λ (z : Option ℕ). is_some z)
      (flow_counts G past (pending G past) f nothing i.some i.lng
      ∙ ap (counted_read G past) i.read) ∙ by_kind k i.r i.alone m;
  ended =
      λ e. by_ran
      (sym (good_flow G past (pending G past) f nothing i.some i.lng
      ∙ ap (λ z. of_read G past z) i.read) ∙ e);
}
  where
    by_kind : (j : Kind) (r : ℕ) → G.alone f ≡ Some (j, r) → IsLong w (reading_of (G.alone f))
        ⊎ IsPret x → is_some (counted_run (run G j past) r) ≡ true
    by_kind j r e (inr p) = absurd (other p)
    by_kind kinds.start r e (inl z) =
        run_counts (run G kinds.start past) r
        (let y : 23 ≤ w.start_run = subst (IsLong w) (ap reading_of e) z in omega (arith, s))
    by_kind kinds.clear r e (inl z) =
        run_counts (run G kinds.clear past) r
        (let y : 23 ≤ w.clear_run = subst (IsLong w) (ap reading_of e) z in omega (arith, l))

    by_ran : ran_or_quiet {B = G.Bad} k (run G k past) ≡ ran kinds.start →
        (reading_of (G.alone f) ≡ as_start) × (w.start_run ≡ 23)
    by_ran e =
        let z =
        ran_test G.Bad k kinds.start (run G k past) (ran_or_quiet k (run G k past)) refl e in (
          ap reading_of i.alone ∙ ap (λ (j : Kind). reading_of (Some (j, i.r))) z.0,
          sym s
              ∙ ap (λ (j : Kind). run G j past) (sym z.0) ∙ z.1,
        )

reads_item : (G : Grammar) (s : Sent G) (w : Direction) (past : Landings G) (x : Item)
    (f : G.Flit) → pending G past ≡ [] → run G kinds.clear past ≡ w.clear_run →
    run G kinds.start past ≡ w.start_run → IsNoPartItem x → (x ≡ filler fill.train → ⊥) →
    Spelled G s w.first x f → Reads G w past x f
reads_item G s w past (filler fill.null) f nothing l r p t h = record {
  reading = ap reading_of h.1;
  counted = λ m. by_two m;
  ended =
      λ e. absurd
      (let clash : quiet ≡ ran kinds.start = sym (good_null G past (pending G past) f nothing h.0)
      ∙ e in cc clash);
}
  where
    by_two : IsLong w (reading_of (G.alone f)) ⊎ IsPret (filler fill.null) →
        is_some (counted_good G past (pending G past) f) ≡ true
    by_two (inl z) = absurd (no_long w (reading_of (G.alone f)) (ap reading_of h.1) z)
    by_two (inr z) = absurd z
reads_item G s w past (filler fill.train) f nothing l r p t h = absurd (t refl)
reads_item G s w past (filler fill.pret) f nothing l r p t h = record {
  reading = ap reading_of h.alone;
  counted =
      λ m. ap (λ (z : Option ℕ). is_some z)
      (flow_counts G past (pending G past) f nothing h.some h.lng
      ∙ ap (counted_read G past) h.read);
  ended =
      λ e. absurd
      (let clash : quiet ≡ ran kinds.start = sym
      (good_flow G past (pending G past) f nothing h.some h.lng ∙ ap (λ z. of_read G past z) h.read)
      ∙ e in cc clash);
}
reads_item G s w past (filler fill.start) f nothing l r p t h =
    reads_irtry G w past (filler fill.start) f kinds.start nothing l r h (λ z. refl) (λ z. z)
reads_item G s w past clear f nothing l r p t h =
    reads_irtry G w past clear f kinds.clear nothing l r h (λ z. refl) (λ z. z)
reads_item G s w past (part n k more) f nothing l r p t h = absurd p

-- Good, a packet

abbrev pub IsTaken : {B : Type 0} → Outcome B → Type 0
IsTaken accepted = Unit {0}
IsTaken poisoned = Unit {0}
IsTaken repeated = Unit {0}
IsTaken o = ⊥

ran_not_taken : (B : Type 0) (k : Kind) (b : Bool) → IsTaken {B = B} (if b then ran k else quiet) →
    ⊥
ran_not_taken B k true z = z
ran_not_taken B k false z = z

read_counts : (G : Grammar) (past : Landings G) (x : Read G.Packet G.Bad) →
    IsTaken (of_read G past x) → is_some (counted_read G past x) ≡ true
read_counts G past (reads.bad b) z = absurd z
read_counts G past reads.null z = absurd z
read_counts G past (reads.irtry k r) z = absurd (ran_not_taken G.Bad k (run G k past == 23) z)
read_counts G past (reads.pret r) z = absurd z
read_counts G past (reads.packet p r) z = refl

tests_count : (G : Grammar) (past : Landings G) (x : Read G.Packet G.Bad) (a b c : Bool) →
    IsTaken (if a then quiet
    else (if b then aborted G.wrong_length else (if c then gathered else of_read G past x))) →
    is_some (if a then None else (if b then None else (if c then None else counted_read G past x)))
    ≡ true
tests_count G past x true b c z = absurd z
tests_count G past x false true c z = absurd z
tests_count G past x false false true z = absurd z
tests_count G past x false false false z = read_counts G past x z

pub good_counts : (G : Grammar) (past : Landings G) (fs : List G.Flit) (f : G.Flit) →
    IsTaken (in_good G past fs f) → is_some (counted_good G past fs f) ≡ true
good_counts G past fs f z =
    tests_count G past (G.read (fs ++ f ∷ [])) (is_empty fs && G.is_null f)
    (is_empty fs && is_wrong_length (G.lng f)) (nat_lt (length fs + 1) (G.lng (head_or fs f))) z

-- Good

front_is : (w : Direction) (x : Item) (xs : List Item) → w.line ≡ x ∷ xs →
    front_or w.before w.line ≡ x
front_is w x xs e = ap (front_or w.before) e

trained_no : (G : Grammar) (s : Sent G) (r : ℕ) (w : Direction) (past : Landings G) (x : Item)
    (xs : List Item) (c : Bool) (f : G.Flit) → Lands G s r w past x xs c f → IsGood w.far →
    x ≡ filler fill.train → ⊥
trained_no G s r w past x xs c f l g e = l.laws.trained xs g (l.line ∙ ap (λ (y : Item). y ∷ xs) e)

passing : (G : Grammar) (s : Sent G) (r : ℕ) (w : Direction) (past : Landings G) (x : Item)
    (xs : List Item) (c : Bool) (f : G.Flit) → Lands G s r w past x xs c f → mode G past ≡ good →
    (o : Outcome G.Bad) → IsPassing o → in_good G past (pending G past) f ≡ o →
    May r w (passes (reading_of (G.alone f))) → Reads G w past x f
passing G s r w past x xs c f l g o p e m = by_touched (c || is_spoilt G past) refl
  where
    by_touched : (b : Bool) → (c || is_spoilt G past) ≡ b → Reads G w past x f
    by_touched true t =
        absurd (passing_checks o
        (subst (λ (z : Outcome G.Bad). Fails z) e
        (good_fails G past (pending G past) f (check_in G (mode G past) past f g (l.sound t)))) p)
    by_touched false t =
        let item = no_part x xs (subst IsNoPart l.line m.1) in
        reads_item G s w past x f
        (nothing_pending G s w.first w.far (mode G past) (is_spoilt G past) (pending G past) x m.0
        l.matches.place (l.laws.gathered x xs l.line) item)
        l.matches.clear_run l.matches.start_run item (trained_no G s r w past x xs c f l m.0)
        (l.spelled (or_parts c (is_spoilt G past) t).0)

passing_facts : (G : Grammar) (w : Direction) (past : Landings G) (x : Item) (xs : List Item)
    (f : G.Flit) (o : Outcome G.Bad) → w.line ≡ x ∷ xs → in_good G past (pending G past) f ≡ o →
    Reads G w past x f →
    OutcomeFacts w o (passes (reading_of (G.alone f))) (counted_good G past (pending G past) f)
passing_facts G w past x xs f o line e d = record {
  counted =
      λ m. d.counted
      (subst (λ (y : Item). IsLong w (reading_of (G.alone f)) ⊎ IsPret y) (front_is w x xs line) m);
  proper = d.reading ∙ ap drained.reading_of (sym (front_is w x xs line));
  ended = λ q. let z = d.ended (e ∙ q) in subst (λ (l : Reading). Ran w (passes l)) (sym z.0) z.1;
  few = λ q. absurd (cc q);
}

taken_facts : (G : Grammar) (w : Direction) (past : Landings G) (f : G.Flit) (o : Outcome G.Bad)
    (e : Event) → IsTaken o → (o ≡ ran kinds.start → ⊥) → (e ≡ drops as_clear → ⊥) →
    IsProper (front_or w.before w.line) e → in_good G past (pending G past) f ≡ o →
    OutcomeFacts w o e (counted_good G past (pending G past) f)
taken_facts G w past f o e t n d p is =
    record {
      counted = λ m. good_counts G past (pending G past) f
          (subst (λ (z : Outcome G.Bad). IsTaken z) (sym is) t);
      proper =
          p;
      ended = λ q. absurd (n q);
      few = λ q. absurd (d q);
    }

good_facts : (G : Grammar) (s : Sent G) (r : ℕ) (w : Direction) (past : Landings G) (x : Item)
    (xs : List Item) (c : Bool) (f : G.Flit) → Lands G s r w past x xs c f → mode G past ≡ good →
    (t : Bool) (o : Outcome G.Bad) → in_good G past (pending G past) f ≡ o →
    May r w (event_of good t c (reading_of (G.alone f)) o) →
    OutcomeFacts w o (event_of good t c (reading_of (G.alone f)) o)
    (counted_good G past (pending G past) f)
good_facts G s r w past x xs c f l g t quiet e m =
    passing_facts G w past x xs f quiet l.line e (passing G s r w past x xs c f l g quiet tt e m)
good_facts G s r w past x xs c f l g t trained e m =
    passing_facts G w past x xs f trained l.line e
    (passing G s r w past x xs c f l g trained tt e m)
good_facts G s r w past x xs c f l g t (ran kinds.start) e m =
    passing_facts G w past x xs f (ran kinds.start) l.line e
    (passing G s r w past x xs c f l g (ran kinds.start) tt e m)
good_facts G s r w past x xs c f l g t (ran kinds.clear) e m =
    passing_facts G w past x xs f (ran kinds.clear) l.line e
    (passing G s r w past x xs c f l g (ran kinds.clear) tt e m)
good_facts G s r w past x xs c f l g t accepted e m =
    taken_facts G w past f accepted accepts tt (λ q. cc q) (λ q. cc q) tt e
good_facts G s r w past x xs c f l g t poisoned e m =
    taken_facts G w past f poisoned accepts tt (λ q. cc q) (λ q. cc q) tt e
good_facts G s r w past x xs c f l g t repeated e m =
    taken_facts G w past f repeated Event.repeats tt (λ q. cc q) (λ q. cc q) tt e
good_facts G s r w past x xs c f l g t (aborted b) e m =
    record {
      counted = λ n. absurd n;
      proper = tt;
      ended = λ q. absurd (cc q);
      few = λ q. absurd (cc q);
    }
good_facts G s r w past x xs c f l g t disordered e m =
    record {
      counted = λ n. absurd n;
      proper = tt;
      ended = λ q. absurd (cc q);
      few = λ q. absurd (cc q);
    }
good_facts G s r w past x xs c f l g true gathered e m =
    record {
      counted = λ n. absurd n;
      proper = tt;
      ended = λ q. absurd (cc q);
      few = λ q. absurd (cc q);
    }
good_facts G s r w past x xs c f l g false gathered e m =
    record {
      counted = λ n. absurd n;
      proper = tt;
      ended = λ q. absurd (cc q);
      few = λ q. absurd (cc q);
    }

-- each mode

pub outcome_facts : (G : Grammar) (s : Sent G) (r : ℕ) (w : Direction) (past : Landings G)
    (x : Item)
    (xs : List Item) (c : Bool) (f : G.Flit) → Lands G s r w past x xs c f →
    May r w (event_of (mode G past) (c || is_spoilt G past) c (reading_of (G.alone f))
    (outcome G past f)) →
    OutcomeFacts w (outcome G past f)
    (event_of (mode G past) (c || is_spoilt G past) c (reading_of (G.alone f)) (outcome G past f))
    (counted G past f)
outcome_facts G s r w past x xs c f l m = by_mode (mode G past) refl m
  where
    by_mode : (k : Mode) → mode G past ≡ k →
        May r w (event_of k (c || is_spoilt G past) c (reading_of (G.alone f))
        (in_mode G k past f)) →
        OutcomeFacts w (in_mode G k past f)
        (event_of k (c || is_spoilt G past) c (reading_of (G.alone f)) (in_mode G k past f))
        (counted_in G k past f)
    by_mode training e m =
        train_facts G w (reading_of (G.alone f)) (c || is_spoilt G past) c _
        (λ q. let clash : training ≡ abort = sym e
        ∙ aborting_mode G s w.first w.far (mode G past) (is_spoilt G past) (pending G past)
        l.matches.place q in cc clash)
    by_mode abort e m =
        abort_facts G w past (c || is_spoilt G past) c (G.alone f) l.matches.clear_run
        l.matches.start_run
    by_mode good e m =
        good_facts G s r w past x xs c f l e (c || is_spoilt G past)
        (in_good G past (pending G past) f) refl m

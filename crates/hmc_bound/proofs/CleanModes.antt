-- The landing of a flit that isn't changed, over any grammar, by the mode of the receiver: Train,
-- Abort, and Good with nothing spoilt.
use Rattle.std.proofs.Common.{◌≡◌, ◌∙◌, ◌+◌, ◌≤◌, ◌⊎◌, inl, inr, ℕ, zero, suc, Bool, true, false, List, ◌∷◌, refl, sym, ap, subst, arith}
use Rattle.std.specs.Prelude.{◌==◌, ◌&&◌, nat_le, if◌then◌else◌, is_some}
use Rattle.std.proofs.lemmas.Grind.{common_steps}
use Rattle.hmc_numbers.specs.Direction.{Item, Direction, Reached, Reached as far, Filler as fill, front_or}
use Rattle.hmc_numbers.specs.Direction.Item.{filler, clear, part}
use Rattle.hmc_numbers.specs.Events.{Reading, Event, happens}
use Rattle.hmc_numbers.specs.Events.Reading.{plain, as_start, as_clear}
use Rattle.hmc_numbers.specs.Events.Event.{drops, trains, opens, passes, accepts, repeats}
use Rattle.hmc_numbers.specs.May.{May, IsGood}
use Rattle.hmc_numbers.specs.Turns.{IsLong, IsPret, MayCount}
use Rattle.hmc_wire.proofs.Grammar.{Kind as kinds, Grammar}
use Rattle.hmc_wire.proofs.GrammarLandings.{Mode, Outcome, Landings, Landing as lands, mode, pending, is_spoilt, run, trained_count, in_mode, in_good}
use Rattle.hmc_wire.proofs.GrammarLandings as inner
use Rattle.hmc_wire.proofs.GrammarLandings.Mode.{training, abort, good}
use Rattle.hmc_wire.proofs.GrammarLandings.Outcome.{quiet, trained, gathered, accepted, poisoned, repeated, aborted, disordered, ran}
use Rattle.hmc_wire.proofs.GrammarCounted.{counted_in}
use Rattle.hmc_wire.proofs.Lands.{Lands}
use Rattle.hmc_wire.proofs.Matches.{reading_of, event_of}
use Rattle.hmc_wire.proofs.Spelled.{Sent}
use Rattle.hmc_link_state.specs.Landing.{IsProper, MustCount}
use Rattle.hmc_link_state.specs.Landing as drained
use Rattle.hmc_link_state.specs.Round.{is_steady, event_in_good, event_in_abort, event_at_far, front, is_long, is_pret, is_counted_at, is_start_item, is_ran_start_at}
use Rattle.hmc_link_state.specs.State.{Side, wire}
use Rattle.hmc_link_state.proofs.Calm.{good_event}
use Rattle.hmc_link_state.proofs.CleanLandings.{is_a_pret, pret_is}
use Rattle.hmc_steps.proofs.Outcomes.{OutcomeFacts, nothing_pending}
use Rattle.hmc_steps.proofs.CleanLands.{clean-reads, abort-event, abort-counted, abort-ran, is_ran, good-event, good-ran}

-- the event of a landing in a mode, where nothing is changed now
abbrev pub event_in : (G : Grammar) → (past : Landings G) → (f : G.Flit) → Mode → (spoilt : Bool) →
    Event
event_in G past f m b = event_of m b false (reading_of (G.alone f)) (in_mode G m past f)

pub record CleanIn (G : Grammar) (x : Side) (y : Item) (past : Landings G) (f : G.Flit)
    (r : Reached) (m : Mode) (b : Bool) : Type 0 where
  pub event : event_in G past f m b ≡ event_at_far x (reading_of (G.alone f)) y r
  pub counted : is_some (counted_in G m past f) ≡ is_counted_at x r (event_in G past f m b)
  pub ran_is : is_ran (in_mode G m past f) ≡ is_ran_start_at x r (reading_of (G.alone f))
  pub steady : r ≡ far.training → (happens (wire x) (event_in G past f m b)).far ≡ far.training →
      trained_count G (lands.landed false f (in_mode G m past f)
      ∷ past) ≡ (if is_steady y (reading_of (G.alone f)) then x.steady + 1 else 0)
  pub lacks : (happens (wire x) (event_in G past f m b)).far ≡ far.spoilt → (r ≡ far.spoilt)
      × (in_mode G m past f ≡ gathered)

pub never : (b : Bool) → (b ≡ true → ⊥) → b ≡ false
never true h = absurd (h refl)
never false h = refl

both-ways : (a b : Bool) → (a ≡ true → b ≡ true) → (b ≡ true → a ≡ true) → a ≡ b
both-ways true true f g = refl
both-ways true false f g = sym (f refl)
both-ways false true f g = g refl
both-ways false false f g = refl

-- ---- in Train

train_event : (G : Grammar) (b t : Bool) (look : Reading) →
    event_of {B = G.Bad} training t false look (if b then trained else quiet) ≡ (if b then trains
    else drops look)
train_event G true t look = refl
train_event G false t look = refl

train_counted : (G : Grammar) (x : Side) (b t : Bool) (look : Reading) →
    false ≡ is_counted_at x far.training
    (event_of {B = G.Bad} training t false look (if b then trained else quiet))
train_counted G x true t look = refl
train_counted G x false t look = refl

train_ran : (G : Grammar) (b : Bool) → is_ran {B = G.Bad} (if b then trained else quiet) ≡ false
train_ran G true = refl
train_ran G false = refl

pub training_case : (G : Grammar) (x : Side) (y : Item) (past : Landings G) (f : G.Flit) (b : Bool)
    → (wire x).far ≡ far.training → x.steady ≡ trained_count G past →
    inner.is_steady G f ≡ is_steady y (reading_of (G.alone f)) →
    CleanIn G x y past f far.training training b
training_case G x y past f b at n s =
    let look = reading_of (G.alone f) in
    let t = inner.is_steady G f && trained_count G past == 7 in
    record {
      event = train_event G t b look ∙ (λ i. if s i && (sym n i == 7) then trains else drops look);
      counted = train_counted G x t b look;
      ran_is = train_ran G t;
      steady = λ e z. by_test t z;
      lacks = λ z. absurd (by_far t z);
    }
  where
    by_test : (t : Bool) →
        (happens (wire x)
        (event_of {B = G.Bad} training b false (reading_of (G.alone f)) (if t then trained
        else quiet))).far ≡ far.training →
        trained_count G (lands.landed false f (if t then trained else quiet)
        ∷ past) ≡ (if is_steady y (reading_of (G.alone f)) then x.steady + 1 else 0)
    by_test true z = absurd (cc z)
    by_test false z = λ i. if s i then sym n i + 1 else 0

    by_far : (t : Bool) →
        (happens (wire x)
        (event_of {B = G.Bad} training b false (reading_of (G.alone f)) (if t then trained
        else quiet))).far ≡ far.spoilt → ⊥
    by_far true z = cc z
    by_far false z = let clash : far.training ≡ far.spoilt = sym at ∙ z in cc clash

-- ---- in Abort

abort_far : (w : Direction) (n : ℕ) (look : Reading) → w.far ≡ far.aborting →
    (happens w (event_in_abort n look)).far ≡ far.spoilt → ⊥
abort_far w n plain at z = let clash : far.aborting ≡ far.spoilt = sym at ∙ z in cc clash
abort_far w n as_start at z = let clash : far.aborting ≡ far.spoilt = sym at ∙ z in cc clash
abort_far w n as_clear at z = by_test (n == 23) z
  where
    by_test : (b : Bool) → (happens w (if b then opens else drops as_clear)).far ≡ far.spoilt → ⊥
    by_test true z = cc z
    by_test false z = let clash : far.aborting ≡ far.spoilt = sym at ∙ z in cc clash

pub aborting_case : (G : Grammar) (x : Side) (y : Item) (past : Landings G) (f : G.Flit) (b : Bool)
    → (wire x).far ≡ far.aborting → run G kinds.clear past ≡ (wire x).clear_run →
    run G kinds.start past ≡ (wire x).start_run → CleanIn G x y past f far.aborting abort b
aborting_case G x y past f b at c s =
    let event : event_in G past f abort b ≡ event_in_abort (run G kinds.clear past)
    (reading_of (G.alone f)) =
    abort-event G past (run G kinds.clear past) b false (G.alone f) refl in
    record {
      event = abort-event G past (wire x).clear_run b false (G.alone f) c;
      counted =
          abort-counted G past x (G.alone f) c s
          ∙ ap (λ (e : Event). is_counted_at x far.aborting e) (sym event);
      ran_is = abort-ran G past x (G.alone f) s;
      steady = λ e. absurd (cc e);
      lacks =
          λ z. absurd
          (abort_far (wire x) (run G kinds.clear past) (reading_of (G.alone f)) at
          (ap (λ (e : Event). (happens (wire x) e).far) (sym event) ∙ z));
    }

-- ---- in Good: whether the pointer is counted, by numbers

abbrev counts_good : Side → Event → Bool
counts_good x opens = true
counts_good x (passes plain) = is_pret (front x)
counts_good x (passes look) = is_long x look
counts_good x accepts = true
counts_good x repeats = true
counts_good x e = false

same_counted : (x : Side) (r : Reached) → IsGood r → (e : Event) →
    is_counted_at x r e ≡ counts_good x e
same_counted x far.between g (passes plain) = refl
same_counted x far.between g (passes as_start) = refl
same_counted x far.between g (passes as_clear) = refl
same_counted x far.between g _ = refl
same_counted x (far.inside n k) g (passes plain) = refl
same_counted x (far.inside n k) g (passes as_start) = refl
same_counted x (far.inside n k) g (passes as_clear) = refl
same_counted x (far.inside n k) g _ = refl
same_counted x far.training g e = absurd g
same_counted x far.aborting g e = absurd g
same_counted x far.spoilt g e = absurd g

pret_reads : (i : Item) (look : Reading) → look ≡ drained.reading_of i → IsPret i → look ≡ plain
pret_reads (filler fill.pret) look e p = e
pret_reads (filler fill.null) look e p = absurd p
pret_reads (filler fill.train) look e p = absurd p
pret_reads (filler fill.start) look e p = absurd p
pret_reads clear look e p = absurd p
pret_reads (part n k more) look e p = absurd p

most_le : (n : ℕ) → nat_le 23 n ≡ true → 23 ≤ n
most_le n e = grind (arith, common_steps)

le_most : (n : ℕ) → 23 ≤ n → nat_le 23 n ≡ true
le_most n e = grind (arith, common_steps)

good_aborting : (r : Reached) → IsGood r → r ≡ far.aborting → ⊥
good_aborting r g e = subst IsGood e g

abbrev IsNoPass : Event → Type 0
IsNoPass (passes look) = ⊥
IsNoPass (drops look) = ⊥
IsNoPass e = Unit {0}

others_counted : (x : Side) (b : Bool) (e : Event) → IsNoPass e →
    (MustCount (wire x) e → b ≡ true) → (b ≡ true → MayCount (wire x) e) → b ≡ counts_good x e
others_counted x b opens n must may = must tt
others_counted x b accepts n must may = must tt
others_counted x b repeats n must may = must tt
others_counted x b (passes look) n must may = absurd n
others_counted x b (drops look) n must may = absurd n
others_counted x b _ n must may = never b may

passes_counted : (x : Side) (b : Bool) (look : Reading) → look ≡ drained.reading_of (front x) →
    (IsLong (wire x) look ⊎ IsPret (front x) → b ≡ true) →
    (b ≡ true → IsLong (wire x) look ⊎ IsPret (front x)) → b ≡ counts_good x (passes look)
passes_counted x b plain p must may =
    both-ways b (is_pret (front x)) (λ e. by_may (may e))
    (λ e. must (inr (pret_is (front x) e)))
  where
    by_may : IsLong (wire x) plain ⊎ IsPret (front x) → is_pret (front x) ≡ true
    by_may (inl z) = absurd z
    by_may (inr z) = is_a_pret (front x) z
passes_counted x b as_start p must may =
    both-ways b (nat_le 23 (wire x).start_run) (λ e. by_may (may e))
    (λ e. must (inl (most_le (wire x).start_run e)))
  where
    by_may : IsLong (wire x) as_start ⊎ IsPret (front x) → nat_le 23 (wire x).start_run ≡ true
    by_may (inl z) = le_most (wire x).start_run z
    by_may (inr z) = absurd (cc (pret_reads (front x) as_start p z))
passes_counted x b as_clear p must may =
    both-ways b (nat_le 23 (wire x).clear_run) (λ e. by_may (may e))
    (λ e. must (inl (most_le (wire x).clear_run e)))
  where
    by_may : IsLong (wire x) as_clear ⊎ IsPret (front x) → nat_le 23 (wire x).clear_run ≡ true
    by_may (inl z) = le_most (wire x).clear_run z
    by_may (inr z) = absurd (cc (pret_reads (front x) as_clear p z))

good_counted : (x : Side) (b : Bool) (e : Event) → IsGood (wire x).far → IsProper (front x) e →
    (MustCount (wire x) e → b ≡ true) → (b ≡ true → MayCount (wire x) e) → b ≡ counts_good x e
good_counted x b (passes look) g p must may = passes_counted x b look p must may
good_counted x b (drops look) g p must may = never b (λ e. good_aborting (wire x).far g (may e).0)
good_counted x b opens g p must may = others_counted x b opens tt must may
good_counted x b accepts g p must may = others_counted x b accepts tt must may
good_counted x b repeats g p must may = others_counted x b repeats tt must may
good_counted x b _ g p must may = never b may

-- ---- in Good: the run

abbrev IsPassing : Event → Type 0
IsPassing (passes look) = Unit {0}
IsPassing e = ⊥

ran_passes : {B : Type 0} (o : Outcome B) (look : Reading) → is_ran o ≡ true →
    IsPassing (event_of good false false look o)
ran_passes (ran kinds.start) look e = tt
ran_passes (ran kinds.clear) look e = tt
ran_passes quiet look e = tt
ran_passes trained look e = tt
ran_passes gathered look e = absurd (cc e)
ran_passes accepted look e = absurd (cc e)
ran_passes poisoned look e = absurd (cc e)
ran_passes repeated look e = absurd (cc e)
ran_passes (aborted b) look e = absurd (cc e)
ran_passes disordered look e = absurd (cc e)

part_passes : (w : Direction) (n k more : ℕ) → IsPassing (event_in_good w (part n k more)) → ⊥
part_passes w n k zero p = by_next (n == w.accepted + 1) p
  where
    by_next : (b : Bool) → IsPassing (if b then accepts else repeats) → ⊥
    by_next true p = p
    by_next false p = p
part_passes w n k (suc more) p = p

abbrev ran_good : Side → Item → Bool
ran_good x y = is_start_item y && ((wire x).start_run == 23)

same_ran : (x : Side) (r : Reached) (look : Reading) → IsGood r →
    is_ran_start_at x r look ≡ ran_good x (front x)
same_ran x far.between look g = refl
same_ran x (far.inside n k) look g = refl
same_ran x far.training look g = absurd g
same_ran x far.aborting look g = absurd g
same_ran x far.spoilt look g = absurd g

good_ran : (G : Grammar) (s : Sent G) (r : ℕ) (x : Side) (y : Item) (xs : List Item)
    (past : Landings G) (f : G.Flit) → Lands G s r (wire x) past y xs false f →
    IsGood (wire x).far →
    event_of good false false (reading_of (G.alone f))
    (in_good G past (pending G past) f) ≡ event_in_good (wire x) y →
    is_ran (in_good G past (pending G past) f) ≡ ran_good x y
good_ran G s r x (part n k more) xs past f l g e =
    never (is_ran (in_good G past (pending G past) f))
    (λ z. part_passes (wire x) n k more
    (subst IsPassing e (ran_passes (in_good G past (pending G past) f) (reading_of (G.alone f)) z)))
good_ran G s r x (filler t) xs past f l g e =
    good-ran G s (wire x) past (filler t) f
    (nothing_pending G s (wire x).first (wire x).far (mode G past) (is_spoilt G past)
    (pending G past) (filler t) g l.matches.place (l.laws.gathered (filler t) xs l.line) tt)
    l.matches.start_run tt (l.spelled refl)
    (λ q. l.laws.trained xs g (l.line ∙ ap (λ (z : Item). z ∷ xs) q))
good_ran G s r x clear xs past f l g e =
    good-ran G s (wire x) past clear f
    (nothing_pending G s (wire x).first (wire x).far (mode G past) (is_spoilt G past)
    (pending G past) clear g l.matches.place (l.laws.gathered clear xs l.line) tt)
    l.matches.start_run tt (l.spelled refl)
    (λ q. l.laws.trained xs g (l.line ∙ ap (λ (z : Item). z ∷ xs) q))

-- what lands in Good leaves nothing spoilt
good_far : (w : Direction) (y : Item) → (happens w (event_in_good w y)).far ≡ far.spoilt → ⊥
good_far w (filler fill.null) z = cc z
good_far w (filler fill.train) z = cc z
good_far w (filler fill.pret) z = cc z
good_far w (filler fill.start) z = cc z
good_far w clear z = cc z
good_far w (part n k (suc more)) z = cc z
good_far w (part n k zero) z = by_next (n == w.accepted + 1) z
  where
    by_next : (b : Bool) → (happens w (if b then accepts else repeats)).far ≡ far.spoilt → ⊥
    by_next true z = cc z
    by_next false z = cc z

good_training : (r : Reached) → IsGood r → r ≡ far.training → ⊥
good_training r g e = subst IsGood e g

pub good_case : (G : Grammar) (s : Sent G) (rr : ℕ) (x : Side) (y : Item) (xs : List Item)
    (past : Landings G) (f : G.Flit) (r : Reached) → Lands G s rr (wire x) past y xs false f →
    (wire x).far ≡ r → IsGood r →
    May rr (wire x) (event_in G past f good false) →
    OutcomeFacts (wire x) (in_mode G good past f) (event_in G past f good false)
    (counted_in G good past f) →
    (is_some (counted_in G good past f) ≡ true →
    MayCount (wire x) (event_in G past f good false)) → CleanIn G x y past f r good false
good_case G s rr x y xs past f r l at g may facts counts =
    let w = wire x in
    let look = reading_of (G.alone f) in
    let good_here : IsGood w.far = subst IsGood (sym at) g in
    let front_is : front x ≡ y = ap (front_or w.before) l.line in
    let event : event_in G past f good false ≡ event_in_good w y =
    good-event G w y xs look (in_good G past (pending G past) f) rr l.line good_here
    (clean-reads G s w.first y f (l.spelled refl)) may in
    record {
      event = event ∙ sym (good_event x look y r g);
      counted =
          good_counted x (is_some (counted_in G good past f)) (event_in G past f good false)
          good_here facts.proper facts.counted counts
          ∙ sym (same_counted x r g (event_in G past f good false));
      ran_is =
          good_ran G s rr x y xs past f l good_here event ∙ ap (ran_good x) (sym front_is)
          ∙ sym (same_ran x r look g);
      steady = λ e. absurd (good_training r g e);
      lacks = λ z. absurd (good_far w y (ap (λ (e : Event). (happens w e).far) (sym event) ∙ z));
    }

-- The landing of a flit that isn't changed is the one that hmc_link_state's rounds make, over any
-- grammar.
use Rattle.std.proofs.Common.{◌≡◌, ◌∙◌, ◌+◌, ◌-◌, ◌≤◌, ℕ, suc, Bool, true, false, List, [], ◌∷◌, ◌++◌, length, refl, sym, ap, subst, arith}
use Rattle.std.specs.Prelude.{◌&&◌, not, nat_le, nat_lt, if◌then◌else◌, is_some}
use Rattle.std.proofs.lemmas.Grind.{common_steps}
use Rattle.hmc_numbers.specs.Direction.{Item, Reached, Reached as far}
use Rattle.hmc_numbers.specs.Events.{Event, happens}
use Rattle.hmc_numbers.specs.Events.Event.{spoils, breaks}
use Rattle.hmc_numbers.specs.May.{May, IsGood}
use Rattle.hmc_numbers.specs.Turns.{MayCount}
use Rattle.hmc_wire.proofs.Grammar.{Read, Read as reads, Grammar}
use Rattle.hmc_wire.proofs.GrammarLandings.{Mode, Outcome, Landings, Landing as lands, mode, pending, is_spoilt, trained_count, is_read, in_mode, in_good, of_read, checks, checks_good}
use Rattle.hmc_wire.proofs.GrammarLandings as inner
use Rattle.hmc_wire.proofs.GrammarLandings.Mode.{training, abort, good}
use Rattle.hmc_wire.proofs.GrammarLandings.Outcome.{quiet, trained, gathered, accepted, poisoned, repeated, aborted, disordered, ran}
use Rattle.hmc_wire.proofs.GrammarCounted.{counted_in, counted}
use Rattle.hmc_wire.proofs.Lands.{Lands}
use Rattle.hmc_wire.proofs.LandLanded.{lands as landed_done}
use Rattle.hmc_wire.proofs.Matches.{IsAt, reading_of, event_of}
use Rattle.hmc_wire.proofs.Spelled.{Sent}
use Rattle.hmc_link_state.specs.Round.{is_steady, is_counted_at}
use Rattle.hmc_link_state.specs.State.{Side, wire}
use Rattle.hmc_steps.proofs.Outcomes.{OutcomeFacts, outcome_facts}
use Rattle.hmc_steps.proofs.CleanLands.{is_ran}
use Rattle.hmc_bound.proofs.CleanModes.{event_in, CleanIn, never, training_case, aborting_case, good_case}

-- ---- in Good, spoilt

spoilt_pending : (G : Grammar) (past : Landings G) → is_spoilt G past ≡ true → pending G past ≡ [] →
    ⊥
spoilt_pending G [] e n = cc e
spoilt_pending G (lands.unlocked ∷ past) e n = cc e
spoilt_pending G (lands.landed c f gathered ∷ past) e n = some_end (pending G past) f n
  where
    some_end : {X : Type 0} (xs : List X) (x : X) → xs ++ x ∷ [] ≡ [] → ⊥
    some_end [] x n = cc n
    some_end (y ∷ xs) x n = cc n
spoilt_pending G (lands.landed c f quiet ∷ past) e n = cc e
spoilt_pending G (lands.landed c f trained ∷ past) e n = cc e
spoilt_pending G (lands.landed c f accepted ∷ past) e n = cc e
spoilt_pending G (lands.landed c f poisoned ∷ past) e n = cc e
spoilt_pending G (lands.landed c f repeated ∷ past) e n = cc e
spoilt_pending G (lands.landed c f (aborted b) ∷ past) e n = cc e
spoilt_pending G (lands.landed c f disordered ∷ past) e n = cc e
spoilt_pending G (lands.landed c f (ran k) ∷ past) e n = cc e

-- the flits that pending ones lack
abbrev pub lacking_of : (G : Grammar) → List G.Flit → ℕ
lacking_of G [] = 0
lacking_of G (g ∷ gs) = G.lng g - length (g ∷ gs)

unread : (G : Grammar) (past : Landings G) (z : Read G.Packet G.Bad) → is_read z ≡ false →
    (b : G.Bad) × (of_read G past z ≡ aborted b)
unread G past (reads.bad b) e = (b, refl)
unread G past reads.null e = absurd (cc e)
unread G past (reads.irtry k r) e = absurd (cc e)
unread G past (reads.pret r) e = absurd (cc e)
unread G past (reads.packet p r) e = absurd (cc e)

-- gathered where more is lacking, else an error
abbrev GoesOn : (G : Grammar) → Landings G → List G.Flit → G.Flit → (more : Bool) → Type 0
GoesOn G past fs f true = in_good G past fs f ≡ gathered
GoesOn G past fs f false = (b : G.Bad) × (in_good G past fs f ≡ aborted b)

goes_on : (G : Grammar) (past : Landings G) (g : G.Flit) (gs : List G.Flit) (f : G.Flit)
    (more : Bool) → checks_good G (g ∷ gs) f ≡ false →
    nat_lt (length (g ∷ gs) + 1) (G.lng g) ≡ more → GoesOn G past (g ∷ gs) f more
goes_on G past g gs f true c e =
    ap (λ (b : Bool). if b then gathered else of_read G past (G.read (g ∷ gs ++ f ∷ []))) e
goes_on G past g gs f false c e =
    let z =
    unread G past (G.read (g ∷ gs ++ f ∷ []))
    (sym (ap (λ (b : Bool). not b && is_read (G.read (g ∷ gs ++ f ∷ []))) e) ∙ c) in (
      z.0,
      ap (λ (b : Bool). if b then gathered else of_read G past (G.read (g ∷ gs ++ f ∷ []))) e
          ∙ z.1,
    )

abbrev spoilt_event : (more : Bool) → Event
spoilt_event more = if more then spoils false else breaks false

spoilt_by : (G : Grammar) (x : Side) (y : Item) (past : Landings G) (f : G.Flit) (more : Bool) →
    GoesOn G past (pending G past) f more → nat_le x.missing 1 ≡ not more →
    (is_some (counted_in G good past f) ≡ true → MayCount (wire x) (event_in G past f good true)) →
    CleanIn G x y past f far.spoilt good true
spoilt_by G x y past f true on n counts =
    let look = reading_of (G.alone f) in
    let event : event_in G past f good true ≡ spoils false =
    ap (λ (o : Outcome G.Bad). event_of good true false look o) on in
    record {
      event = event ∙ ap (λ (b : Bool). if b then breaks false else spoils false) (sym n);
      counted =
          never (is_some (counted_in G good past f))
          (λ e. subst (MayCount (wire x)) event (counts e))
          ∙ ap (λ (e : Event). is_counted_at x far.spoilt e) (sym event);
      ran_is = ap (λ (o : Outcome G.Bad). is_ran o) on;
      steady = λ e. absurd (cc e);
      lacks = λ z. (refl, on);
    }
spoilt_by G x y past f false on n counts =
    let look = reading_of (G.alone f) in
    let event : event_in G past f good true ≡ breaks false =
    ap (λ (o : Outcome G.Bad). event_of good true false look o) on.1 in
    record {
      event = event ∙ ap (λ (b : Bool). if b then breaks false else spoils false) (sym n);
      counted =
          never (is_some (counted_in G good past f))
          (λ e. subst (MayCount (wire x)) event (counts e))
          ∙ ap (λ (e : Event). is_counted_at x far.spoilt e) (sym event);
      ran_is = ap (λ (o : Outcome G.Bad). is_ran o) on.1;
      steady = λ e. absurd (cc e);
      lacks =
          λ z. absurd
          (let clash : far.aborting ≡ far.spoilt = ap (λ (e : Event). (happens (wire x) e).far)
          (sym event) ∙ z in cc clash);
    }

more_lacks : (n m l : ℕ) (b : Bool) → nat_lt (l + 1) n ≡ b → m ≡ n - l → 1 ≤ m → nat_le m 1 ≡ not b
more_lacks n m l true e is some = le_false m (let lt = lt_then (l + 1) n e in omega (arith, lt, is))
  where
    lt_then : (a b : ℕ) → nat_lt a b ≡ true → suc a ≤ b
    lt_then a b e = grind (arith, common_steps)

    le_false : (m : ℕ) → 2 ≤ m → nat_le m 1 ≡ false
    le_false m h = grind (arith, common_steps)
more_lacks n m l false e is some = le_true m (let le = not_lt (l + 1) n e in omega (arith, le, is))
  where
    not_lt : (a b : ℕ) → nat_lt a b ≡ false → b ≤ a
    not_lt a b e = grind (arith, common_steps)

    le_true : (m : ℕ) → m ≤ 1 → nat_le m 1 ≡ true
    le_true m h = grind (arith, common_steps)

spoilt_case : (G : Grammar) (x : Side) (y : Item) (past : Landings G) (f : G.Flit)
    (fs : List G.Flit) → pending G past ≡ fs → (fs ≡ [] → ⊥) → checks_good G fs f ≡ false →
    x.missing ≡ lacking_of G fs → 1 ≤ x.missing →
    (is_some (counted_in G good past f) ≡ true → MayCount (wire x) (event_in G past f good true)) →
    CleanIn G x y past f far.spoilt good true
spoilt_case G x y past f [] is some c m one counts = absurd (some refl)
spoilt_case G x y past f (g ∷ gs) is some c m one counts =
    let more = nat_lt (length (g ∷ gs) + 1) (G.lng g) in
    spoilt_by G x y past f more
    (subst (λ (fs : List G.Flit). GoesOn G past fs f more) (sym is)
    (goes_on G past g gs f more c refl))
    (more_lacks (G.lng g) x.missing (length (g ∷ gs)) more refl m one) counts

-- ---- all

-- what a side knows of what is landed: the run in Train, and what is lacking where it is spoilt
pub record Knows (G : Grammar) (x : Side) (y : Item) (past : Landings G) (f : G.Flit) : Type 0 where
  pub steady : (wire x).far ≡ far.training → x.steady ≡ trained_count G past
  pub reads_steady : (wire x).far ≡ far.training →
      inner.is_steady G f ≡ is_steady y (reading_of (G.alone f))
  pub missing : (wire x).far ≡ far.spoilt → x.missing ≡ lacking_of G (pending G past)
  pub some : (wire x).far ≡ far.spoilt → 1 ≤ x.missing

good_at : (G : Grammar) (s : Sent G) (rr : ℕ) (x : Side) (y : Item) (xs : List Item)
    (past : Landings G) (f : G.Flit) (r : Reached) (m : Mode) (b : Bool) → m ≡ good → b ≡ false →
    Lands G s rr (wire x) past y xs false f → (wire x).far ≡ r → IsGood r →
    May rr (wire x) (event_in G past f m b) →
    OutcomeFacts (wire x) (in_mode G m past f) (event_in G past f m b) (counted_in G m past f) →
    (is_some (counted_in G m past f) ≡ true → MayCount (wire x) (event_in G past f m b)) →
    CleanIn G x y past f r m b
good_at G s rr x y xs past f r good false e h l at g may facts counts =
    good_case G s rr x y xs past f r l at g may facts counts
good_at G s rr x y xs past f r good true e h l at g may facts counts = absurd (cc h)
good_at G s rr x y xs past f r training b e h l at g may facts counts = absurd (cc e)
good_at G s rr x y xs past f r abort b e h l at g may facts counts = absurd (cc e)

spoilt_at : (G : Grammar) (x : Side) (y : Item) (past : Landings G) (f : G.Flit) (m : Mode)
    (b : Bool) → m ≡ good → b ≡ true → (pending G past ≡ [] → ⊥) → checks G m past f ≡ false →
    x.missing ≡ lacking_of G (pending G past) → 1 ≤ x.missing →
    (is_some (counted_in G m past f) ≡ true → MayCount (wire x) (event_in G past f m b)) →
    CleanIn G x y past f far.spoilt m b
spoilt_at G x y past f good true e h some c n one counts =
    spoilt_case G x y past f (pending G past) refl some c n one counts
spoilt_at G x y past f good false e h some c n one counts = absurd (cc h)
spoilt_at G x y past f training b e h some c n one counts = absurd (cc e)
spoilt_at G x y past f abort b e h some c n one counts = absurd (cc e)

pub clean : (G : Grammar) (s : Sent G) (rr : ℕ) (x : Side) (y : Item) (xs : List Item)
    (past : Landings G) (f : G.Flit) (r : Reached) → Lands G s rr (wire x) past y xs false f →
    Knows G x y past f → (wire x).far ≡ r →
    IsAt G s (wire x).first r (mode G past) (is_spoilt G past) (pending G past) →
    (is_some (counted G past f) ≡ true →
    MayCount (wire x) (event_in G past f (mode G past) (is_spoilt G past))) →
    CleanIn G x y past f r (mode G past) (is_spoilt G past)
clean G s rr x y xs past f far.training l k at p counts =
    subst (λ (m : Mode). CleanIn G x y past f far.training m (is_spoilt G past)) (sym p.0)
    (training_case G x y past f (is_spoilt G past) at (k.steady at) (k.reads_steady at))
clean G s rr x y xs past f far.aborting l k at p counts =
    subst (λ (m : Mode). CleanIn G x y past f far.aborting m (is_spoilt G past)) (sym p.0)
    (aborting_case G x y past f (is_spoilt G past) at l.matches.clear_run l.matches.start_run)
clean G s rr x y xs past f far.between l k at p counts =
    let done = landed_done G s rr (wire x) past y xs false f l in
    good_at G s rr x y xs past f far.between (mode G past) (is_spoilt G past) p.0 p.1 l at tt
    done.may (outcome_facts G s rr (wire x) past y xs false f l done.may) counts
clean G s rr x y xs past f (far.inside n j) l k at p counts =
    let done = landed_done G s rr (wire x) past y xs false f l in
    good_at G s rr x y xs past f (far.inside n j) (mode G past) (is_spoilt G past) p.0 p.1 l at tt
    done.may (outcome_facts G s rr (wire x) past y xs false f l done.may) counts
clean G s rr x y xs past f far.spoilt l k at p counts =
    spoilt_at G x y past f (mode G past) (is_spoilt G past) p.0 p.1 (spoilt_pending G past p.1)
    (l.sound p.1) (k.missing at) (k.some at) counts

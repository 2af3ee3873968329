-- The steps that a list is, with the numbers of hmc_link_state's rounds, may come too, and lead to
-- the same except what nothing reads.
use Rattle.std.proofs.Common.{◌≡◌, ◌∙◌, ◌≤◌, ◌-◌, ℕ, Bool, true, false, List, [], ◌∷◌, length, refl, sym, subst}
use Rattle.std.specs.Prelude.{nat_lt, if◌then◌else◌}
use Rattle.hmc_codes.specs.Link.{LinkFields}
use Rattle.hmc_send.specs.LinkEntries.{LinkEntry, LinkEntry as entry}
use Rattle.hmc_numbers.specs.Direction.{Direction, Reached, Reached as far}
use Rattle.hmc_numbers.specs.Events.{Reading, Event, happens}
use Rattle.hmc_numbers.specs.Pair.{Half, Move as moves, own_after}
use Rattle.hmc_numbers.specs.Tokens.{due_tokens}
use Rattle.hmc_link_state.specs.Choice.{Choice, Choice as choices, choice}
use Rattle.hmc_link_state.specs.Round.{sight, sent, sent_by, steady_after}
use Rattle.hmc_link_state.specs.Sees.{event_of}
use Rattle.hmc_link_state.specs.State.{Setup, Side, wire}
use Rattle.hmc_link_state.specs.Steps.{Step, Doing, Link, own_step, other_step, MayStep, MayAll, link_after}
use Rattle.hmc_link_state.proofs.LandedFacts.{took_far}
use Rattle.hmc_steps.specs.Doings.{doings_of}
use Rattle.hmc_steps.specs.SideIn.{setup_of}
use Rattle.hmc_bound.specs.Regular.{steady_for, missing_for, regular_step, regular, look_of, regulars}

abbrev pub with_counts : Side → (steady missing : ℕ) → Side
with_counts x st ms = record x { steady = st; missing = ms }

-- y is x except the numbers that nothing reads
pub record Near (x y : Side) : Type 0 where
  pub same : y ≡ with_counts x y.steady y.missing
  pub steady : (wire x).far ≡ far.training → y.steady ≡ x.steady
  pub missing : (wire x).far ≡ far.spoilt → y.missing ≡ x.missing

near_with : (x : Side) (st ms : ℕ) → ((wire x).far ≡ far.training → st ≡ x.steady) →
    ((wire x).far ≡ far.spoilt → ms ≡ x.missing) → Near x (with_counts x st ms)
near_with x st ms s m = record { same = refl; steady = s; missing = m }

near_if : (b : Bool) (p q p' q' : Side) → Near p p' → Near q q' →
    Near (if b then p else q) (if b then p' else q')
near_if true p q p' q' h k = h
near_if false p q p' q' h k = k

steady-kept : (r : Reached) (k n : ℕ) → r ≡ far.training → steady_for r k n ≡ k
steady-kept far.training k n e = refl
steady-kept far.aborting k n e = absurd (cc e)
steady-kept far.between k n e = absurd (cc e)
steady-kept (far.inside i j) k n e = absurd (cc e)
steady-kept far.spoilt k n e = absurd (cc e)

missing-kept : (r : Reached) (k n : ℕ) → r ≡ far.spoilt → missing_for r k n ≡ k
missing-kept far.training k n e = absurd (cc e)
missing-kept far.aborting k n e = absurd (cc e)
missing-kept far.between k n e = absurd (cc e)
missing-kept (far.inside i j) k n e = absurd (cc e)
missing-kept far.spoilt k n e = refl

-- ---- a send

send_far : (h : Half) (n due : ℕ) (x : Choice) →
    (own_after h n (moves.does (event_of due x))).direction.far ≡ h.direction.far
send_far h n due choices.train = refl
send_far h n due choices.starved = refl
send_far h n due choices.next = refl
send_far h n due choices.clear = refl
send_far h n due choices.start = refl
send_far h n due choices.again = refl
send_far h n due (choices.new m) = refl
send_far h n due choices.tret = refl
send_far h n due choices.pret = refl
send_far h n due choices.null = refl

pub sent-near : (c : Setup) (x y : Side) (a b k l : ℕ) →
    ((wire x).far ≡ far.training → a ≡ x.steady) → ((wire x).far ≡ far.spoilt → b ≡ x.missing) →
    Near (sent c x y) (sent c (with_counts x a b) (with_counts y k l))
sent-near c x y a b k l s m =
    let ch = choice (sight c x y) in
    let same = send_far x.half (wire y).accepted (due_tokens c.tokens y.half x.half) ch in
    near_if (nat_lt (length (wire x).line) c.line) (sent_by c x y ch) x
    (sent_by c (with_counts x a b) (with_counts y k l) ch) (with_counts x a b)
    (near_with (sent_by c x y ch) a b (λ e. s (sym same ∙ e)) (λ e. m (sym same ∙ e)))
    (near_with x a b s m)

-- ---- an unlock, and what the other direction's landing changes

unlock_far : (w : Direction) → (happens w Event.unlocks).far ≡ far.spoilt → ⊥
unlock_far w e = by_far w.far e
  where
    by_far : (r : Reached) → (happens (record w { far = r }) Event.unlocks).far ≡ far.spoilt → ⊥
    by_far far.training e = cc e
    by_far far.aborting e = cc e
    by_far far.between e = cc e
    by_far (far.inside i j) e = cc e
    by_far far.spoilt e = cc e

-- ---- any step

pub record StepNear (c : Setup) (x y x' y' : Side) (look : Reading) (step : Step) : Type 0 where
  pub may : MayStep c x' y' (regular_step x' look step)
  pub own : Near (own_step c x y step) (own_step c x' y' (regular_step x' look step))
  pub other_is : Near (other_step x y step) (other_step x' y' (regular_step x' look step))

by_step : (c : Setup) (x y : Side) (a b k l : ℕ) (look : Reading) (step : Step) →
    ((wire x).far ≡ far.training → a ≡ x.steady) → ((wire x).far ≡ far.spoilt → b ≡ x.missing) →
    ((wire y).far ≡ far.training → k ≡ y.steady) → ((wire y).far ≡ far.spoilt → l ≡ y.missing) →
    MayStep c x y step → StepNear c x y (with_counts x a b) (with_counts y k l) look step
by_step c x y a b k l look Step.sends s m t n may =
    record { may = tt; own = sent-near c x y a b k l s m; other_is = near_with y k l t n }
by_step c x y a b k l look (Step.lands e counted ran st ms bf) s m t n may =
    let after = (happens (wire x) e).far in
    let here = may.0 in
    let same = took_far x.half y.half counted e in
    record {
      may = (
        record {
          landing = here.landing;
          may = here.may;
          proper = here.proper;
          counted = here.counted;
          ended = here.ended;
          few = here.few;
          lacks =
              λ z. subst (λ (v : ℕ). (1 ≤ v) × (v ≤ 16)) (sym (missing-kept after ms (b - 1) z))
              (here.lacks z);
          fills = here.fills;
        },
        λ z. subst (λ (v : ℕ). v ≤ 7)
            (sym (steady-kept after st (steady_after (with_counts x a b) look) z)) (may.1 z),
      );
      own =
          record {
            same = refl;
            steady =
                steady-kept after st (steady_after (with_counts x a b) look);
            missing =
                missing-kept after ms (b - 1);
          };
      other_is =
          record { same = refl; steady = λ z. t (sym same ∙ z); missing = λ z. n (sym same ∙ z) };
    }
by_step c x y a b k l look Step.unlocks s m t n may =
    record {
      may = tt;
      own =
          record { same = refl; steady = λ z. refl; missing = λ z. absurd (unlock_far (wire x) z) };
      other_is = near_with y k l t n;
    }
by_step c x y a b k l look (Step.leaves i bf) s m t n may =
    record {
      may = may;
      own = record { same = refl; steady = s; missing = m };
      other_is = near_with y k l t n;
    }
by_step c x y a b k l look (Step.queues i) s m t n may =
    record {
      may = may;
      own = record { same = refl; steady = s; missing = m };
      other_is = near_with y k l t n;
    }

pub step-near : (c : Setup) (x y x' y' : Side) (look : Reading) (step : Step) → Near x x' →
    Near y y' → MayStep c x y step → StepNear c x y x' y' look step
step-near c x y x' y' look step n m may =
    subst (λ (u : Side). StepNear c x y u y' look step) (sym n.same)
    (subst (λ (v : Side). StepNear c x y (with_counts x x'.steady x'.missing) v look step)
    (sym m.same)
    (by_step c x y x'.steady x'.missing y'.steady y'.missing look step n.steady n.missing m.steady
    m.missing may))

-- ---- lists

pub record NearLink (l k : Link) : Type 0 where
  pub forth : Near l.forth k.forth
  pub back : Near l.back k.back

pub record AreNear (c : Setup) (olds news : List Doing) : Type 0 where
  pub may : MayAll c news
  pub near : NearLink (link_after c olds) (link_after c news)

one_more : (c : Setup) (doing : Doing) (olds news : List Doing) (look : Reading) →
    MayAll c (doing ∷ olds) → AreNear c olds news →
    AreNear c (doing ∷ olds) (regular (link_after c news) look doing ∷ news)
one_more c (Doing.forth step) olds news look may is =
    let l = link_after c olds in
    let k = link_after c news in
    let done =
    step-near c l.forth l.back k.forth k.back look step is.near.forth is.near.back may.0 in
    record { may = (done.may, is.may); near = record { forth = done.own; back = done.other_is } }
one_more c (Doing.back step) olds news look may is =
    let l = link_after c olds in
    let k = link_after c news in
    let done =
    step-near c l.back l.forth k.back k.forth look step is.near.back is.near.forth may.0 in
    record { may = (done.may, is.may); near = record { forth = done.other_is; back = done.own } }

pub regulars-near : (link : LinkFields) (past : List LinkEntry) →
    MayAll (setup_of link) (doings_of link past) →
    AreNear (setup_of link) (doings_of link past) (regulars link past)
unfolding doings_of regulars
regulars-near link [] may =
    record {
      may = tt;
      near =
          record {
            forth = near_with _ _ _ (λ z. refl) (λ z. refl);
            back = near_with _ _ _ (λ z. refl) (λ z. refl);
          };
    }
regulars-near link (entry.handed d packet ∷ past) may =
    one_more (setup_of link) _ (doings_of link past) (regulars link past)
    (look_of link (entry.handed d packet)) may (regulars-near link past may.1)
regulars-near link (entry.taken d ∷ past) may =
    one_more (setup_of link) _ (doings_of link past) (regulars link past)
    (look_of link (entry.taken d)) may (regulars-near link past may.1)
regulars-near link (entry.sent d feed what flit ∷ past) may =
    one_more (setup_of link) _ (doings_of link past) (regulars link past)
    (look_of link (entry.sent d feed what flit)) may (regulars-near link past may.1)
regulars-near link (entry.landed d mask flit o ∷ past) may =
    one_more (setup_of link) _ (doings_of link past) (regulars link past)
    (look_of link (entry.landed d mask flit o)) may (regulars-near link past may.1)
regulars-near link (entry.unlocked d ∷ past) may =
    one_more (setup_of link) _ (doings_of link past) (regulars link past)
    (look_of link (entry.unlocked d)) may (regulars-near link past may.1)
regulars-near link (entry.through d head flits ∷ past) may = regulars-near link past may

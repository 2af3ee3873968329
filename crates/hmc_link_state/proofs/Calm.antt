-- A settled link stays settled.
use Rattle.std.proofs.Common.{◌≡◌, ℕ, zero, suc, ◌+◌, ◌%◌, ◌≤◌, ◌==◌, nat_lt, nat_le, Bool, true, false, not, ◌&&◌, if◌then◌else◌, List, [], ◌∷◌, ◌++◌, length, refl, sym, ◌∙◌, ap, subst, arith}
use Rattle.hmc_numbers.specs.Direction.{Filler as fill, Item, Reached, Direction, rest, front_or}
use Rattle.hmc_numbers.specs.Direction.Item.{filler, clear, part}
use Rattle.hmc_numbers.specs.Direction.Reached.{training, aborting, between, inside, spoilt}
use Rattle.hmc_numbers.specs.Events.{Reading, Event, happens}
use Rattle.hmc_numbers.specs.Events.Event.{accepts, repeats}
use Rattle.hmc_numbers.specs.Pair.{Half, own_after, other_after}
use Rattle.hmc_numbers.specs.Pair.Move.{does, counts}
use Rattle.hmc_link_state.specs.Choice.{Mode, Sight, Choice, choice, begun_choice, free_choice, packet_choice, new_choice, idle_choice, is_training, is_abort, fits, flits_or}
use Rattle.hmc_link_state.specs.Choice.Choice.{train, starved, next, clear as clears, start, again, new, tret, pret, null}
use Rattle.hmc_link_state.specs.Sees.{mode_of}
use Rattle.hmc_link_state.specs.State.{Setup, Side, wire, IsSettledSide, IsNoStart, HaveNoStart}
use Rattle.hmc_link_state.specs.Round.{sight, sent, sent_by, event_in_good, event_at_far, event_here, is_counted_at, is_start_item, is_ran_start_at, landed_own, landed_other, front}
use Rattle.hmc_numbers.specs.May.{IsGood}

-- what a settled sender sends
abbrev IsCalm : Choice → Type 0
IsCalm train = ⊥
IsCalm starved = ⊥
IsCalm clears = ⊥
IsCalm start = ⊥
IsCalm c = Unit {0}

if_calm : (b : Bool) (c d : Choice) → IsCalm c → IsCalm d → IsCalm (if b then c else d)
if_calm true c d h k = h
if_calm false c d h k = k

else_calm : (b : Bool) (c d : Choice) → b ≡ false → IsCalm d → IsCalm (if b then c else d)
else_calm b c d q k = subst (λ x. IsCalm (if x then c else d)) (sym q) k

idle_calm : (s : Sight) → IsCalm (idle_choice s)
idle_calm s = if_calm (not s.is_acknowledged) pret null tt tt

new_calm : (s : Sight) → IsCalm (new_choice s)
new_calm s =
    if_calm (s.is_open && fits s.front s.held s.room) (new (flits_or s.front))
    (if s.is_open && (nat_lt 0 s.due && nat_le 1 s.room) then tret else idle_choice s) tt
    (if_calm (s.is_open && (nat_lt 0 s.due && nat_le 1 s.room)) tret (idle_choice s) tt
    (idle_calm s))

packet_calm : (s : Sight) → IsCalm (packet_choice s)
packet_calm s = if_calm (nat_lt s.position s.begun) again (new_choice s) tt (new_calm s)

pub not_zero : (n : ℕ) → n ≡ 0 → not (n == 0) ≡ false
not_zero n h = ap (λ k. not (k == 0)) h

pub whole_mode : (far : Reached) → IsGood far → mode_of far ≡ Mode.good
whole_mode training h = absurd h
whole_mode aborting h = absurd h
whole_mode between h = refl
whole_mode (inside n k) h = refl
whole_mode spoilt h = absurd h

calm : (c : Setup) (own other : Side) → IsSettledSide own → IsGood (wire other).far →
    IsCalm (choice (sight c own other))
calm c own other h g =
    let s : Sight = sight c own other in
    let m : mode_of (wire other).far ≡ Mode.good = whole_mode (wire other).far g in
    else_calm (is_training s.mode) train (begun_choice s) (ap is_training m)
    (if_calm (not ((wire own).left == 0)) next (if not ((wire own).clears % 32 == 0) then clears
    else free_choice s) tt
    (else_calm (not ((wire own).clears % 32 == 0)) clears (free_choice s)
    (not_zero ((wire own).clears % 32) h.clears)
    (else_calm (not (own.starts % 32 == 0)) start (if s.go_back then clears
    else (if is_abort s.mode && s.is_long_ago then start else packet_choice s))
    (not_zero (own.starts % 32) h.starts)
    (else_calm own.go_back clears (if is_abort s.mode && s.is_long_ago then start
    else packet_choice s) h.back
    (else_calm (is_abort s.mode && s.is_long_ago) start (packet_choice s)
    (ap (λ x. is_abort x && s.is_long_ago) m) (packet_calm s))))))

-- a send

pub more_quiet : (xs : List Item) (x : Item) → HaveNoStart xs → IsNoStart x →
    HaveNoStart (xs ++ x ∷ [])
more_quiet [] x h k = (k, tt)
more_quiet (y ∷ ys) x h k = (h.0, more_quiet ys x h.1 k)

calm_sent : (c : Setup) (own other : Side) (x : Choice) → IsCalm x → IsSettledSide own →
    IsSettledSide (sent_by c own other x)
calm_sent c own other train k h = absurd k
calm_sent c own other starved k h = absurd k
calm_sent c own other clears k h = absurd k
calm_sent c own other start k h = absurd k
calm_sent c own other next k h =
    record {
      good = h.good;
      opened = h.opened;
      clears = h.clears;
      starts = h.starts;
      back = h.back;
      line = more_quiet (wire own).line _ h.line tt;
    }
calm_sent c own other again k h =
    record {
      good = h.good;
      opened = h.opened;
      clears = h.clears;
      starts = h.starts;
      back = h.back;
      line = more_quiet (wire own).line _ h.line tt;
    }
calm_sent c own other (new n) k h =
    record {
      good = h.good;
      opened = h.opened;
      clears = h.clears;
      starts = h.starts;
      back = h.back;
      line = more_quiet (wire own).line _ h.line tt;
    }
calm_sent c own other tret k h =
    record {
      good = h.good;
      opened = h.opened;
      clears = h.clears;
      starts = h.starts;
      back = h.back;
      line = more_quiet (wire own).line _ h.line tt;
    }
calm_sent c own other pret k h =
    record {
      good = h.good;
      opened = h.opened;
      clears = h.clears;
      starts = h.starts;
      back = h.back;
      line = more_quiet (wire own).line _ h.line tt;
    }
calm_sent c own other null k h =
    record {
      good = h.good;
      opened = h.opened;
      clears = h.clears;
      starts = h.starts;
      back = h.back;
      line = more_quiet (wire own).line _ h.line tt;
    }

if_settled : (b : Bool) (x y : Side) → IsSettledSide x → IsSettledSide y →
    IsSettledSide (if b then x else y)
if_settled true x y h k = h
if_settled false x y h k = k

pub sent_settled : (c : Setup) (own other : Side) → IsSettledSide own → IsGood (wire other).far →
    IsSettledSide (sent c own other)
sent_settled c own other h g =
    if_settled (nat_lt (length (wire own).line) c.line)
    (sent_by c own other (choice (sight c own other))) own
    (calm_sent c own other (choice (sight c own other)) (calm c own other h g) h) h

-- a landing

pub good_far : (w : Direction) (i : Item) → IsGood (happens w (event_in_good w i)).far
good_far w (filler fill.null) = tt
good_far w (filler fill.train) = tt
good_far w (filler fill.pret) = tt
good_far w (filler fill.start) = tt
good_far w clear = tt
good_far w (part n k (suc more)) = tt
good_far w (part n k zero) = by_next (n == w.accepted + 1)
  where
    by_next : (b : Bool) → IsGood (happens w (if b then accepts else repeats)).far
    by_next true = tt
    by_next false = tt

good_clears : (w : Direction) (i : Item) → (happens w (event_in_good w i)).clears ≡ w.clears
good_clears w (filler fill.null) = refl
good_clears w (filler fill.train) = refl
good_clears w (filler fill.pret) = refl
good_clears w (filler fill.start) = refl
good_clears w clear = refl
good_clears w (part n k (suc more)) = refl
good_clears w (part n k zero) = by_next (n == w.accepted + 1)
  where
    by_next : (b : Bool) → (happens w (if b then accepts else repeats)).clears ≡ w.clears
    by_next true = refl
    by_next false = refl

good_line : (w : Direction) (i : Item) → (happens w (event_in_good w i)).line ≡ rest w.line
good_line w (filler fill.null) = refl
good_line w (filler fill.train) = refl
good_line w (filler fill.pret) = refl
good_line w (filler fill.start) = refl
good_line w clear = refl
good_line w (part n k (suc more)) = refl
good_line w (part n k zero) = by_next (n == w.accepted + 1)
  where
    by_next : (b : Bool) → (happens w (if b then accepts else repeats)).line ≡ rest w.line
    by_next true = refl
    by_next false = refl

pub good_event : (x : Side) (look : Reading) (i : Item) (far : Reached) → IsGood far →
    event_at_far x look i far ≡ event_in_good (wire x) i
good_event x look i training h = absurd h
good_event x look i aborting h = absurd h
good_event x look i spoilt h = absurd h
good_event x look i between h = refl
good_event x look i (inside n k) h = refl

pub own_wire : (h : Half) (n : ℕ) (b : Bool) (e : Event) →
    (own_after h n (if b then counts e else does e)).direction ≡ happens h.direction e
own_wire h n true e = refl
own_wire h n false e = refl

pub landed_wire : (x : Side) (costs : Bool) (look : Reading) → IsGood (wire x).far →
    wire (landed_own x costs look) ≡ happens (wire x) (event_in_good (wire x) (front x))
landed_wire x costs look h =
    own_wire x.half 0 (is_counted_at x (wire x).far (event_here x look)) (event_here x look)
    ∙ ap (happens (wire x)) (good_event x look (front x) (wire x).far h)

pub rest_quiet : (xs : List Item) → HaveNoStart xs → HaveNoStart (rest xs)
rest_quiet [] h = tt
rest_quiet (x ∷ xs) h = h.1

pub landed_own_settled : (x : Side) (costs : Bool) (look : Reading) → IsSettledSide x →
    IsSettledSide (landed_own x costs look)
landed_own_settled x costs look h =
    let q : wire (landed_own x costs look) ≡ happens (wire x)
    (event_in_good (wire x) (front x)) = landed_wire x costs look h.good in
    record {
      good = subst (λ w. IsGood w.far) (sym q) (good_far (wire x) (front x));
      opened = h.opened;
      clears =
          ap (λ w. w.clears % 32) q ∙ ap (λ n. n % 32) (good_clears (wire x) (front x)) ∙ h.clears;
      starts = h.starts;
      back = h.back;
      line =
          subst HaveNoStart (sym (ap (λ w. w.line) q ∙ good_line (wire x) (front x)))
          (rest_quiet (wire x).line h.line);
    }

pub no_start : (i : Item) → IsNoStart i → is_start_item i ≡ false
no_start (filler fill.null) h = refl
no_start (filler fill.train) h = refl
no_start (filler fill.pret) h = refl
no_start (filler fill.start) h = absurd h
no_start clear h = refl
no_start (part n k more) h = refl

pub front_quiet : (i : Item) (xs : List Item) → HaveNoStart xs → 1 ≤ length xs →
    IsNoStart (front_or i xs)
front_quiet i [] h k = absurd (omega arith)
front_quiet i (x ∷ xs) h k = h.0

pub never_ran : (x : Side) (look : Reading) (far : Reached) → IsGood far →
    is_start_item (front x) ≡ false → is_ran_start_at x far look ≡ false
never_ran x look training h q = absurd h
never_ran x look aborting h q = absurd h
never_ran x look spoilt h q = absurd h
never_ran x look between h q = ap (λ b. b && ((wire x).start_run == 23)) q
never_ran x look (inside n k) h q = ap (λ b. b && ((wire x).start_run == 23)) q

pub other_far : (h o : Half) (b : Bool) (e : Event) → IsGood o.direction.far →
    IsGood (other_after h o (if b then counts e else does e)).direction.far
other_far h o true e w = w
other_far h o false e w = w

other_clears : (h o : Half) (b : Bool) (e : Event) →
    (other_after h o (if b then counts e else does e)).direction.clears ≡ o.direction.clears
other_clears h o true e = refl
other_clears h o false e = refl

pub other_quiet : (h o : Half) (b : Bool) (e : Event) → HaveNoStart o.direction.line →
    HaveNoStart (other_after h o (if b then counts e else does e)).direction.line
other_quiet h o true e w = w
other_quiet h o false e w = w

pub landed_other_settled : (own other : Side) (look : Reading) → IsSettledSide own →
    1 ≤ length (wire own).line → IsSettledSide other → IsSettledSide (landed_other own other look)
landed_other_settled own other look h k o =
    let q : is_ran_start_at own (wire own).far look ≡ false =
    never_ran own look (wire own).far h.good
    (no_start (front own) (front_quiet (wire own).before (wire own).line h.line k)) in
    let b : Bool = is_counted_at own (wire own).far (event_here own look) in
    let e : Event = event_here own look in
    record {
      good = other_far own.half other.half b e o.good;
      opened = ap (λ x. if x then true else other.is_open) q ∙ o.opened;
      clears = ap (λ n. n % 32) (other_clears own.half other.half b e) ∙ o.clears;
      starts = o.starts;
      back = ap (λ x. if x then true else other.go_back) q ∙ o.back;
      line = other_quiet own.half other.half b e o.line;
    }

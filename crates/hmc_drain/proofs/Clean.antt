-- A gathering with a changed flit ends within 16 rounds, and none begins.
use Rattle.std.proofs.Common.{◌≡◌, ◌≢◌, ℕ, zero, suc, ◌+◌, ◌-◌, ◌≤◌, ◌==◌, nat_lt, nat_le, Bool, true, false, if◌then◌else◌, inl, inr, length, refl, sym, subst, arith}
use Rattle.std.proofs.lemmas.Grind.{common_steps}
use Rattle.hmc_codes.specs.declared.profile.Profile.{Profile}
use Rattle.hmc_numbers.specs.Direction.{Filler as fill, Item, Reached, Direction}
use Rattle.hmc_numbers.specs.Direction.Item.{filler, clear, part}
use Rattle.hmc_numbers.specs.Direction.Reached.{training, aborting, between, inside, spoilt}
use Rattle.hmc_numbers.specs.Events.{Reading, happens}
use Rattle.hmc_numbers.specs.Events.Reading.{plain, as_start, as_clear}
use Rattle.hmc_numbers.specs.Events.Event.{drops, opens, accepts, repeats, spoils, breaks}
use Rattle.hmc_numbers.specs.Pair.{other_after}
use Rattle.hmc_numbers.specs.Pair.Move.{does, counts}
use Rattle.hmc_link_state.specs.Choice.{Choice, choice}
use Rattle.hmc_link_state.specs.Choice.Choice.{train, starved, next, clear as clears, start, again, new, tret, pret, null}
use Rattle.hmc_link_state.specs.State.{Setup, Side, State, wire}
use Rattle.hmc_link_state.specs.Round.{sight, sent, sent_by, event_in_good, event_in_abort, event_at_far, event_here, is_counted_at, landed_own, landed_other, link_round, front, costs_next, CubeRound, IsRound, Rounds}
use Rattle.hmc_drain.specs.Stages.{Cleans}
use Rattle.hmc_link_state.proofs.Calm.{own_wire}

-- out of Train, and a changed gathering lacks at most m
abbrev Lacks : ℕ → Reached → ℕ → Type 0
Lacks m training n = ⊥
Lacks m spoilt n = (1 ≤ n) × (n ≤ m)
Lacks m far n = Unit {0}

abbrev IsShort : ℕ → Side → Type 0
IsShort m x = Lacks m (wire x).far x.missing

two_or_more : (n : ℕ) → nat_le n 1 ≡ false → 2 ≤ n
two_or_more n h = grind (arith, common_steps)

good_short : (w : Direction) (i : Item) (m n : ℕ) → Lacks m (happens w (event_in_good w i)).far n
good_short w (filler fill.null) m n = tt
good_short w (filler fill.train) m n = tt
good_short w (filler fill.pret) m n = tt
good_short w (filler fill.start) m n = tt
good_short w clear m n = tt
good_short w (part k j (suc more)) m n = tt
good_short w (part k j zero) m n = by_next (k == w.accepted + 1)
  where
    by_next : (b : Bool) → Lacks m (happens w (if b then accepts else repeats)).far n
    by_next true = tt
    by_next false = tt

lost_short : (w : Direction) (look : Reading) (m n : ℕ) → w.far ≡ aborting →
    Lacks m (happens w (event_in_abort w.clear_run look)).far n
lost_short w plain m n q = subst (λ f. Lacks m f n) (sym q) tt
lost_short w as_start m n q = subst (λ f. Lacks m f n) (sym q) tt
lost_short w as_clear m n q = by_run (w.clear_run == 23)
  where
    by_run : (b : Bool) → Lacks m (happens w (if b then opens else drops as_clear)).far n
    by_run true = tt
    by_run false = subst (λ f. Lacks m f n) (sym q) tt

spoilt_short : (w : Direction) (m n : ℕ) (b : Bool) → nat_le n 1 ≡ b → (1 ≤ n) × (n ≤ suc m) →
    Lacks m (happens w (if b then breaks false else spoils false)).far (n - 1)
spoilt_short w m n true q h = tt
spoilt_short w m n false q h =
    let t : 2 ≤ n = two_or_more n q in (omega (arith, t), omega (arith, h.1))

far_short : (x : Side) (look : Reading) (i : Item) (m : ℕ) (far : Reached) → (wire x).far ≡ far →
    Lacks (suc m) far x.missing →
    Lacks m (happens (wire x) (event_at_far x look i far)).far (x.missing - 1)
far_short x look i m training q h = absurd h
far_short x look i m aborting q h = lost_short (wire x) look m (x.missing - 1) q
far_short x look i m between q h = good_short (wire x) i m (x.missing - 1)
far_short x look i m (inside k j) q h = good_short (wire x) i m (x.missing - 1)
far_short x look i m spoilt q h = spoilt_short (wire x) m x.missing (nat_le x.missing 1) refl h

own_short : (x : Side) (costs : Bool) (look : Reading) (m : ℕ) → IsShort (suc m) x →
    IsShort m (landed_own x costs look)
own_short x costs look m h =
    subst (λ w. Lacks m w.far (x.missing - 1))
    (sym (own_wire x.half 0 (is_counted_at x (wire x).far (event_here x look))
    (event_here x look)))
    (far_short x look (front x) m (wire x).far refl h)

other_short : (own other : Side) (look : Reading) (m : ℕ) → IsShort m other →
    IsShort m (landed_other own other look)
other_short own other look m h = by_count (is_counted_at own (wire own).far (event_here own look))
  where
    by_count : (b : Bool) →
        Lacks m (other_after own.half other.half (if b then counts (event_here own look)
        else does (event_here own look))).direction.far other.missing
    by_count true = h
    by_count false = h

choice_short : (c : Setup) (own other : Side) (x : Choice) (m : ℕ) → IsShort m own →
    IsShort m (sent_by c own other x)
choice_short c own other train m h = h
choice_short c own other starved m h = h
choice_short c own other next m h = h
choice_short c own other clears m h = h
choice_short c own other start m h = h
choice_short c own other again m h = h
choice_short c own other (new n) m h = h
choice_short c own other tret m h = h
choice_short c own other pret m h = h
choice_short c own other null m h = h

sent_short : (c : Setup) (own other : Side) (m : ℕ) → IsShort m own → IsShort m (sent c own other)
sent_short c own other m h = by_full (nat_lt (length (wire own).line) c.line)
  where
    by_full : (b : Bool) →
        IsShort m (if b then sent_by c own other (choice (sight c own other)) else own)
    by_full true = choice_short c own other (choice (sight c own other)) m h
    by_full false = h

moved_short : (s t : State) (m : ℕ) → CubeRound s t → IsShort m s.forth → IsShort m s.back →
    IsShort m t.forth × IsShort m t.back
moved_short s t m (inl v) f b =
    (subst (IsShort m) (sym v.forth) f, subst (IsShort m) (sym v.back) b)
moved_short s t m (inr i) f b = subst (λ z. IsShort m z.forth × IsShort m z.back) (sym i.0) (f, b)

round_short : (c : Setup) (s t : State) (m : ℕ) → IsRound c s t → IsShort (suc m) s.forth →
    IsShort (suc m) s.back → IsShort m t.forth × IsShort m t.back
round_short c s t m r f b =
    let a : Side = sent c s.forth s.back in
    let d : Side = sent c s.back a in
    let e : Side = landed_own a (costs_next a) r.0 in
    let g : Side = landed_other a d r.0 in
    let sg : IsShort (suc m) g = other_short a d r.0 (suc m) (sent_short c s.back a (suc m) b) in
    moved_short (link_round c r.0 r.1 s) t m r.4
    (other_short g e r.1 m
    (own_short a (costs_next a) r.0 m (sent_short c s.forth s.back (suc m) f)))
    (own_short g (costs_next g) r.1 m sg)

-- Lacks is Unit or ⊥ at 0: in m rounds nothing lacks
short_after : (c : Setup) (run : ℕ → State) (m k n : ℕ) → Rounds c run n → m + k ≤ n →
    IsShort m (run k).forth → IsShort m (run k).back → IsShort 0 (run (m + k)).forth
    × IsShort 0 (run (m + k)).back
short_after c run zero k n r h f b =
    let q : k ≡ 0 + k = omega arith in
    subst (λ j. IsShort 0 (run j).forth × IsShort 0 (run j).back) q (f, b)
short_after c run (suc m) k n r h f b =
    let z : IsShort m (run (suc k)).forth × IsShort m (run (suc k)).back =
    round_short c (run k) (run (suc k)) m (r k (omega (arith, h))) f b in
    let q : m + suc k ≡ suc m + k = omega arith in
    subst (λ j. IsShort 0 (run j).forth × IsShort 0 (run j).back) q
    (short_after c run m (suc k) n r (omega (arith, h)) z.0 z.1)

starts_short : (far : Reached) (n : ℕ) → far ≢ training → (far ≡ spoilt → (1 ≤ n) × (n ≤ 16)) →
    Lacks 16 far n
starts_short training n h k = absurd (h refl)
starts_short aborting n h k = tt
starts_short between n h k = tt
starts_short (inside j i) n h k = tt
starts_short spoilt n h k = k refl

ends_short : (far : Reached) (n : ℕ) → Lacks 0 far n → (far ≢ training) × (far ≢ spoilt)
ends_short far n h =
    (λ q. subst (λ f. Lacks 0 f n) q h, λ q. not_spoilt (subst (λ f. Lacks 0 f n) q h))
  where
    not_spoilt : (1 ≤ n) × (n ≤ 0) → ⊥
    not_spoilt z = absurd (omega arith)

pub cleans : (p : Profile) (c : Setup) → Cleans p c
cleans p c = λ f run r a h.
    let z : IsShort 0 (run 16).forth × IsShort 0 (run 16).back =
    short_after c run 16 0 16 r (omega arith)
    (starts_short (wire (run 0).forth).far (run 0).forth.missing h.1.0 a.forth.missing)
    (starts_short (wire (run 0).back).far (run 0).back.missing h.1.1 a.back.missing) in
    let x : ((wire (run 16).forth).far ≢ training) × ((wire (run 16).forth).far ≢ spoilt) =
    ends_short (wire (run 16).forth).far (run 16).forth.missing z.0 in
    let y : ((wire (run 16).back).far ≢ training) × ((wire (run 16).back).far ≢ spoilt) =
    ends_short (wire (run 16).back).far (run 16).back.missing z.1 in
    ((x.0, y.0), x.1, y.1)

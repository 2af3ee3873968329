-- Tests that compute whether a turn of a pair may come, and what a list of turns leads to. Lists
-- are walked with the oldest turn first. Used by WorkedPair.
use Rattle.std.proofs.Common.{◌≡◌, ◌≢◌, ℕ, ◌+◌, List, [], ◌∷◌, Bool, true, false, not, ◌&&◌, ◌||◌, nat_le, nat_eq, ◌⊎◌, inl, inr, ⊎_elim, refl, sym, ◌∙◌}
use Rattle.std.proofs.lemmas.Bool.{and_parts}
use Rattle.hmc_numbers.specs.Weights.{Weight}
use Rattle.hmc_numbers.specs.Direction.{Filler, Item, Direction, front_or}
use Rattle.hmc_numbers.specs.Direction.Filler.{null, train, pret, start}
use Rattle.hmc_numbers.specs.Direction.Item.{filler, clear, part}
use Rattle.hmc_numbers.specs.Direction.Reached.{training}
use Rattle.hmc_numbers.specs.Events.{Reading, Event}
use Rattle.hmc_numbers.specs.Events.Reading.{plain, as_start, as_clear}
use Rattle.hmc_numbers.specs.Events.Event.{rests, sends_filler, sends_clear, begins, begins_through, begins_again, goes_on, acknowledges, drops, trains, opens, passes, gathers, accepts, repeats, spoils, breaks, unlocks}
use Rattle.hmc_numbers.specs.Pair.{Half, Pair, pair_opening, Move, Turn, turned, pair_after}
use Rattle.hmc_numbers.specs.Pair.Move.{does, counts, moves}
use Rattle.hmc_numbers.specs.Pair.Turn.{forth, back}
use Rattle.hmc_numbers.specs.Tokens.{cost, cost_begun, tokens_begun, tokens_accepted, used_tokens}
use Rattle.hmc_numbers.specs.Turns.{Affords, MayFill, MayHere, IsLong, IsPret, MayCount, MayMove, MayTurn, MayTurns}
use Rattle.hmc_numbers.proofs.Checked.{Decides, holds, fails, both, three, at_most, equal, may, decides_may, is_training, decides_training, is_aborting, decides_aborting}

not_so : {P : Type 0} (b : Bool) → Decides b P → Decides (not b) (P → ⊥)
not_so true d = record { yes = λ q. absurd (cc q); no = λ f. absurd (f (d.yes refl)) }
not_so false d = record { yes = λ q p. absurd (cc (d.no p)); no = λ f. refl }

either : {P Q : Type 0} (a b : Bool) → Decides a P → Decides b Q → Decides (a || b) (P ⊎ Q)
either true b p q = record { yes = λ e. inl (p.yes refl); no = λ u. refl }
either false b p q = record { yes = λ e. inr (q.yes e); no = λ u. ⊎_elim (λ x. absurd (cc (p.no x))) (λ y. q.no y) u }

-- Events of a direction beside the other one

abbrev is_trained : Half → Bool
is_trained h = not (is_training h.direction.far)

decides_trained : (h : Half) → Decides (is_trained h) (h.direction.far ≢ training)
decides_trained h = not_so (is_training h.direction.far) (decides_training h.direction.far)

abbrev affords : ℕ → Half → Half → Weight → Bool
affords adv own other s =
    nat_le (cost_begun own.direction + cost s) (tokens_accepted other.direction) &&
    nat_le (tokens_begun own.direction + s.returns) (adv + other.moved)

decides_affords : (adv : ℕ) (own other : Half) (s : Weight) → Decides (affords adv own other s) (Affords adv own other s)
decides_affords adv own other s = both _ _ (at_most (cost_begun own.direction + cost s) (tokens_accepted other.direction)) (at_most (tokens_begun own.direction + s.returns) (adv + other.moved))

abbrev may_fill : Half → Half → Filler → Bool
may_fill own other train = is_training other.direction.far
may_fill own other f = is_trained other && nat_eq own.direction.left 0

decides_fill : (own other : Half) (f : Filler) → Decides (may_fill own other f) (MayFill own other f)
decides_fill own other train = decides_training other.direction.far
decides_fill own other null = both _ _ (decides_trained other) (equal own.direction.left 0)
decides_fill own other pret = both _ _ (decides_trained other) (equal own.direction.left 0)
decides_fill own other start = both _ _ (decides_trained other) (equal own.direction.left 0)

abbrev may_here : ℕ → ℕ → Half → Half → Event → Bool
may_here r adv own other (sends_filler f) = may_fill own other f
may_here r adv own other sends_clear = is_trained other && may r own.direction sends_clear
may_here r adv own other (begins s) =
    is_trained other && (may r own.direction (begins s) && affords adv own other s)
may_here r adv own other (begins_through s) =
    is_trained other && (may r own.direction (begins_through s) && affords adv own other s)
may_here r adv own other begins_again = is_trained other && may r own.direction begins_again
may_here r adv own other (acknowledges n) = false
may_here r adv own other e = may r own.direction e

decides_here : (r adv : ℕ) (own other : Half) (e : Event) → Decides (may_here r adv own other e) (MayHere r adv own other e)
decides_here r adv own other (sends_filler f) = decides_fill own other f
decides_here r adv own other sends_clear = both _ _ (decides_trained other) (decides_may r own.direction sends_clear)
decides_here r adv own other (begins s) = three _ _ _ (decides_trained other) (decides_may r own.direction (begins s)) (decides_affords adv own other s)
decides_here r adv own other (begins_through s) = three _ _ _ (decides_trained other) (decides_may r own.direction (begins_through s)) (decides_affords adv own other s)
decides_here r adv own other begins_again = both _ _ (decides_trained other) (decides_may r own.direction begins_again)
decides_here r adv own other (acknowledges n) = fails
decides_here r adv own other rests = decides_may r own.direction rests
decides_here r adv own other goes_on = decides_may r own.direction goes_on
decides_here r adv own other (drops reading) = decides_may r own.direction (drops reading)
decides_here r adv own other trains = decides_may r own.direction trains
decides_here r adv own other opens = decides_may r own.direction opens
decides_here r adv own other (passes reading) = decides_may r own.direction (passes reading)
decides_here r adv own other gathers = decides_may r own.direction gathers
decides_here r adv own other accepts = decides_may r own.direction accepts
decides_here r adv own other repeats = decides_may r own.direction repeats
decides_here r adv own other (spoils c) = decides_may r own.direction (spoils c)
decides_here r adv own other (breaks c) = decides_may r own.direction (breaks c)
decides_here r adv own other unlocks = decides_may r own.direction unlocks

-- Return pointers

abbrev is_long : Direction → Reading → Bool
is_long w plain = false
is_long w as_start = nat_le 23 w.start_run
is_long w as_clear = nat_le 23 w.clear_run

decides_long : (w : Direction) (reading : Reading) → Decides (is_long w reading) (IsLong w reading)
decides_long w plain = fails
decides_long w as_start = at_most 23 w.start_run
decides_long w as_clear = at_most 23 w.clear_run

abbrev is_pret : Item → Bool
is_pret (filler pret) = true
is_pret x = false

decides_pret : (x : Item) → Decides (is_pret x) (IsPret x)
decides_pret (filler pret) = holds
decides_pret (filler null) = fails
decides_pret (filler train) = fails
decides_pret (filler start) = fails
decides_pret clear = fails
decides_pret (part n k more) = fails

abbrev may_count : Direction → Event → Bool
may_count w (drops reading) = is_aborting w.far && is_long w reading
may_count w opens = true
may_count w (passes reading) = is_long w reading || is_pret (front_or w.before w.line)
may_count w accepts = true
may_count w repeats = true
may_count w e = false

decides_count : (w : Direction) (e : Event) → Decides (may_count w e) (MayCount w e)
decides_count w (drops reading) = both _ _ (decides_aborting w.far) (decides_long w reading)
decides_count w opens = holds
decides_count w (passes reading) = either _ _ (decides_long w reading) (decides_pret (front_or w.before w.line))
decides_count w accepts = holds
decides_count w repeats = holds
decides_count w rests = fails
decides_count w (sends_filler f) = fails
decides_count w sends_clear = fails
decides_count w (begins s) = fails
decides_count w (begins_through s) = fails
decides_count w begins_again = fails
decides_count w goes_on = fails
decides_count w (acknowledges n) = fails
decides_count w trains = fails
decides_count w gathers = fails
decides_count w (spoils c) = fails
decides_count w (breaks c) = fails
decides_count w unlocks = fails

-- Turns

abbrev may_move : ℕ → ℕ → Half → Half → Move → Bool
may_move r adv own other (does e) = may_here r adv own other e
may_move r adv own other (counts e) = may_here r adv own other e && may_count own.direction e
may_move r adv own other (moves k) = nat_le k (used_tokens own)

decides_move : (r adv : ℕ) (own other : Half) (m : Move) → Decides (may_move r adv own other m) (MayMove r adv own other m)
decides_move r adv own other (does e) = decides_here r adv own other e
decides_move r adv own other (counts e) = both _ _ (decides_here r adv own other e) (decides_count own.direction e)
decides_move r adv own other (moves k) = at_most k (used_tokens own)

abbrev pub may_turn : ℕ → ℕ → Pair → Turn → Bool
may_turn r adv p (forth m) = may_move r adv p.forth p.back m
may_turn r adv p (back m) = may_move r adv p.back p.forth m

decides_turn : (r adv : ℕ) (p : Pair) (t : Turn) → Decides (may_turn r adv p t) (MayTurn r adv p t)
decides_turn r adv p (forth m) = decides_move r adv p.forth p.back m
decides_turn r adv p (back m) = decides_move r adv p.back p.forth m

-- Lists, the oldest turn first

-- what a list leads to, and whether each of its turns might come
pub record PairWalk : Type 0 where
  pub reached : Pair
  pub might : Bool

abbrev pub pair_walk : ℕ → ℕ → Pair → Bool → List Turn → PairWalk
pair_walk r adv p b [] = record { reached = p; might = b }
pair_walk r adv p b (t ∷ ts) = pair_walk r adv (turned p t) (b && may_turn r adv p t) ts

-- the list with the newest first, before past
abbrev pub turns_onto : List Turn → List Turn → List Turn
turns_onto [] past = past
turns_onto (t ∷ ts) past = turns_onto ts (t ∷ past)

abbrev pub pair_walked : ℕ → ℕ → List Turn → PairWalk
pair_walked r adv ts = pair_walk r adv pair_opening true ts

turns_might_onto : (r adv : ℕ) (past ts : List Turn) (b : Bool) → (pair_walk r adv (pair_after past) b ts).might ≡ true → (b ≡ true) × (MayTurns r adv past → MayTurns r adv (turns_onto ts past))
turns_might_onto r adv past [] b q = (q, λ m. m)
turns_might_onto r adv past (t ∷ ts) b q =
    let h = turns_might_onto r adv (t ∷ past) ts (b && may_turn r adv (pair_after past) t) q in
    let z = and_parts b (may_turn r adv (pair_after past) t) h.0 in
    (z.0, λ m. h.1 ((decides_turn r adv (pair_after past) t).yes z.1, m))

pub all_turns_might : (r adv : ℕ) (ts : List Turn) → (pair_walked r adv ts).might ≡ true → MayTurns r adv (turns_onto ts [])
all_turns_might r adv ts q = (turns_might_onto r adv [] ts true q).1 tt

-- a turn may not come after a list
pub record MayNotTurn (r adv : ℕ) (ts : List Turn) (t : Turn) : Type 0 where
  pub refuses : MayTurn r adv (pair_walked r adv ts).reached t → ⊥

pub turn_refused : {r adv : ℕ} {ts : List Turn} {t : Turn} → may_turn r adv (pair_walked r adv ts).reached t ≡ false → MayNotTurn r adv ts t
turn_refused {r} {adv} {ts} {t} q = record { refuses = λ m. absurd (cc (sym q ∙ (decides_turn r adv (pair_walked r adv ts).reached t).no m)) }

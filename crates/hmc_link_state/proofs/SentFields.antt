-- What a send changes and what it leaves: receiver, queue, go-back, bursts.
use Rattle.std.proofs.Common.{◌≡◌, ◌≢◌, ℕ, ◌-◌, ◌%◌, ◌≤◌, ◌==◌, Bool, true, false, if◌then◌else◌, List, [], ◌∷◌, ◌++◌, length, ◌⊎◌, inl, inr, refl, ap, arith}
use Rattle.hmc_numbers.specs.Direction.{Item, Reached}
use Rattle.hmc_numbers.specs.Direction.Item.{filler, clear as cleared, part}
use Rattle.hmc_numbers.specs.Direction.Filler.{train as trains, start as starts, null as nulls, pret as prets}
use Rattle.hmc_numbers.specs.Direction.Reached.{training, aborting, between, inside, spoilt}
use Rattle.hmc_numbers.specs.May.{IsShut}
use Rattle.hmc_numbers.specs.Tokens.{cost, used_tokens}
use Rattle.hmc_numbers.proofs.Sums.{upto-append}
use Rattle.hmc_link_state.specs.Choice.{Choice, is_training}
use Rattle.hmc_link_state.specs.Choice.Choice.{train, starved, next, clear, start, again, new, tret, pret, null}
use Rattle.hmc_link_state.specs.Sees.{mode_of}
use Rattle.hmc_link_state.specs.State.{Setup, Side, wire, AreFairSizes}
use Rattle.hmc_link_state.specs.Round.{sight, sent_by, queue_after, go_back_after}
use Rattle.hmc_link_state.specs.Facts.{AreTraining, Untrained, SideFacts}
use Rattle.hmc_link_state.proofs.Chosen.{Chosen}

-- what a send doesn't change

pub far_same : (c : Setup) (own other : Side) (x : Choice) →
    (wire (sent_by c own other x)).far ≡ (wire own).far
far_same c own other train = refl
far_same c own other x = refl

pub acked_same : (c : Setup) (own other : Side) (x : Choice) →
    (wire (sent_by c own other x)).acked ≡ (wire own).acked
acked_same c own other train = refl
acked_same c own other x = refl

pub accepted_same : (c : Setup) (own other : Side) (x : Choice) →
    (wire (sent_by c own other x)).accepted ≡ (wire own).accepted
accepted_same c own other train = refl
accepted_same c own other x = refl

pub runs_same : (c : Setup) (own other : Side) (x : Choice) →
    ((wire (sent_by c own other x)).clear_run ≡ (wire own).clear_run)
    × ((wire (sent_by c own other x)).start_run ≡ (wire own).start_run)
runs_same c own other train = (refl, refl)
runs_same c own other x = (refl, refl)

-- each field

pub queue_fair : (x : Choice) (ps : List ℕ) → AreFairSizes ps → AreFairSizes (queue_after x ps)
queue_fair (new n) [] h = h
queue_fair (new n) (p ∷ ps) h = h.2
queue_fair train ps h = h
queue_fair x ps h = h

pub used_sent : (c : Setup) (own other : Side) (x : Choice) →
    (wire own).accepted ≤ length (wire own).first →
    used_tokens (sent_by c own other x).half ≡ used_tokens own.half
used_sent c own other (new n) h =
    ap (λ k. k - own.half.moved)
    (upto-append cost (wire own).first (_ ∷ []) (wire own).accepted h)
used_sent c own other tret h =
    ap (λ k. k - own.half.moved)
    (upto-append cost (wire own).first (_ ∷ []) (wire own).accepted h)
used_sent c own other train h = refl
used_sent c own other x h = refl

pub go_back_sent : (x : Choice) (n : ℕ) (b o : Bool) → (b ≡ true → o ≡ true) →
    go_back_after x n b ≡ true → o ≡ true
go_back_sent clear n b o h q = by_first (n % 32 == 0) q
  where
    by_first : (t : Bool) → (if t then false else b) ≡ true → o ≡ true
    by_first true r = absurd (cc r)
    by_first false r = h r
go_back_sent train n b o h q = h q
go_back_sent x n b o h q = h q

pub go_back_false : (x : Choice) (n : ℕ) (b : Bool) → b ≡ false → go_back_after x n b ≡ false
go_back_false clear n b h = by_first (n % 32 == 0)
  where
    by_first : (t : Bool) → (if t then false else b) ≡ false
    by_first true = refl
    by_first false = h
go_back_false train n b h = h
go_back_false x n b h = h

pub open_sent : (c : Setup) (own other : Side) (x : Choice) → Chosen (sight c own other) x →
    SideFacts c own other → 1 ≤ (wire (sent_by c own other x)).clears → own.is_open ≡ true
open_sent c own other clear h f l = by_why h.why
  where
    by_why : ((wire own).clears % 32 ≢ 0)
        ⊎ (((wire own).clears % 32 ≡ 0) × (own.starts % 32 ≡ 0) × (own.go_back ≡ true)) →
        own.is_open ≡ true
    by_why (inl n) = f.open_clears (omega (arith, n))
    by_why (inr z) = f.open_back z.2
open_sent c own other train h f l = f.open_clears l
open_sent c own other x h f l = f.open_clears l

pub shut_sent : (c : Setup) (own other : Side) (x : Choice) → SideFacts c own other →
    (wire (sent_by c own other x)).clears ≡ 0 → IsShut (wire (sent_by c own other x)).far
shut_sent c own other clear f q = absurd (omega (arith, q))
shut_sent c own other train f q = f.shut q
shut_sent c own other x f q = f.shut q

training_snoc : (xs : List Item) → AreTraining xs → AreTraining (xs ++ filler trains ∷ [])
training_snoc [] h = tt
training_snoc (filler trains ∷ xs) h = training_snoc xs h
training_snoc (filler nulls ∷ xs) h = absurd h
training_snoc (filler starts ∷ xs) h = absurd h
training_snoc (filler prets ∷ xs) h = absurd h
training_snoc (cleared ∷ xs) h = absurd h
training_snoc (part n k more ∷ xs) h = absurd h

pub in_train : (far : Reached) → far ≡ training → is_training (mode_of far) ≡ false → ⊥
in_train far q h =
    let z : is_training (mode_of far) ≡ true = ap (λ y. is_training (mode_of y)) q in cc

pub train_far : (far : Reached) → is_training (mode_of far) ≡ true → far ≡ training
train_far training h = refl
train_far aborting h = absurd (cc h)
train_far between h = absurd (cc h)
train_far (inside n k) h = absurd (cc h)
train_far spoilt h = absurd (cc h)

pub untrained_sent : (c : Setup) (own other : Side) (x : Choice) → Chosen (sight c own other) x →
    SideFacts c own other → (wire other).far ≡ training → Untrained (sent_by c own other x) other
untrained_sent c own other train h f q =
    let u = f.untrained q in
    record {
      line = training_snoc (wire own).line u.line;
      starts = u.starts;
      shut = u.shut;
      back = u.back;
      first = u.first;
      others = u.others;
    }
untrained_sent c own other starved h f q = absurd (cc h)
untrained_sent c own other next h f q = absurd (in_train (wire other).far q h.0)
untrained_sent c own other clear h f q = absurd (in_train (wire other).far q h.out.trained)
untrained_sent c own other start h f q = absurd (in_train (wire other).far q h.out.trained)
untrained_sent c own other again h f q = absurd (in_train (wire other).far q h.0.trained)
untrained_sent c own other (new n) h f q = absurd (in_train (wire other).far q h.new.calm.trained)
untrained_sent c own other tret h f q = absurd (in_train (wire other).far q h.new.calm.trained)
untrained_sent c own other pret h f q = absurd (in_train (wire other).far q h.0.new.calm.trained)
untrained_sent c own other null h f q = absurd (in_train (wire other).far q h.0.new.calm.trained)

-- bursts

abbrev Clear32 : Side → Type 0
Clear32 x = (wire x).clears % 32 ≡ 0

abbrev Start32 : Side → Type 0
Start32 x = x.starts % 32 ≡ 0

pub no_starts : (c : Setup) (own other : Side) → Chosen (sight c own other) clear →
    SideFacts c own other → Start32 own
no_starts c own other h f = by_why h.why f.one
  where
    by_why : ((wire own).clears % 32 ≢ 0)
        ⊎ (((wire own).clears % 32 ≡ 0) × (own.starts % 32 ≡ 0) × (own.go_back ≡ true)) →
        Clear32 own ⊎ Start32 own → Start32 own
    by_why (inr z) o = z.1
    by_why (inl n) (inr o) = o
    by_why (inl n) (inl o) = absurd (n o)

pub one_sent : (c : Setup) (own other : Side) (x : Choice) → Chosen (sight c own other) x →
    SideFacts c own other → Clear32 (sent_by c own other x) ⊎ Start32 (sent_by c own other x)
one_sent c own other clear h f = inr (no_starts c own other h f)
one_sent c own other start h f = inl h.clears
one_sent c own other train h f = f.one
one_sent c own other x h f = f.one

pub train_none : (c : Setup) (own other : Side) → is_training (mode_of (wire other).far) ≡ true →
    SideFacts c own other → ((wire own).left ≡ 0) × Clear32 own × Start32 own
train_none c own other h f =
    let q = train_far (wire other).far h in
    let j = f.joined.trains q in
    let u = f.untrained q in
    (j.0, omega (arith, j.1), omega (arith, u.starts))

pub whole_sent : (c : Setup) (own other : Side) (x : Choice) → Chosen (sight c own other) x →
    SideFacts c own other → 1 ≤ (wire (sent_by c own other x)).left →
    Clear32 (sent_by c own other x) × Start32 (sent_by c own other x)
whole_sent c own other train h f l = let z = train_none c own other h f in (z.1, z.2)
whole_sent c own other starved h f l = f.whole l
whole_sent c own other next h f l = f.whole h.1
whole_sent c own other clear h f l = absurd (omega (arith, l, h.out.left))
whole_sent c own other start h f l = absurd (omega (arith, l, h.out.left))
whole_sent c own other again h f l = (h.0.clears, h.0.starts)
whole_sent c own other (new n) h f l = (h.new.calm.clears, h.new.calm.starts)
whole_sent c own other tret h f l = (h.new.calm.clears, h.new.calm.starts)
whole_sent c own other pret h f l = (h.0.new.calm.clears, h.0.new.calm.starts)
whole_sent c own other null h f l = (h.0.new.calm.clears, h.0.new.calm.starts)

-- What holds of every state that a lawful journal leads to.
use Rattle.std.specs.Prelude.{◌≡◌, ℕ, zero, suc, ◌%◌, ◌≤◌, min, nat_le, if◌then◌else◌, true, false, List, [], ◌∷◌, length, ◌⊎◌}
use Rattle.hmc_numbers.specs.Direction.{Item}
use Rattle.hmc_numbers.specs.Direction.Item.{filler, clear, part}
use Rattle.hmc_numbers.specs.Direction.Filler.{null, train, start, pret}
use Rattle.hmc_numbers.specs.Direction.Reached.{training, aborting, spoilt}
use Rattle.hmc_numbers.specs.May.{IsGood, IsShut}
use Rattle.hmc_numbers.specs.Pair.{rest_of_stamps, front_stamp}
use Rattle.hmc_numbers.specs.Tokens.{used_tokens}
use Rattle.hmc_numbers.specs.PairLaws.{Points}
use Rattle.hmc_numbers.proofs.Together.{Joined}
use Rattle.hmc_link_state.specs.State.{Setup, Side, State, wire, flits_of, AreFairSizes}

abbrev pub AreTraining : List Item → Type 0
AreTraining [] = Unit {0}
AreTraining (filler train ∷ xs) = AreTraining xs
AreTraining xs = ⊥

-- Pointers

-- the last flit of a packet has a pointer
abbrev pub acked_after : (more n acked : ℕ) → ℕ
acked_after zero n a = n
acked_after (suc more) n a = a

-- what is acknowledged once a flit has landed in Good, whose stamp is n; before it were so many
-- Clears, so many Starts in a row
abbrev pub acked_by : Item → (clear_run start_run n acked : ℕ) → ℕ
acked_by (filler null) c s n a = a
acked_by (filler train) c s n a = a
acked_by (filler pret) c s n a = n
acked_by (filler start) c s n a = if nat_le 23 s then n else a
acked_by clear c s n a = if nat_le 23 c then n else a
acked_by (part m k more) c s n a = acked_after more n a

abbrev pub clears_by : Item → ℕ → ℕ
clears_by clear c = suc c
clears_by x c = 0

abbrev pub starts_by : Item → ℕ → ℕ
starts_by (filler start) s = suc s
starts_by x s = 0

-- when the line has landed in Good, E holds of what is acknowledged then, and of the two runs
abbrev pub Counted : (ℕ → ℕ → ℕ → Type 0) → (acked clear_run start_run : ℕ) → (stamps : List ℕ) →
    List Item → Type 0
Counted E a c s ns [] = E a c s
Counted E a c s ns (x ∷ xs) =
    Counted E (acked_by x c s (front_stamp a ns) a) (clears_by x c) (starts_by x s)
    (rest_of_stamps ns) xs

-- likewise where the receiver becomes Good by any of the Clears on the line
abbrev pub CountedLater : (ℕ → ℕ → ℕ → Type 0) → (stamps : List ℕ) → List Item → Type 0
CountedLater E ns [] = Unit {0}
CountedLater E ns (clear ∷ xs) =
    Counted E (front_stamp 0 ns) 24 0 (rest_of_stamps ns) xs × CountedLater E (rest_of_stamps ns) xs
CountedLater E ns (filler f ∷ xs) = CountedLater E (rest_of_stamps ns) xs
CountedLater E ns (part m k more ∷ xs) = CountedLater E (rest_of_stamps ns) xs

-- An unfinished burst ends a run, up to 24. Where none is unfinished, what the pointer sent last
-- stands for is acknowledged.
abbrev pub IsAcked : (clears starts ack : ℕ) → (acked clear_run start_run : ℕ) → Type 0
IsAcked clears starts ack a c s =
    (min 24 (clears % 32) ≤ c) × (min 24 (starts % 32) ≤ s)
    × (clears % 32 ≡ 0 → starts % 32 ≡ 0 → a ≡ ack)

abbrev pub IsNotStart : Item → Type 0
IsNotStart (filler start) = ⊥
IsNotStart x = Unit {0}

-- no flit with a return pointer has one of more packets than n
abbrev pub PointUpTo : ℕ → (stamps : List ℕ) → List Item → Type 0
PointUpTo n ns [] = Unit {0}
PointUpTo n ns (x ∷ xs) = (Points x → front_stamp 0 ns ≤ n) × PointUpTo n (rest_of_stamps ns) xs

-- Starts come in whole bursts, with 64 other flits before each. Of the burst at the front j have
-- landed before, or g other flits since the last Start; z landed last. At the end of the line these
-- are what was sent.
abbrev pub Spaced : (starts others : ℕ) → Item → (g j : ℕ) → List Item → Type 0
Spaced s o z g j [] = (j ≡ s % 32) × (o ≤ g) × (1 ≤ g → IsNotStart z)
Spaced s o z g zero (filler start ∷ xs) = (64 ≤ g) × Spaced s o (filler start) 0 1 xs
Spaced s o z g (suc j) (filler start ∷ xs) = Spaced s o (filler start) 0 (suc (suc j) % 32) xs
Spaced s o z g j (x ∷ xs) = (j ≡ 0) × Spaced s o x (suc g) 0 xs

-- What a side is while the receiver at its own end is in Train: it sent training flits alone, so
-- the other end is shut.
pub record Untrained (own other : Side) : Type 0 where
  pub line : AreTraining (wire own).line
  pub starts : own.starts ≡ 0
  pub shut : other.is_open ≡ false
  pub back : other.go_back ≡ false
  pub first : (wire own).first ≡ []
  pub others : (wire other).first ≡ []

pub record SideFacts (c : Setup) (own other : Side) : Type 0 where
  -- the invariant of hmc_numbers
  pub joined : Joined c.retry c.tokens own.half other.half
  pub short : length (wire own).line ≤ c.line
  -- fronts have 1 to 17 flits; the buffer's flits are the tokens used
  pub queue : AreFairSizes own.queue
  pub buffer : flits_of own.buffer ≡ used_tokens own.half
  -- a gathering with a changed flit is short of 1 to 16
  pub missing : (wire own).far ≡ spoilt → (1 ≤ own.missing) × (own.missing ≤ 16)
  -- Clears are sent only after a ran start, and a receiver leaves Abort only by Clears
  pub open_back : own.go_back ≡ true → own.is_open ≡ true
  pub open_clears : 1 ≤ (wire own).clears → own.is_open ≡ true
  pub shut : (wire own).clears ≡ 0 → IsShut (wire own).far
  -- in Train a run of steady flits is short of 8, in Abort one of Clears of 24
  pub steady : (wire own).far ≡ training → own.steady ≤ 7
  pub few : (wire own).far ≡ aborting → (wire own).clear_run ≤ 23
  pub long_ago : own.starts ≡ 0 → 64 ≤ own.others
  pub spaced : (g : ℕ) × (j : ℕ)
      × Spaced own.starts own.others (wire own).before g j (wire own).line
      × (1 ≤ g → IsNotStart (wire own).before)
  pub untrained : (wire other).far ≡ training → Untrained own other
  -- bursts aren't mixed with one another, nor with packets
  pub one : ((wire own).clears % 32 ≡ 0) ⊎ (own.starts % 32 ≡ 0)
  pub whole : 1 ≤ (wire own).left → ((wire own).clears % 32 ≡ 0) × (own.starts % 32 ≡ 0)
  -- the pointer sent last is between what is acknowledged and what is accepted
  pub least : (wire other).acked ≤ own.ack_sent
  pub most : own.ack_sent ≤ (wire other).accepted
  pub pointed : PointUpTo own.ack_sent own.half.stamps (wire own).line
  -- no pointer is lost for good
  pub later : CountedLater (IsAcked (wire own).clears own.starts own.ack_sent) own.half.stamps
      (wire own).line
  pub counted : IsGood (wire own).far →
      Counted (IsAcked (wire own).clears own.starts own.ack_sent) (wire other).acked
      (wire own).clear_run (wire own).start_run own.half.stamps (wire own).line

pub record Facts (c : Setup) (s : State) : Type 0 where
  pub forth : SideFacts c s.forth s.back
  pub back : SideFacts c s.back s.forth

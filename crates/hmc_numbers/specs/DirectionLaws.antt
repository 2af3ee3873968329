-- What holds of every direction that events lead to, where each of them might come.
use Rattle.std.specs.Prelude.{◌≡◌, ◌≢◌, ℕ, suc, ◌+◌, ◌%◌, ◌≤◌, List, ◌∷◌, ◌++◌, ◌⊎◌}
use Rattle.hmc_codes.specs.declared.profile.Profile.{Profile}
use Rattle.hmc_numbers.specs.Weights.{Weight, flits_to, size}
use Rattle.hmc_numbers.specs.Pointers.{pointer, IsNext, IsBehind}
use Rattle.hmc_numbers.specs.Places.{places, put_by, taken_by}
use Rattle.hmc_numbers.specs.Direction.{Item, Reached, Direction, begun, position}
use Rattle.hmc_numbers.specs.Events.{Event, happens}
use Rattle.hmc_numbers.specs.May.{May, IsGood, CanReadAs}
use Rattle.hmc_numbers.specs.Direction.Filler.{train, start}
use Rattle.hmc_numbers.specs.Direction.Item.{filler, clear, part}
use Rattle.hmc_numbers.specs.Direction.Reached.{training, aborting, between, inside, spoilt}
use Rattle.hmc_numbers.specs.Events.Reading.{as_start, as_clear}

-- a packet that was begun has flit k, after which there are so many more
pub record IsPlaced (ps : List Weight) (begun n k more : ℕ) : Type 0 where
  pub least : 1 ≤ n
  pub most : n ≤ begun
  pub flits : k + suc more ≡ size ps n
  pub short : size ps n ≤ 17

-- In Good, with nothing changed, what lands continues what was gathered: a header at the beginning
-- of a packet, and within packet m its next flit.
abbrev pub ContinuesGathered : Reached → Item → Type 0
ContinuesGathered training x = Unit {0}
ContinuesGathered aborting x = Unit {0}
ContinuesGathered spoilt x = Unit {0}
ContinuesGathered between (filler f) = Unit {0}
ContinuesGathered between clear = Unit {0}
ContinuesGathered between (part n k more) = k ≡ 0
ContinuesGathered (inside m j) (filler f) = ⊥
ContinuesGathered (inside m j) clear = ⊥
ContinuesGathered (inside m j) (part n k more) = (n ≡ m) × (k ≡ j)

-- by its FRP and SEQ, packet n passes the test for the next packet
abbrev pub PassesNext : Profile → Direction → ℕ → Type 0
PassesNext p w n =
    IsNext p (flits_to w.first w.accepted) w.accepted (size w.first n) (pointer p w.first n) (n % 8)

-- by its FRP, packet n passes the test for a repeat
abbrev pub PassesRepeat : Profile → Direction → ℕ → Type 0
PassesRepeat p w n = IsBehind p (flits_to w.first w.accepted) (pointer p w.first n)

-- the tests show what packet n is: the next one, or a repeat
abbrev pub IsIdentified : Profile → Direction → ℕ → Type 0
IsIdentified p w n =
    ((n ≡ w.accepted + 1) × PassesNext p w n) ⊎
    ((n ≤ w.accepted) × (PassesNext p w n → ⊥) × PassesRepeat p w n)

-- the laws of a direction, where the retry buffer has so many flits
pub record DirectionLaws (p : Profile) (retry : ℕ) (w : Direction) : Type 0 where
  -- packets are begun, then accepted, then acknowledged
  pub acked : w.acked ≤ w.accepted
  pub accepted : w.accepted ≤ begun w
  pub position : position w ≤ begun w
  -- the retry buffer holds what is not acknowledged
  pub kept : flits_to w.first (begun w) ≤ flits_to w.first w.acked + retry
  -- the packet that is being sent was begun, and some of its flits are left
  pub unfinished :
      1 ≤ w.left →
      (1 ≤ w.last) × (w.last ≤ begun w) × (w.left ≤ size w.first w.last) ×
      (size w.first w.last ≤ 17)
  -- during a burst of Clears no packet is begun
  pub bursts : w.clears % 32 ≢ 0 → w.last ≡ 0
  -- what lands of a packet is what was sent of it
  pub placed :
      (n k more : ℕ) (xs : List Item) → w.line ≡ part n k more ∷ xs →
      IsPlaced w.first (begun w) n k more
  -- a receiver in Good gets packets whole, and no two mixed
  pub gathered : (x : Item) (xs : List Item) → w.line ≡ x ∷ xs → ContinuesGathered w.far x
  -- a receiver in Good gets no training flit
  pub trained : (xs : List Item) → IsGood w.far → w.line ≡ filler train ∷ xs → ⊥
  -- a receiver in Good gets the next packet or a repeat, and knows which
  pub identified :
      (n k : ℕ) (xs : List Item) → IsGood w.far → w.line ≡ part n k 0 ∷ xs → IsIdentified p w n
  -- the 17th and each later flit of a run of Clears was sent as a Clear, and likewise of Starts
  pub clears :
      (x : Item) (xs : List Item) → w.line ≡ x ∷ xs → CanReadAs x as_clear → 16 ≤ w.clear_run →
      x ≡ clear
  pub starts :
      (x : Item) (xs : List Item) → w.line ≡ x ∷ xs → CanReadAs x as_start → 16 ≤ w.start_run →
      x ≡ filler start
  -- among what is not acknowledged, a return pointer names one number of packets
  pub apart :
      (i j : ℕ) → w.acked ≤ i → i ≤ begun w → w.acked ≤ j → j ≤ begun w →
      pointer p w.first i ≡ pointer p w.first j → i ≡ j
  -- a first-in first-out list: each event adds at its end, and takes from its front
  pub list :
      (e : Event) → May retry w e → places w ++ put_by w e ≡ taken_by w e ++ places (happens w e)

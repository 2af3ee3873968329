-- Bursts of IRTRYs.
use Rattle.std.specs.Prelude.{◌≤◌, ℕ, zero, suc, Bool, ◌==◌, Option, Some, None}
use Rattle.hmc_packet.specs.declared.kind.Kind.{Kind}
use Rattle.hmc_packet.specs.declared.kind.Kind.TheVariants.{Clear}

-- the IRTRYs of a burst
abbrev pub whole_burst : ℕ
whole_burst = 32

-- their kind, and how many are left to send
pub record BurstFields : Type 0 where
  pub kind : Kind
  pub left : ℕ

-- a burst of which all were sent; its kind doesn't matter
abbrev pub empty_burst : BurstFields
empty_burst = record { kind = Clear; left = 0 }

abbrev pub is_empty : BurstFields → Bool
is_empty burst = burst.left == 0

-- what each burst keeps
pub record IsBurst (burst : BurstFields) : Type 0 where
  pub left : burst.left ≤ whole_burst

-- the next one, where one is left
abbrev pub next_of : Kind → (left : ℕ) → Option Kind
next_of kind zero = None
next_of kind (suc left) = Some kind

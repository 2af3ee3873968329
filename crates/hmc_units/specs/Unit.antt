-- What a logic unit is.
use Rattle.std.specs.Prelude.{◌≡◌, ℕ, List, length}
use Rattle.hmc_codes.specs.Bytes.{IsBytes}
use Rattle.hmc_codes.specs.declared.answer.Acted.{Acted}

-- sixteen bytes
pub record IsBlock (block : List ℕ) : Type 0 where
  pub sixteen : length block ≡ 16
  pub are_bytes : IsBytes block

-- the new block and the answer are blocks
pub record HasBlocks (acted : Acted) : Type 0 where
  pub block : IsBlock acted.block
  pub answer : IsBlock acted.answer

-- A unit serves the requests of one cube with one code. It keeps a list of numbers, its state. It
-- has two functions of a state, a block and an operand: the state after its work, and what the work
-- makes of the block. The new block and the answer are blocks again.
pub record UnitFields : Type 0 where
  pub cube : ℕ
  pub code : ℕ
  pub state : List ℕ
  pub next_state : (state block operand : List ℕ) → List ℕ
  pub acted : (state block operand : List ℕ) → Acted
  pub has_blocks : (state block operand : List ℕ) → IsBlock block → IsBlock operand
      → HasBlocks (acted state block operand)

-- what the unit's work makes of a block
abbrev pub acted_by : UnitFields → (block operand : List ℕ) → Acted
acted_by unit block operand = unit.acted unit.state block operand

-- the unit after that work: it has its next state, and all else stays
abbrev pub worked_unit : UnitFields → (block operand : List ℕ) → UnitFields
worked_unit unit block operand = record unit { state = unit.next_state unit.state block operand }

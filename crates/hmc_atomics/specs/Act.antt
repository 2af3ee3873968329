-- What an operation does to a block of bytes, with an operand of 16 bytes.
use Rattle.std.specs.Prelude.{ℕ, Bool, if◌then◌else◌, List, ◌++◌, take, drop, replicate}
use Rattle.std.specs.Int.{w64, w128, from_le_bytes, to_le_bytes}
use Rattle.hmc_codes.specs.declared.answer.Acted.{Acted}
use Rattle.hmc_atomics.specs.declared.atomic.Atomic.{Atomic}
use Rattle.hmc_atomics.specs.Operations.{by_halves}
use Rattle.hmc_atomics.specs.Halves.{block_half, with_half}
use Rattle.hmc_atomics.specs.Effects.{Effect, effect_of}

-- the effect of an operation; numbers are little-endian
abbrev pub effect_on : Atomic → Bool → List ℕ → List ℕ → Effect
effect_on op high block operand =
    effect_of op (from_le_bytes w64 (block_half high block)) (from_le_bytes w128 block)
    (from_le_bytes w64 (take 8 operand)) (from_le_bytes w64 (drop 8 operand))
    (from_le_bytes w128 operand)

-- one half gets its new value and the other stays; the answer is the old half and eight zero bytes
abbrev pub acted_half : Bool → List ℕ → Effect → Acted
acted_half high block effect =
    record {
      block = with_half high block (to_le_bytes w64 effect.value);
      answer = block_half high block ++ replicate 8 0;
      flag = effect.flag;
    }

-- the block gets its new value; the answer is the old block
abbrev pub acted_block : List ℕ → Effect → Acted
acted_block block effect =
    record { block = to_le_bytes w128 effect.value; answer = block; flag = effect.flag }

-- an 8-byte operation acts on a half, and each other one on the block
unfoldable pub acted_of : Atomic → (high : Bool) → (block operand : List ℕ) → Acted
acted_of op high block operand =
    (if by_halves op then acted_half high block (effect_on op high block operand) else
    acted_block block (effect_on op high block operand))

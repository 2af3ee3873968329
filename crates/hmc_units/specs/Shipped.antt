-- The shipped kinds of units.
use Rattle.std.specs.Prelude.{◌<◌, ℕ, zero, suc, ◌+◌, ◌%◌, ◌^◌, false, List, [], ◌∷◌, ◌++◌, take, reverse, slice_index}
use Rattle.std.specs.Int.{w64, to_le_bytes}
use Rattle.std.proofs.Common.{◌∙◌, sym, subst, arith, length-append}
use Rattle.std.proofs.lemmas.List.{length-reverse, length-take, reverse-append}
use Rattle.hmc_codes.specs.Bytes.{IsBytes}
use Rattle.hmc_codes.proofs.BytesLemmas.{IsBytes-[], IsBytes-append, IsBytes-take, IsBytes-low}
use Rattle.hmc_codes.specs.declared.answer.Acted.{Acted}
use Rattle.hmc_units.specs.Unit.{IsBlock, UnitFields}

-- the block becomes this one; the answer is the old block, without a flag
abbrev pub block_becomes : (block new : List ℕ) → Acted
block_becomes block new = record { block = new; answer = block; flag = false }

-- the number that a stamp writes: one more than it wrote last
abbrev pub next_count : List ℕ → ℕ
next_count state = (slice_index state 0 + 1) % 2 ^ 64

-- a stamped block: a number in eight little-endian bytes, and the operand's first half
abbrev pub stamped_block : (count : ℕ) → (operand : List ℕ) → List ℕ
stamped_block count operand = to_le_bytes w64 count ++ take 8 operand

-- Both are blocks.

IsBytes-cons : (x : ℕ) (xs : List ℕ) → x < 256 → IsBytes xs → IsBytes (x ∷ xs)
IsBytes-cons x xs first rest zero = first
IsBytes-cons x xs first rest (suc k) = rest k

IsBytes-reverse : (bytes : List ℕ) → IsBytes bytes → IsBytes (reverse bytes)
IsBytes-reverse [] is = IsBytes-[]
IsBytes-reverse (byte ∷ bytes) is =
    subst IsBytes (sym (reverse-append (byte ∷ []) bytes))
    (IsBytes-append (reverse bytes) (byte ∷ []) (IsBytes-reverse bytes (λ k. is (suc k)))
    (IsBytes-cons byte [] (is 0) IsBytes-[]))

pub IsBlock-reverse : (block : List ℕ) → IsBlock block → IsBlock (reverse block)
IsBlock-reverse block is = record {
  sixteen = length-reverse block ∙ is.sixteen;
  are_bytes = IsBytes-reverse block is.are_bytes;
}

pub IsBlock-stamped : (count : ℕ) (operand : List ℕ) → IsBlock operand
    → IsBlock (stamped_block count operand)
IsBlock-stamped count operand is = record {
  sixteen =
      omega (
        arith,
        length-append (to_le_bytes w64 count) (take 8 operand),
        length-take 8 operand,
        is.sixteen,
      );
  are_bytes =
      IsBytes-append (to_le_bytes w64 count) (take 8 operand) (IsBytes-low 0 8 count)
      (IsBytes-take 8 operand is.are_bytes);
}

-- a unit that reverses the order of a block's bytes, and keeps nothing
unfoldable pub reverse_unit : (cube code : ℕ) → UnitFields
reverse_unit cube code =
    record {
      cube = cube;
      code = code;
      state = [];
      next_state = λ state block operand. [];
      acted = λ state block operand. block_becomes block (reverse block);
      has_blocks = λ state block operand is by.
          record { block = IsBlock-reverse block is; answer = is };
    }

-- a unit that keeps how often it worked, modulo 2^64, and stamps this number on a block
unfoldable pub stamp_unit : (cube code count : ℕ) → UnitFields
stamp_unit cube code count =
    record {
      cube = cube;
      code = code;
      state = count ∷ [];
      next_state = λ state block operand. next_count state ∷ [];
      acted = λ state block operand. block_becomes block (stamped_block (next_count state) operand);
      has_blocks = λ state block operand is by.
          record { block = IsBlock-stamped (next_count state) operand by; answer = is };
    }

-- A unit that swaps the halves of a block.
use Rattle.std.specs.Prelude.{ℕ, false, List, [], ◌++◌, take, drop}
use Rattle.std.proofs.Common.{arith, length-append, length-drop}
use Rattle.std.proofs.lemmas.List.{length-take}
use Rattle.hmc_codes.proofs.BytesLemmas.{IsBytes-append, IsBytes-take, IsBytes-drop}
use Rattle.hmc_units.specs.Unit.{IsBlock, UnitFields}

-- the last half, then the first
abbrev pub swapped : (block : List ℕ) → List ℕ
swapped block = drop 8 block ++ take 8 block

-- it is a block again
pub IsBlock-swapped : (block : List ℕ) → IsBlock block → IsBlock (swapped block)
IsBlock-swapped block is = record {
  sixteen =
      omega (
        arith,
        length-append (drop 8 block) (take 8 block),
        length-drop 8 block,
        length-take 8 block,
        is.sixteen,
      );
  are_bytes =
      IsBytes-append (drop 8 block) (take 8 block) (IsBytes-drop 8 block is.are_bytes)
      (IsBytes-take 8 block is.are_bytes);
}

-- the unit: it has no state, and its answer is the old block
unfoldable pub swap_unit : (cube code : ℕ) → UnitFields
swap_unit cube code =
    record {
      cube = cube;
      code = code;
      state = [];
      next_state = λ state block operand. [];
      acted = λ state block operand.
          record { block = swapped block; answer = block; flag = false };
      has_blocks = λ state block operand is by.
          record { block = IsBlock-swapped block is; answer = is };
    }

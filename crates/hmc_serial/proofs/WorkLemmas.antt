-- What the work of a logic unit makes of a block, and what a unit command does by it.
use Rattle.std.proofs.Common.{◌≡◌, ◌≤◌, ◌-◌, ℕ, true, false, cond, List, [], ◌∷◌, length, Option, Some, None, arith, length-append}
use Rattle.std.specs.Prelude.{◌==◌, ◌&&◌, ◌||◌, find, replicate, option_and_then}
use Rattle.std.specs.List.{list_any}
use Rattle.std.proofs.lemmas.List.{length-replicate}
use Rattle.hmc_codes.specs.Bytes.{IsBytes, padded_bytes}
use Rattle.hmc_codes.proofs.BytesLemmas.{IsBytes-padded}
use Rattle.hmc_codes.specs.declared.answer.Acted.{Acted}
use Rattle.hmc_units.specs.Unit.{IsBlock, HasBlocks, UnitFields}
use Rattle.hmc_units.specs.Bench.{serves, acted_in, bench_acted}

-- a unit worked, and made blocks
abbrev pub IsWorked : Option Acted → Type 0
IsWorked None = ⊥
IsWorked (Some acted) = HasBlocks acted

-- so it is where a unit serves
pub IsWorked-served : (cube code : ℕ) (block operand : List ℕ) (slots : List (Option UnitFields)) → IsBlock block → IsBlock operand → list_any (serves cube code) slots ≡ true → IsWorked (bench_acted slots cube code block operand)
IsWorked-served cube code block operand [] is by served = absurd (cc)
IsWorked-served cube code block operand (None ∷ slots) is by served = IsWorked-served cube code block operand slots is by served
IsWorked-served cube code block operand (Some unit ∷ slots) is by served =
    (elim (unit.cube == cube && unit.code == code) as (λ b. (b || list_any (serves cube code) slots) ≡ true → IsWorked (option_and_then (λ slot. acted_in slot block operand) (cond b (Some (Some unit)) (find (serves cube code) slots)))) [
      | true ↦ λ here. unit.has_blocks unit.state block operand is by
      | false ↦ λ rest. IsWorked-served cube code block operand slots is by rest
    ]) served

-- the operand of a payload of at most 16 bytes
pub IsBlock-padded : (payload : List ℕ) → length payload ≤ 16 → IsBytes payload → IsBlock (padded_bytes 16 payload)
unfolding padded_bytes
IsBlock-padded payload short bytes = record {
  sixteen = omega (arith, length-append payload (replicate (16 - length payload) 0), length-replicate {A = ℕ} (16 - length payload) 0);
  are_bytes = IsBytes-padded 16 payload bytes;
}

-- A bench: a list of slots, each of which has a unit or is empty.
use Rattle.std.specs.Prelude.{ℕ, Bool, false, ◌==◌, ◌&&◌, if◌then◌else◌, List, [], ◌∷◌, slice_set, slice_index_or, find, Option, Some, None, is_some, option_and_then}
use Rattle.std.specs.Option.{option_map}
use Rattle.hmc_codes.specs.declared.answer.Acted.{Acted}
use Rattle.hmc_units.specs.Unit.{UnitFields, acted_by, worked_unit}

-- the slots of a bench
abbrev pub most_units : ℕ
most_units = 8

-- the slot has a unit of this cube and this code
abbrev pub serves : (cube code : ℕ) → Option UnitFields → Bool
serves cube code None = false
serves cube code (Some unit) = unit.cube == cube && unit.code == code

-- what the work of a slot's unit makes of a block; None if the slot is empty
abbrev pub acted_in : Option UnitFields → (block operand : List ℕ) → Option Acted
acted_in slot block operand = option_map (λ unit. acted_by unit block operand) slot

-- the slot after that work
abbrev pub worked_slot : Option UnitFields → (block operand : List ℕ) → Option UnitFields
worked_slot slot block operand = option_map (λ unit. worked_unit unit block operand) slot

-- what the work of the unit of this cube and this code makes of a block; None if there is none
abbrev pub bench_acted : List (Option UnitFields) → (cube code : ℕ) → (block operand : List ℕ)
    → Option Acted
bench_acted slots cube code block operand =
    option_and_then (λ slot. acted_in slot block operand) (find (serves cube code) slots)

-- the slots after that work: this unit alone has worked
abbrev pub worked_slots : List (Option UnitFields) → (cube code : ℕ) → (block operand : List ℕ)
    → List (Option UnitFields)
worked_slots [] cube code block operand = []
worked_slots (slot ∷ slots) cube code block operand =
    (if serves cube code slot then worked_slot slot block operand ∷ slots else
    slot ∷ worked_slots slots cube code block operand)

-- the slot has a unit
abbrev pub is_live : List (Option UnitFields) → (slot : ℕ) → Bool
is_live slots slot = is_some (slice_index_or slots slot None)

-- the slots after one is retired: it is empty
abbrev pub retired_slots : List (Option UnitFields) → (slot : ℕ) → List (Option UnitFields)
retired_slots slots slot = slice_set slots slot None

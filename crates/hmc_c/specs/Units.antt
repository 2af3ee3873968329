-- Logic units by numbers.
use Rattle.std.specs.Prelude.{◌≡◌, ◌⊎◌, ◌&&◌, nat_le, ℕ, Bool, true, false, List, length, map, is_some, Option, Result}
use Rattle.std.specs.List.{list_all}
use Rattle.hmc_units.specs.Kinds.{unit_by_numbers}
use Rattle.hmc_units.specs.Unit.{UnitFields}
use Rattle.hmc_case.specs.Case.{CaseFields}
use Rattle.hmc_case.specs.Reading.{Fault}
use Rattle.hmc_c.specs.Handles.{OpenedBy}
use Rattle.hmc_c.specs.Status.{memory, none}
use Rattle.hmc_c.specs.declared.held.Held.{Held}
use Rattle.hmc_c.specs.declared.units.UnitIn.{UnitIn}

-- the unit that these numbers name, if they name one
abbrev pub unit_named : UnitIn → Option UnitFields
unit_named unit = unit_by_numbers unit.kind unit.cube unit.code

-- the slots of these units: the one at place i is in slot i
abbrev pub slots_of : List UnitIn → List (Option UnitFields)
slots_of units = map unit_named units

-- each names a unit, and there are at most eight
abbrev pub is_named : UnitIn → Bool
is_named unit = is_some (unit_named unit)

abbrev pub are_units : List UnitIn → Bool
are_units units = nat_le (length units) 8 && list_all is_named units

-- a handle is opened with units, or they are none
abbrev pub OpenedWith : (are : Bool) → (status : ℕ) → (tape : Bool) → Result CaseFields Fault →
    (slots : List (Option UnitFields)) → (old new : Option Held) → Type 0
OpenedWith true status tape read slots old new = OpenedBy status tape read slots old new
OpenedWith false status tape read slots old new =
    ((status ≡ none) ⊎ (status ≡ memory)) × (new ≡ old)

-- The shipped kinds of units as one type.
use Rattle.std.specs.Prelude.{ℕ, ◌==◌, ◌&&◌, nat_lt, if◌then◌else◌, Option, Some, None}
use Rattle.hmc_units.specs.Unit.{UnitFields}
use Rattle.hmc_units.specs.Shipped.{reverse_unit, stamp_unit}
use Rattle.hmc_units.specs.declared.shipped.Shipped.{Shipped}
use Rattle.hmc_units.specs.declared.shipped.Shipped.TheVariants.{Reverse, Stamp}

-- a unit of a shipped kind, as contracts see it
abbrev pub unit_of : Shipped → UnitFields
unit_of (Reverse unit) = reverse_unit unit.cube unit.code
unit_of (Stamp unit) = stamp_unit unit.cube unit.code unit.count

-- a unit that never worked, of kind 0 or 1, if there is one of this cube and this code
abbrev pub unit_of_kind : (kind cube code : ℕ) → Option UnitFields
unit_of_kind kind cube code =
    (if kind == 0 then Some (reverse_unit cube code) else
    if kind == 1 then Some (stamp_unit cube code 0) else
    None)

-- the same for any numbers: the cube and the code are below 8
abbrev pub unit_by_numbers : (kind cube code : ℕ) → Option UnitFields
unit_by_numbers kind cube code =
    (if nat_lt cube 8 && nat_lt code 8 then unit_of_kind kind cube code else None)

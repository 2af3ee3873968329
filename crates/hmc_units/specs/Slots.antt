-- A bench in the code.
use Rattle.std.specs.Prelude.{List, Option, map}
use Rattle.hmc_units.specs.Unit.{UnitFields}
use Rattle.hmc_units.specs.Slot.{unit_in}
use Rattle.hmc_units.specs.declared.slots.Slots.{Slots}

-- the slots of a bench
abbrev pub units_in : {U : Type 0} → (meaning : U → UnitFields) → Slots U → List (Option UnitFields)
units_in meaning bench = map (unit_in meaning) bench.slots.items

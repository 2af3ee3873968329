-- A slot in the code.
use Rattle.std.specs.Prelude.{Option}
use Rattle.std.specs.Option.{option_map}
use Rattle.hmc_units.specs.Unit.{UnitFields}
use Rattle.hmc_units.specs.declared.slot.Slot.{Slot}

-- the unit in a slot, if it has one
abbrev pub unit_in : {U : Type 0} → (meaning : U → UnitFields) → Slot U → Option UnitFields
unit_in meaning slot = option_map meaning slot.unit

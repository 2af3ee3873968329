-- Logic units as they are handed in.
use Rattle.std.specs.Prelude.{List, map, Option, Some}
use Rattle.hmc_units.specs.Unit.{UnitFields}

-- the unit at place i is in slot i
abbrev pub slots_of : {U : Type 0} → (meaning : U → UnitFields) → List U → List (Option UnitFields)
slots_of meaning units = map (λ unit. Some (meaning unit)) units

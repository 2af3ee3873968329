-- The logic units that the program has.
use Rattle.std.specs.Prelude.{List, [], ◌∷◌, Option, Some}
use Rattle.hmc_units.specs.Unit.{UnitFields}
use Rattle.hmc_units.specs.Shipped.{reverse_unit, stamp_unit}

-- slot 0 has a unit that reverses blocks, for cube 0 and code 0; slot 1 one that stamps them, for
-- cube 0 and code 1
abbrev pub shipped_slots : List (Option UnitFields)
shipped_slots = Some (reverse_unit 0 0) ∷ Some (stamp_unit 0 1 0) ∷ []

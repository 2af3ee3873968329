-- The slots so far, and those of the units that are left, are all.
use Rattle.std.proofs.Common.{◌≡◌, ◌++◌, Some, map}
use Rattle.std.specs.Vec.Iter.{into_iter_items}
use Rattle.hmc_units.specs.Slot.{unit_in}
use Rattle.hmc_units.proofs.slots.Slots.new.Given as goal

abbrev pub invariant-units : goal.invariant-units
invariant-units g l =
    map (unit_in g.U.LogicUnit.meaning) l.slots.items ++ map (λ unit. Some (g.U.LogicUnit.meaning unit)) (into_iter_items l.unit-iterator)
    ≡ map (λ unit. Some (g.U.LogicUnit.meaning unit)) l.fn.units.items

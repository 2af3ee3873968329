-- Each of the units so far is named by its numbers.
use Rattle.std.proofs.Common.{◌≡◌, take}
use Rattle.std.specs.Prelude.{map}
use Rattle.hmc_c.specs.Units.{slots_of}
use Rattle.hmc_c.proofs.Named.{in_slot}
use Rattle.hmc_c.proofs.units.units_of.Given as goal

abbrev pub invariant-named : goal.invariant-named
invariant-named l = map in_slot l.made.items ≡ slots_of (take l.unit-index l.units)

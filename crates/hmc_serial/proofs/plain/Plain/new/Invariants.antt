use Rattle.std.proofs.Common.{◌≡◌, take}
use Rattle.std.specs.List.{All}
use Rattle.hmc_serial.specs.Cube.{IsCube}
use Rattle.hmc_serial.specs.Machine.{openings_from}
use Rattle.hmc_serial.proofs.plain.Plain.new.Given as goal

abbrev pub invariant-loop-number : goal.invariant-loop-number
invariant-loop-number l = (l.cubes.items ≡ openings_from 0 (take l.number l.shapes)) × All IsCube l.cubes.items

use Rattle.std.proofs.Common.{◌≡◌}
use Rattle.std.specs.List.{flat_map}
use Rattle.hmc_schedule.specs.Round.{part_of}
use Rattle.hmc_codes.specs.Numbers.{upto}
use Rattle.hmc_schedule.proofs.round.each_cube.Given as goal

abbrev pub invariant-loop-cube : goal.invariant-loop-cube
invariant-loop-cube l = l.steps.items ≡ flat_map (part_of l.part l.plan) (upto l.cube)

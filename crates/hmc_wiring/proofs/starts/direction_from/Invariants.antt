use Rattle.std.proofs.Common.{◌≡◌, ◌*◌, drop}
use Rattle.hmc_routes.specs.Directions.{direction_among, direction_from}
use Rattle.hmc_wiring.proofs.starts.direction_from.Given as goal

-- what is found from the next join on is what is found from the first
abbrev pub invariant-loop-i : goal.invariant-loop-i
invariant-loop-i l = direction_among (2 * l.i) (drop l.i l.joins) l.place ≡ direction_from l.joins l.place

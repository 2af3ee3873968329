-- By what a new cube and a performed request leave.
use Rattle.hmc_serial.proofs.CubeLemmas.{IsCube-opening, IsCube-performed}
use Rattle.hmc_serial.proofs.laws.cubes_stay_cubes.Goals as goal

pub returns-clause-opening : goal.returns-clause-opening
returns-clause-opening c = IsCube-opening

pub returns-clause-performed : goal.returns-clause-performed
returns-clause-performed c = IsCube-performed

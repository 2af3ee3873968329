use Rattle.hmc_copies.proofs.Filling.{copies-are}
use Rattle.hmc_copies.proofs.laws.places_are_filled_with_copies.Goals as goal

pub returns : goal.returns
returns c = copies-are

use Rattle.hmc_copies.proofs.Places.{place-stays}
use Rattle.hmc_copies.proofs.laws.filled_places_stay.Goals as goal

pub returns : goal.returns
returns c = place-stays

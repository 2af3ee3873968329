-- In a queue that isn't there nothing stands.
use Rattle.hmc_laws.proofs.DrainedTest.{drained_by_test}
use Rattle.hmc_laws.proofs.laws.lawful_is_drained.Goals as goal

pub returns : goal.returns
returns c = drained_by_test

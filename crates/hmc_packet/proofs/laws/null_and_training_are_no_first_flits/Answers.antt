use Rattle.hmc_packet.proofs.ReadOf.{lng_of-null}
use Rattle.hmc_packet.proofs.LinkLemmas.{lng_of-training, training-not_null, read_of-training}
use Rattle.hmc_packet.proofs.laws.null_and_training_are_no_first_flits.Goals as goal

pub returns-clause-null : goal.returns-clause-null
returns-clause-null c = lng_of-null

pub returns-clause-training : goal.returns-clause-training
returns-clause-training c = lng_of-training

pub returns-clause-apart : goal.returns-clause-apart
returns-clause-apart c = training-not_null

pub returns-clause-bad : goal.returns-clause-bad
returns-clause-bad c = read_of-training

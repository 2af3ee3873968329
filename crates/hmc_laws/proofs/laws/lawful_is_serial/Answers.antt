-- By induction on the journal.
use Rattle.hmc_laws.proofs.Serial.{is_serial}
use Rattle.hmc_laws.proofs.laws.lawful_is_serial.Goals as goal

pub returns : goal.returns
returns c = is_serial

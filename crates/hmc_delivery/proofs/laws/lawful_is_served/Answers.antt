-- A lawful journal was lawful at every moment.
use Rattle.hmc_journal.proofs.OneJournal.{earlier_lawful}
use Rattle.hmc_laws.proofs.Serial.{is_serial}
use Rattle.hmc_delivery.proofs.Delivering.{delivered_in_order}
use Rattle.hmc_delivery.proofs.laws.lawful_is_served.Goals as goal

pub returns-clause-serial : goal.returns-clause-serial
returns-clause-serial c = λ setup later past lawful. is_serial setup past (earlier_lawful setup later past lawful)

pub returns-clause-delivered : goal.returns-clause-delivered
returns-clause-delivered c = λ setup later past network lawful. delivered_in_order setup past network (earlier_lawful setup later past lawful)

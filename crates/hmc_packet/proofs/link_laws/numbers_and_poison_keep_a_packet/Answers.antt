use Rattle.hmc_packet.proofs.PacketLemmas.{IsPacket-numbered, IsPacket-poisoned}
use Rattle.hmc_packet.proofs.link_laws.numbers_and_poison_keep_a_packet.Goals as goal

pub returns-clause-numbered : goal.returns-clause-numbered
returns-clause-numbered c = IsPacket-numbered

pub returns-clause-poisoned : goal.returns-clause-poisoned
returns-clause-poisoned c = IsPacket-poisoned

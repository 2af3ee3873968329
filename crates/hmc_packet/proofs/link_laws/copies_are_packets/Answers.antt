use Rattle.hmc_packet.proofs.CopyLemmas.{copied-IsPacket, copied-flits, copied-flits_before}
use Rattle.hmc_packet.proofs.link_laws.copies_are_packets.Goals as goal

pub returns-clause-packet : goal.returns-clause-packet
returns-clause-packet c = copied-IsPacket

pub returns-clause-flits : goal.returns-clause-flits
returns-clause-flits c = copied-flits

pub returns-clause-front : goal.returns-clause-front
returns-clause-front c = copied-flits_before

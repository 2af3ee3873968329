-- By the tests of plain numbers.
use Rattle.hmc_codec.proofs.Packets.{named_back, packet_of_named, spelled_back}
use Rattle.hmc_codec.proofs.laws.plain_packets_come_back.Goals as goal

pub returns-clause-named : goal.returns-clause-named
returns-clause-named c = named_back

pub returns-clause-spelled : goal.returns-clause-spelled
returns-clause-spelled c = spelled_back

pub returns-clause-packets : goal.returns-clause-packets
returns-clause-packets c = packet_of_named

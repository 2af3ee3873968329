use Rattle.hmc_packet.proofs.TransactionLemmas.{IsPacket-reply_packet, answer_in-reply_packet}
use Rattle.hmc_packet.proofs.laws.answer_comes_back.Goals as goal

pub returns-clause-packet : goal.returns-clause-packet
returns-clause-packet c = IsPacket-reply_packet

pub returns-clause-answer : goal.returns-clause-answer
returns-clause-answer c = answer_in-reply_packet

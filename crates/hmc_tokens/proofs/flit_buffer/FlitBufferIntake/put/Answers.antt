-- A packet whose flits have room comes in.
use Rattle.hmc_tokens.proofs.FlitLemmas.{room_for_packet, within_with_one_more}
use Rattle.hmc_tokens.proofs.flit_buffer.FlitBufferIntake.put.Goals as goal

pub push_back-requires : goal.push_back-requires
push_back-requires c = room_for_packet _ c.args.packet.now _ c.requires

pub invariant_of-self : goal.invariant_of-self
invariant_of-self c = record { within = within_with_one_more _ _ _ _ _ c.push_back.ensures.packets c.push_back.ensures.most c.requires }

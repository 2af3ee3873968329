use Rattle.std.proofs.Common.{subst}
use Rattle.hmc_codes.specs.declared.answer.Answer.TheVariants.{Done, Read, Stored, Refused}
use Rattle.hmc_codes.specs.Answer.{CanReply}
use Rattle.hmc_packet.specs.Transactions.{reply_packet}
use Rattle.hmc_packet.proofs.TransactionLemmas.{IsPacket-register, IsPacket-reply_packet}
use Rattle.hmc_packet.proofs.answer.reply.Goals as goal

pub bare_response-requires : goal.bare_response-requires
unfolding reply_packet
bare_response-requires c = IsPacket-reply_packet (Done c.in-Done.flag) c.args.tag c.args.slid c.args.cube tt tt c.requires.tag c.requires.slid c.requires.cube

pub response-requires : goal.response-requires
unfolding reply_packet
response-requires c =
    λ bytes. IsPacket-reply_packet (Read c.in-Read.flag c.in-Read.payload) c.args.tag c.args.slid c.args.cube (subst CanReply c.in-Read.is c.requires.answer) bytes c.requires.tag c.requires.slid c.requires.cube

pub register_response-requires : goal.register_response-requires
unfolding reply_packet
register_response-requires c = IsPacket-register c.in-Register.value c.args.tag c.args.slid c.args.cube c.requires.tag c.requires.slid c.requires.cube

pub bare_response-requires-in-Stored : goal.bare_response-requires-in-Stored
unfolding reply_packet
bare_response-requires-in-Stored c = IsPacket-reply_packet Stored c.args.tag c.args.slid c.args.cube tt tt c.requires.tag c.requires.slid c.requires.cube

pub bare_response-requires-in-Refused : goal.bare_response-requires-in-Refused
unfolding reply_packet
bare_response-requires-in-Refused c =
    IsPacket-reply_packet (Refused c.in-Refused.errstat) c.args.tag c.args.slid c.args.cube (subst CanReply c.in-Refused.is c.requires.answer) tt c.requires.tag c.requires.slid c.requires.cube

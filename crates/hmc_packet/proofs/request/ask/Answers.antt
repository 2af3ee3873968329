use Rattle.hmc_packet.specs.Transactions.{request_packet}
use Rattle.hmc_packet.proofs.TransactionLemmas.{IsPacket-request_packet}
use Rattle.hmc_packet.proofs.request.ask.Goals as goal

pub invariant_of-result : goal.invariant_of-result
unfolding request_packet
invariant_of-result c =
    let r = c.request.inside in
    IsPacket-request_packet (record { command = r.command; cube = r.cube; address = r.address; payload = r.payload }) c.args.tag c.args.slid c.args.poisoned c.request.invariant c.requires.tag c.requires.slid

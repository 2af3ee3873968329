use Rattle.hmc_packet.proofs.TransactionLemmas.{register_payload}
use Rattle.hmc_packet.proofs.answer.answer_in.Goals as goal

pub value_in-requires : goal.value_in-requires
value_in-requires c =
    let p = c.packet.inside in
    register_payload (record { command = p.command; tag = p.tag; address = p.address; cube = p.cube; slid = p.slid; flag = p.flag; errstat = p.errstat; rtc = p.rtc; seq = p.seq; frp = p.frp; poisoned = p.poisoned; payload = p.payload }) c.packet.invariant c.in-MdRdRs.is

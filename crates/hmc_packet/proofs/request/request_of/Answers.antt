use Rattle.std.proofs.Common.{List, ℕ, sym, subst}
use Rattle.hmc_codes.specs.Request.{IsRequest}
use Rattle.hmc_packet.proofs.TransactionLemmas.{mdwr_payload, IsRequest-request}
use Rattle.hmc_packet.proofs.request.request_of.Goals as goal

pub payload_of-requires : goal.payload_of-requires
payload_of-requires c =
    let p = c.packet.inside in
    mdwr_payload
    (record { command = p.command; tag = p.tag; address = p.address; cube = p.cube; slid = p.slid; flag = p.flag; errstat = p.errstat; rtc = p.rtc; seq = p.seq; frp = p.frp; poisoned = p.poisoned; payload = p.payload })
    c.packet.invariant (sym c.in-Ask.ensures)

pub invariant_of-result : goal.invariant_of-result
invariant_of-result c =
    let p = c.packet.inside in
    subst (λ (bytes : List ℕ). IsRequest (record { command = p.command; cube = p.cube; address = p.address; payload = bytes })) (sym c.payload_of.ensures)
    (IsRequest-request
    (record { command = p.command; tag = p.tag; address = p.address; cube = p.cube; slid = p.slid; flag = p.flag; errstat = p.errstat; rtc = p.rtc; seq = p.seq; frp = p.frp; poisoned = p.poisoned; payload = p.payload })
    c.packet.invariant (sym c.in-Ask.ensures))

use Rattle.std.proofs.Common.{◌<◌, ap, sym, subst}
use Rattle.hmc_packet.specs.declared.header.Header.{Header}
use Rattle.hmc_packet.proofs.HeaderLemmas.{IsHeader-of}
use Rattle.hmc_send.proofs.CopyLemmas.{IsPacket-made, slid-few}
use Rattle.hmc_send.proofs.copy.packet_from.Goals as goal

pub invariant_of-result : goal.invariant_of-result
invariant_of-result c =
    let l = c.layout-layout.result in
    let h = c.unpack-header.result in
    let e = c.unpack-header.ensures in
    let few = subst (λ (t : Header). t.slid < 8) (sym e) (IsHeader-of l c.args.word).slid in
    IsPacket-made l c.args.command c.args.word h.tag h.address h.cube c.slid_of.result c.args.errstat h.flag c.args.poisoned c.args.numbers c.args.payload c.layout-layout.ensures c.requires.no_flow
    (ap (λ (t : Header). t.tag) e) (ap (λ (t : Header). t.address) e) (ap (λ (t : Header). t.flag) e) (ap (λ (t : Header). t.cube) e)
    (slid-few l h c.args.slid c.slid_of.result c.slid_of.ensures few c.requires.slid) c.requires.errstat c.requires.ask c.requires.numbers c.requires.filled

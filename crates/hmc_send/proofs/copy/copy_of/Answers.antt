use Rattle.std.proofs.Common.{◌≡◌, ◌∙◌, suc, not, [], length, drop, get_or, Some, ap, sym, subst}
use Rattle.hmc_codes.specs.declared.layout.Layout.{Layout}
use Rattle.hmc_packet.specs.declared.head.Head.{Head}
use Rattle.hmc_packet.specs.Packet.{flits_of}
use Rattle.hmc_send.specs.Copies.{errstat_for}
use Rattle.hmc_send.specs.Kept.{CanBeSent}
use Rattle.hmc_send.proofs.CopyLemmas.{head-says, copy-made, payload-filled, sendable-made, flits-made}
use Rattle.hmc_send.proofs.copy.copy_of.Goals as goal

pub packet_from-requires-clause-no_flow : goal.packet_from-requires-clause-no_flow
packet_from-requires-clause-no_flow c = (head-says (get_or c.args.front.now 0 []) c.in-Some.head c.in-Some.ensures).no_flow

pub packet_from-requires-clause-filled : goal.packet_from-requires-clause-filled
packet_from-requires-clause-filled c =
    let says = head-says (get_or c.args.front.now 0 []) c.in-Some.head c.in-Some.ensures in
    let same : Some c.in-Some.head ≡ Some c.requires.head.head = c.in-Some.ensures ∙ c.requires.head.reads in
    let head : c.in-Some.head ≡ c.requires.head.head = cc in
    let flits : c.in-Some.head.flits ≡ suc (length c.args.front.now) = ap (λ (h : Head). h.flits) head ∙ c.requires.head.length in
    let filled = payload-filled c.in-Some.head c.args.front.now c.payload_of.result c.joined-bytes.result.items says.allowed flits c.joined-bytes.ensures.len c.payload_of.ensures.payload in
    record { bytes = c.payload_of.ensures.are_bytes; whole = filled.0.0; allowed = filled.0.1 }

pub returns-clause-packet : goal.returns-clause-packet
returns-clause-packet c =
    let h = c.in-Some.head in
    c.packet_from.ensures
    ∙ copy-made c.args.profile c.args.front.now c.args.half.now c.args.slid c.args.errstat c.args.good c.args.numbers h c.header_in-word.result c.errstat_for-errstat.result c.payload_of.result c.requires.some
    (c.told-front 0 c.requires.some) c.in-Some.ensures c.header_in-word.ensures
    (c.errstat_for-errstat.ensures.value ∙ ap (λ (l : Layout). errstat_for c.args.profile l c.args.errstat) c.layout.ensures)
    (c.payload_of.ensures.payload ∙ ap (drop 8) c.joined-bytes.ensures.bytes)

pub returns-clause-flits : goal.returns-clause-flits
returns-clause-flits c =
    let h = c.in-Some.head in
    let says = head-says (get_or c.args.front.now 0 []) h c.in-Some.ensures in
    let same : Some h ≡ Some c.requires.head.head = c.in-Some.ensures ∙ c.requires.head.reads in
    let head : h ≡ c.requires.head.head = cc in
    let flits : h.flits ≡ suc (length c.args.front.now) = ap (λ (h : Head). h.flits) head ∙ c.requires.head.length in
    let filled = payload-filled h c.args.front.now c.payload_of.result c.joined-bytes.result.items says.allowed flits c.joined-bytes.ensures.len c.payload_of.ensures.payload in
    ap flits_of c.packet_from.ensures
    ∙ flits-made h.command c.header_in-word.result c.args.slid c.errstat_for-errstat.result (not c.args.good) c.args.numbers c.payload_of.result (suc (length c.args.front.now)) filled.1

pub returns-clause-fits : goal.returns-clause-fits
returns-clause-fits c =
    let h = c.in-Some.head in
    let says = head-says (get_or c.args.front.now 0 []) h c.in-Some.ensures in
    subst (CanBeSent c.args.profile) (sym c.packet_from.ensures)
    (sendable-made c.args.profile h.command c.header_in-word.result c.args.slid c.errstat_for-errstat.result (not c.args.good) c.args.numbers c.payload_of.result says.no_flow c.errstat_for-errstat.ensures.fits c.requires.forward)

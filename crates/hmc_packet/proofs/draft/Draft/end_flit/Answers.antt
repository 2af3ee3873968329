use Rattle.std.proofs.Common.{◌≡◌, ◌*◌, ◌/◌, ◌++◌, length, take, drop, ◌∙◌, ap, subst, arith}
use Rattle.std.specs.Prelude.{if◌then◌else◌}
use Rattle.hmc_packet.specs.Draft.{front_bytes}
use Rattle.hmc_packet.specs.Packet.{PacketFields, IsPacket}
use Rattle.hmc_packet.specs.Spelling.{word_bytes, half_bytes, inverse}
use Rattle.hmc_packet.proofs.DraftLemmas.{front_from, check_from_draft, check-is}
use Rattle.hmc_packet.proofs.draft.Draft.end_flit.Goals as goal

pub returns : goal.returns
returns c =
    let p = c.args.packet.now in
    let is = subst IsPacket c.packet.view_is c.packet.invariant in
    let whole = is.payload.whole in
    let payload : c.as_slice-payload.result.now ≡ p.payload = c.as_slice-payload.ensures.bytes ∙ ap (λ (q : PacketFields). q.payload) c.packet.view_is in
    let front : word_bytes c.args.self.now.header ++ c.as_slice-payload.result.now ≡ front_bytes p =
    front_from c.args.self.now p c.as_slice-payload.result.now c.requires.draft payload in
    let at : 8 * (length c.as_slice-payload.result.now / 8) ≡ length p.payload = ap (λ l. 8 * (length l / 8)) payload ∙ omega arith in
    let right = c.crc_update.result in
    let check = c.carried_check-check.ensures ∙ ap (λ (q : PacketFields). if q.poisoned then inverse right else right) c.packet.view_is ∙ check-is c.args.profile p c.args.rrp c.crc_update.result c.tail_bytes-tail.result c.tail_bytes-tail.ensures (c.crc_update.ensures.joined (front_bytes p) (check_from_draft c.args.self.now p c.requires.draft)) in
    c.flit_of_halves.ensures
    ∙ (λ i. (c.eight_bytes.ensures ∙ (λ j. take 8 (drop (at j) (front j)))) i
    ++ (c.bytes_of_halves.ensures ∙ (λ j. c.tail_bytes-tail.ensures j ++ (c.bytes_of_half.ensures ∙ ap half_bytes check) j)) i)

use Rattle.std.proofs.Common.{◌≡◌, ◌*◌, ◌+◌, ◌++◌, take, drop, ◌∙◌, ap, subst}
use Rattle.hmc_packet.specs.Draft.{front_bytes}
use Rattle.hmc_packet.specs.Packet.{PacketFields, IsPacket}
use Rattle.hmc_packet.specs.Spelling.{word_bytes}
use Rattle.hmc_packet.proofs.DraftLemmas.{two_eights, front-at, front_from}
use Rattle.hmc_packet.proofs.draft.Draft.front_flit.Goals as goal

pub returns : goal.returns
returns c = λ profile rrp.
    let p = c.args.packet.now in
    let is = subst IsPacket c.packet.view_is c.packet.invariant in
    let front : word_bytes c.args.self.now.header ++ c.as_slice-payload.result.now ≡ front_bytes p =
    front_from c.args.self.now p c.as_slice-payload.result.now c.requires.draft (c.as_slice-payload.ensures.bytes ∙ ap (λ (q : PacketFields). q.payload) c.packet.view_is) in
    c.flit_of_halves.ensures
    ∙ (λ i. (c.eight_bytes.ensures ∙ (λ j. take 8 (drop (8 * (2 * c.from-at.ensures j)) (front j)))) i ++ (c.eight_bytes-2.ensures ∙ (λ j. take 8 (drop (8 * (2 * c.from-at.ensures j + 1)) (front j)))) i)
    ∙ two_eights c.args.at (front_bytes p)
    ∙ front-at profile p rrp c.args.at is c.requires.before_last

-- The copy that was appended is the one that gets the numbers.
use Rattle.std.proofs.Common.{◌≡◌, ◌∙◌, [], ◌∷◌, ◌++◌, Some, ap}
use Rattle.std.specs.Prelude.{slice_get, slice_set}
use Rattle.hmc_packet.specs.Packet.{PacketFields}
use Rattle.hmc_retry.specs.RetryBuffer.{numbered}
use Rattle.hmc_retry.proofs.Appended.{set_last, get_last}
use Rattle.hmc_retry.proofs.buffer.append_numbered.Goals as goal

pub returns-in-Some-clause-items : goal.returns-in-Some-clause-items
returns-in-Some-clause-items c =
    let old = c.args.ring.now.items in
    let there : Some c.in-Some.kept.now ≡ Some c.args.packet.now = c.in-Some.ensures.value ∙ (λ i. slice_get (c.append.ensures.items i) (c.len-place.ensures.len i)) ∙ get_last old c.args.packet.now in
    let kept : c.in-Some.kept.now ≡ c.args.packet.now = cc in
    (λ i. slice_set (c.append.ensures.items i) (c.len-place.ensures.len i) (c.renumber.ensures i))
    ∙ set_last old c.args.packet.now (numbered c.args.rtc c.args.seq c.args.frp c.in-Some.kept.now)
    ∙ ap (λ (p : PacketFields). old ++ numbered c.args.rtc c.args.seq c.args.frp p ∷ []) kept

pub returns-in_default-clause-items : goal.returns-in_default-clause-items
returns-in_default-clause-items c =
    let there = (λ i. slice_get (c.append.ensures.items i) (c.len-place.ensures.len i)) ∙ get_last c.args.ring.now.items c.args.packet.now in
    absurd (cc (c.in_default.ensures.value, there))

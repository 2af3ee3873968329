use Rattle.std.proofs.Common.{◌∙◌, ◌<◌, ℕ, List, length, ap, arith}
use Rattle.std.specs.Prelude.{slice_set, slice_index, bit_xor}
use Rattle.hmc_packet.proofs.MaskLemmas.{byte-more}
use Rattle.hmc_packet.proofs.masks.inverted.Goals as goal

pub loop-i-preserved : goal.loop-i-preserved
loop-i-preserved c =
    let mask = c.args.mask.now in
    let flit = c.args.flit.now in
    let in_mask : c.loop-i.i < length mask = omega (arith, c.told-mask, c.loop-i-test.true) in
    let in_flit : c.loop-i.i < length flit = omega (arith, c.told-flit, c.loop-i-test.true) in
    ap (λ (l : List ℕ). slice_set l c.loop-i.i (bit_xor (slice_index mask c.loop-i.i) (slice_index flit c.loop-i.i))) c.loop-i.invariant ∙ byte-more mask flit c.loop-i.i in_mask in_flit

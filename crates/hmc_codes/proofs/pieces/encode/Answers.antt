-- Two digits more are written for each byte.
use Rattle.std.proofs.Common.{◌∙◌, ◌+◌, ◌*◌}
use Rattle.std.specs.Prelude.{slice_set}
use Rattle.hmc_codes.proofs.Pairs.{pair_more, nothing_written}
use Rattle.hmc_codes.proofs.pieces.encode.Goals as goal

pub bytes-init : goal.bytes-init
bytes-init c = nothing_written c.args.digits.now

pub bytes-preserved : goal.bytes-preserved
bytes-preserved c =
    (λ i. slice_set (slice_set (c.bytes.invariant i) (2 * c.bytes.at) (c.digit_pair-pair.ensures.first i)) (2 * c.bytes.at + 1) (c.digit_pair-pair.ensures.second i))
    ∙ pair_more c.args.bytes.now c.args.digits.now c.bytes.at c.bytes-test.true c.requires

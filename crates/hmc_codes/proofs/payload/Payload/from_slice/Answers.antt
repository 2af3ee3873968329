use Rattle.std.proofs.Common.{◌∙◌, length, take, ap, sym, arith}
use Rattle.hmc_codes.specs.Bytes.{padded_bytes}
use Rattle.hmc_codes.specs.Padding.{take-padded}
use Rattle.hmc_codes.proofs.payload.Payload.from_slice.Goals as goal

pub returns-clause-bytes : goal.returns-clause-bytes
returns-clause-bytes c =
    ap (take (length c.args.bytes.now)) c.array_of.ensures.bytes ∙ take-padded 256 c.args.bytes.now

pub invariant_of-result : goal.invariant_of-result
invariant_of-result c =
    let front = ap (take (length c.args.bytes.now)) c.array_of.ensures.bytes ∙ take-padded 256 c.args.bytes.now in
    (omega arith, c.array_of.ensures.bytes ∙ ap (padded_bytes 256) (sym front), c.array_of.ensures.are_bytes)

use Rattle.std.proofs.Common.{arith, subst, sym}
use Rattle.hmc_codes.specs.Bytes.{IsBytes}
use Rattle.hmc_codes.proofs.BytesLemmas.{padded_by_copy, IsBytes-padded}
use Rattle.hmc_codes.proofs.payload.array_of.Goals as goal

pub returns-clause-bytes : goal.returns-clause-bytes
returns-clause-bytes c = padded_by_copy 256 c.args.bytes.now _ c.copy_from_slice.ensures.after

pub returns-clause-are_bytes : goal.returns-clause-are_bytes
returns-clause-are_bytes c =
    subst IsBytes (sym (padded_by_copy 256 c.args.bytes.now _ c.copy_from_slice.ensures.after))
    (IsBytes-padded 256 c.args.bytes.now (λ k. omega (arith, c.type_inv.bytes k)))

use Rattle.std.proofs.Common.{arith, ap, length, length-take, drop}
use Rattle.hmc_codes.specs.Commands.{payload_len_of}
use Rattle.hmc_script.proofs.PayloadLemmas.{payload_len_of-le}
use Rattle.hmc_script.proofs.stored.payload_of.Goals as goal

pub unwrap-requires : goal.unwrap-requires
unwrap-requires c =
    let few = payload_len_of-le c.args.short.now.command in
    let len = payload_len_of c.args.short.now.command in
    c.from_slice.ensures.fits.1 (omega (arith, ap length c.payload_bytes.ensures, length-take len (drop c.args.short.now.start c.args.bytes.now), few))

-- The highest bits and the byte are one entry's byte.
use Rattle.std.proofs.Common.{ℕ, ◌/◌, ◌<◌, ◌^◌, refl, arith}
use Rattle.std.specs.Int.Bits.{bit_xor}
use Rattle.std.proofs.lemmas.Nat.{xor_of_8}
use Rattle.hmc_crc.proofs.TableLemmas.{eight_steps_at_once}
use Rattle.hmc_crc.proofs.table.with_byte.Goals as goal

pub returns : goal.returns
returns c =
    let highest : ℕ = bit_xor (c.args.register / 2 ^ 24) c.args.byte in
    let small : highest < 256 = xor_of_8 (c.args.register / 2 ^ 24) c.args.byte (omega arith) (omega arith) in
    eight_steps_at_once c.args.register c.args.byte highest c.remainder_of.result refl small c.remainder_of.ensures

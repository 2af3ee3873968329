-- Each byte of the sum is one entry's byte.
use Rattle.std.proofs.Common.{refl, arith}
use Rattle.std.specs.Int.Bits.{bit_xor}
use Rattle.std.proofs.lemmas.Nat.{xor_of_32}
use Rattle.hmc_crc.proofs.WordLemmas.{word_at_once}
use Rattle.hmc_crc.proofs.word.with_word.Goals as goal

pub returns : goal.returns
returns c =
    word_at_once c.args.register c.args.word (bit_xor c.args.register c.args.word)
    c.before_three.result c.before_two.result c.before_one.result c.remainder_of.result
    refl (xor_of_32 c.args.register c.args.word (omega arith) (omega arith)) c.before_three.ensures c.before_two.ensures c.before_one.ensures c.remainder_of.ensures

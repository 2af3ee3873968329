-- The word's bytes are those that it is made of.
use Rattle.std.proofs.Common.{◌+◌, ℕ, get_or}
use Rattle.hmc_crc.proofs.WordLemmas.{bits_of_word}
use Rattle.hmc_crc.proofs.word.word_at.Goals as goal

pub returns : goal.returns
returns c =
    let byte : ℕ → ℕ = λ i. get_or c.args.bytes.now i 0 in
    bits_of_word (byte c.args.at) (byte (c.args.at + 1)) (byte (c.args.at + 2)) (byte (c.args.at + 3)) c.from_be_bytes.result
    (c.type_inv.bytes (c.args.at + 1)).fits (c.type_inv.bytes (c.args.at + 2)).fits (c.type_inv.bytes (c.args.at + 3)).fits c.from_be_bytes.ensures

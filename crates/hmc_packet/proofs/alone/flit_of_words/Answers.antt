use Rattle.std.proofs.Common.{◌∙◌, ◌++◌, ap, List, ℕ}
use Rattle.hmc_crc.specs.Remainder.{crc_of}
use Rattle.hmc_packet.specs.Spelling.{word_bytes, half_bytes}
use Rattle.hmc_packet.proofs.alone.flit_of_words.Goals as goal

pub returns : goal.returns
returns c =
    let header = word_bytes c.args.header in
    let tail = c.bytes_of_half-tail.ensures in
    let check = c.bytes_of_half-check.ensures ∙ ap half_bytes (c.crc_update.ensures.joined header c.requires ∙ ap (λ (t : List ℕ). crc_of (header ++ t)) tail) in
    c.flit_of_halves.ensures
    ∙ (λ i. c.bytes_of_word.ensures i ++ (c.bytes_of_halves.ensures ∙ (λ j. tail j ++ check j)) i)

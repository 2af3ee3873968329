use Rattle.std.proofs.Common.{◌∙◌, ◌++◌, sym, ap, ℕ}
use Rattle.hmc_crc.specs.Remainder.{crc_of}
use Rattle.hmc_packet.specs.Pret.{pret_header}
use Rattle.hmc_packet.specs.Spelling.{word_bytes, half_bytes}
use Rattle.hmc_packet.proofs.AloneLemmas.{pret_check, pret_flit-is}
use Rattle.hmc_packet.proofs.alone.pret_flit.Goals as goal

pub flit_of_words-requires : goal.flit_of_words-requires
flit_of_words-requires c = sym pret_check

pub returns : goal.returns
returns c =
    c.flit_of_words.ensures
    ∙ ap (λ (n : ℕ). word_bytes pret_header ++ (half_bytes n ++ half_bytes (crc_of (word_bytes pret_header ++ half_bytes n)))) c.from.ensures
    ∙ pret_flit-is c.args.profile c.args.rrp

use Rattle.std.proofs.Common.{◌∙◌, sym}
use Rattle.hmc_packet.proofs.AloneLemmas.{irtry_in-other}
use Rattle.hmc_packet.proofs.PartLemmas.{word_of-lt}
use Rattle.hmc_codes.proofs.BytesLemmas.{IsBytes-take}
use Rattle.hmc_packet.proofs.alone.irtry_in.Goals as goal

pub returns-else-header_in-eq-IRTRY_HEADER : goal.returns-else-header_in-eq-IRTRY_HEADER
returns-else-header_in-eq-IRTRY_HEADER c =
    sym (irtry_in-other c.args.profile c.args.flit.now (word_of-lt _ (IsBytes-take 8 c.args.flit.now c.fits-flit)) (λ is. c.if-header_in-eq-IRTRY_HEADER.false (c.header_in.ensures ∙ is)))

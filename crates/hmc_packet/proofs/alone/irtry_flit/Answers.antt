use Rattle.std.proofs.Common.{◌∙◌, sym}
use Rattle.hmc_packet.proofs.AloneLemmas.{irtry_flit-is, irtry_check}
use Rattle.hmc_packet.proofs.alone.irtry_flit.Goals as goal

pub flit_of_words-requires : goal.flit_of_words-requires
flit_of_words-requires c = sym irtry_check

pub returns : goal.returns
returns c =
    c.flit_of_words.ensures ∙ irtry_flit-is c.args.profile c.args.kind c.args.rrp _ c.irtry_tail.ensures

use Rattle.std.proofs.Common.{◌∙◌, drop, ap, arith}
use Rattle.hmc_packet.specs.Parts.{lng_of}
use Rattle.hmc_packet.specs.Spelling.{spelling}
use Rattle.hmc_send.specs.Places.{flit_of}
use Rattle.hmc_send.proofs.KeptLemmas.{cons-first, FitsProfile-of}
use Rattle.hmc_send.proofs.under_way.first_flit.Goals as goal

pub returns-clause-lng : goal.returns-clause-lng
unfolding flit_of
returns-clause-lng c =
    let p = c.args.packet.now in
    let flits = spelling c.args.profile p c.args.rrp in
    let laws = c.spelling_is_as_long_as_its_packet.ensures in
    let len = laws.length c.args.profile p c.args.rrp c.invariant.ensures in
    let some = laws.some p c.invariant.ensures in
    ap lng_of c.drafted_flit.ensures
    ∙ c.first_flit_names_length_and_command.ensures.lng c.args.profile p c.args.rrp (flit_of c.args.profile p c.args.rrp 0) (drop 1 flits)
    (record { packet = c.invariant.ensures; pointer = FitsProfile-of c.args.profile p c.args.rrp c.requires.fits c.requires.rrp; flits = cons-first flits (omega arith) }) c.requires.fits.other

use Rattle.std.proofs.Common.{◌∙◌, ap, nat_eq, take}
use Rattle.hmc_crc.specs.Remainder.{crc_of}
use Rattle.hmc_packet.proofs.AloneLemmas.{checked_front, covered_twelve}
use Rattle.hmc_packet.proofs.alone.is_checked.Goals as goal

pub returns : goal.returns
returns c =
    let flit = c.args.flit.now in
    let right = c.crc_update.ensures.joined (take 8 flit) (checked_front flit c.told-flit c.fits-flit c.requires) ∙ ap crc_of (covered_twelve flit c.told-flit) in
    λ i. nat_eq (c.check_in.ensures i) (right i)

-- A zero mask leaves the flit as it is.
use Rattle.std.proofs.Common.{sym}
use Rattle.hmc_packet.proofs.MaskLemmas.{zero-mask}
use Rattle.hmc_packet.proofs.masks.under_mask.Goals as goal

pub returns-then-is_null : goal.returns-then-is_null
returns-then-is_null c = sym (zero-mask c.args.mask.now c.args.flit.now (c.is_null.ensures.zeros.0 c.if-is_null.true) c.told-flit)

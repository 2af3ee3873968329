use Rattle.hmc_packet.proofs.AloneLemmas.{irtry_in-flit, irtry-spelling, irtry_in-first, irtry_in-null, irtry_in-training}
use Rattle.hmc_packet.proofs.link_laws.irtry_is_read_alone.Goals as goal

pub returns-clause-irtry : goal.returns-clause-irtry
returns-clause-irtry c = irtry_in-flit

pub returns-clause-spelled : goal.returns-clause-spelled
returns-clause-spelled c = irtry-spelling

pub returns-clause-first : goal.returns-clause-first
returns-clause-first c = irtry_in-first

pub returns-clause-null : goal.returns-clause-null
returns-clause-null c = irtry_in-null

pub returns-clause-training : goal.returns-clause-training
returns-clause-training c = irtry_in-training

use Rattle.hmc_packet.proofs.GrowLemmas.{grown-front, grown-whole}
use Rattle.hmc_packet.proofs.link_laws.flits_in_order_are_a_spelling.Goals as goal

pub returns-clause-front : goal.returns-clause-front
returns-clause-front c = grown-front

pub returns-clause-whole : goal.returns-clause-whole
returns-clause-whole c = grown-whole

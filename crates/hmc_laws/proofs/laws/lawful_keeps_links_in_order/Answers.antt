-- By the law of one wire.
use Rattle.hmc_laws.proofs.LinksKept.{links_in_order}
use Rattle.hmc_laws.proofs.laws.lawful_keeps_links_in_order.Goals as goal

pub returns : goal.returns
returns c = links_in_order

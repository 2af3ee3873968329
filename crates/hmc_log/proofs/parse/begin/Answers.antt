-- Nothing was read.
use Rattle.hmc_log.proofs.Noting.{Knows-nothing}
use Rattle.hmc_log.proofs.parse.begin.Goals as goal

pub returns-clause-kept : goal.returns-clause-kept
returns-clause-kept c =
    rw c.in-Ok.ensures.items
    (Knows-nothing c.new.result c.new.ensures.out c.new.ensures.given c.new.ensures.retired)

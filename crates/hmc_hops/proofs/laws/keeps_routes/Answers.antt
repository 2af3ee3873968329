use Rattle.hmc_hops.proofs.OnRoute.{on_way}
use Rattle.hmc_hops.proofs.PhaseSteps.{all_at_host}
use Rattle.hmc_hops.proofs.laws.keeps_routes.Goals as goal

pub returns : goal.returns
returns c = record { on_way = on_way; at_host = all_at_host }

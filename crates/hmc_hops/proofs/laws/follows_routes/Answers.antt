use Rattle.hmc_hops.proofs.GraphRoutes.{requests_go, answers_go}
use Rattle.hmc_hops.proofs.laws.follows_routes.Goals as goal

pub returns : goal.returns
returns c = record { requests = requests_go; answers = answers_go }

use Rattle.hmc_wire.proofs.TokenFacts.{token-laws}
use Rattle.hmc_wire.proofs.laws.tokens_add_up.Goals as goal

pub returns : goal.returns
returns c = token-laws

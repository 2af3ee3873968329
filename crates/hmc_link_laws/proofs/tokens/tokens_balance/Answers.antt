use Rattle.hmc_link_laws.proofs.Balance.{balance}
use Rattle.hmc_link_laws.proofs.tokens.tokens_balance.Goals as goal

pub returns : goal.returns
returns c = balance

use Rattle.std.proofs.Common.{rules}
use Rattle.hmc_case.proofs.KeysLemmas.{count_of-view}
use Rattle.hmc_case.proofs.keys.count_of.Goals as goal

pub returns-clause-value : goal.returns-clause-value
returns-clause-value c = rw (count_of-view c.args.items.now.items) (search rules)

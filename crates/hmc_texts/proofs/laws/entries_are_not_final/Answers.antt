-- By the first four letters.
use Rattle.hmc_texts.proofs.Apart.{not_final}
use Rattle.hmc_texts.proofs.laws.entries_are_not_final.Goals as goal

pub returns : goal.returns
returns c = not_final

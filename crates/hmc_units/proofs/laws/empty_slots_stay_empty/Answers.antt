-- By what a retirement and a work leave of an empty slot.
use Rattle.hmc_units.proofs.EmptyLemmas.{retired_empty, worked_empty, others_empty}
use Rattle.hmc_units.proofs.laws.empty_slots_stay_empty.Goals as goal

pub returns-clause-retired : goal.returns-clause-retired
returns-clause-retired c = retired_empty

pub returns-clause-worked : goal.returns-clause-worked
returns-clause-worked c = worked_empty

pub returns-clause-others : goal.returns-clause-others
returns-clause-others c = others_empty

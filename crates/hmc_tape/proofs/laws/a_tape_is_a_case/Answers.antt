use Rattle.hmc_tape.proofs.TapeLaw.{tape_is_case}
use Rattle.hmc_tape.proofs.laws.a_tape_is_a_case.Goals as goal

pub returns : goal.returns
returns c = tape_is_case

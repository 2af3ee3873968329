use Rattle.std.proofs.Common.{string_bytes}
use Rattle.std.specs.Prelude.{map}
use Rattle.hmc_main.proofs.WithoutUnits.{memory_completes}
use Rattle.hmc_main.proofs.replay_words.Goals as goal

pub returns-in-Err-clause-complete : goal.returns-in-Err-clause-complete
returns-in-Err-clause-complete g c = memory_completes (map string_bytes c.args.words.now) _ _ c.without_units.ensures.form

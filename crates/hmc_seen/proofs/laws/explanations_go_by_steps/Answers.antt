use Rattle.hmc_seen.proofs.Stepping.{moments_of, steps_of}
use Rattle.hmc_seen.proofs.laws.explanations_go_by_steps.Goals as goal

pub returns : goal.returns
returns c = record {
  steps = steps_of;
  moments = λ topology journal later past steps parts.
      moments_of topology journal steps later past parts;
}

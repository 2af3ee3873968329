use Rattle.hmc_hops.proofs.PhaseSteps.{has_phase, is_answered, all_answered}
use Rattle.hmc_hops.proofs.laws.answers_each_tag.Goals as goal

pub returns : goal.returns
returns c =
    record {
      phase = λ m past h t map lawful tags. has_phase m map past lawful tags h t;
      answered = λ m past h t map lawful tags. is_answered m map past lawful tags h t;
      all = λ m past h t map lawful tags drained. all_answered m map past lawful tags h t drained;
    }

-- Two journals of which nothing is guaranteed: there is no step, or the step gives another entry.
use Rattle.std.proofs.Common.{◌≡◌, List, [], ◌∷◌}
use Rattle.hmc_schedule.specs.declared.step.Step.TheVariants as steps
use Rattle.hmc_schedule.specs.declared.step.Step.{Step}
use Rattle.hmc_entries.specs.declared.entry.Entry.TheVariants.{Unlocked}
use Rattle.hmc_journal.specs.Lawful.{Lawful}
use Rattle.hmc_journal.specs.Next.{next, choice}
use Rattle.hmc_journal.specs.Setup.{Setup}
use Rattle.hmc_promises.specs.StepGuarantees.{StepGuarantees}

-- a case without parts
with_steps : List Step → Setup
with_steps schedule = record {
  topology = record { cubes = []; links = [] };
  slots = [];
  script = [];
  schedule = schedule;
}

guarantees-no_step : StepGuarantees (with_steps []) (Unlocked 0 ∷ []) → ⊥
unfolding Lawful with_steps
guarantees-no_step is = is.lawful.1

another : Unlocked 1 ≡ Unlocked 0 → ⊥
another same = cc same

guarantees-another_entry :
    StepGuarantees (with_steps (steps.Unlock 0 ∷ [])) (Unlocked 1 ∷ []) → ⊥
unfolding Lawful with_steps next choice
guarantees-another_entry is = another is.lawful.1

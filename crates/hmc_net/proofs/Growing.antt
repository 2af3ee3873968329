-- A network stands for its case with one more step.
use Rattle.std.proofs.Common.{◌≡◌, ◌∙◌, ◌<◌, ◌+◌, ◌^◌, ◌++◌, ap, arith, false, List, [], ◌∷◌, length, sym, subst, slice_get}
use Rattle.std.proofs.lemmas.List.Elements.{All-nil, All-cons, All-append}
use Rattle.hmc_schedule.specs.declared.step.Step.{Step}
use Rattle.hmc_schedule.specs.Plan.{HasFlit}
use Rattle.hmc_entries.specs.declared.entry.Entry.{Entry}
use Rattle.hmc_journal.specs.Hosts.{host_of}
use Rattle.hmc_journal.specs.Lawful.{has_passed}
use Rattle.hmc_journal.specs.Setup.{Setup}
use Rattle.hmc_journal.specs.StepView.{state_of}
use Rattle.hmc_wiring.specs.Ready.{IsStepFor}
use Rattle.hmc_growing.specs.Growing.{with_step}
use Rattle.hmc_growing.proofs.AddedStep.{more_long, at_end, lawful_with, network_with}
use Rattle.hmc_net.specs.NetState.{NetState}
use Rattle.hmc_net.specs.Stands.{StandsFor, IsNext}

pub stands_with_step : (net : NetState) (setup : Setup) (past : List Entry) (step : Step) → StandsFor net setup past → length past ≡ length setup.schedule → length setup.schedule + 1 < 2 ^ 32 → IsStepFor setup.topology step → HasFlit step → StandsFor net (with_step setup step) past
unfolding state_of host_of
stands_with_step net setup past step s done few is mask = record {
  network = network_with setup step s.network mask;
  steps = All-append (IsStepFor setup.topology) setup.schedule (step ∷ []) s.steps (All-cons (IsStepFor setup.topology) step [] is (All-nil (IsStepFor setup.topology)));
  topology = s.topology;
  sized = s.sized;
  lawful = lawful_with setup past step (omega (arith, done)) s.lawful;
  queues = s.queues;
  moves = s.moves;
  state = s.state;
  hosts = s.hosts;
  forwarded = s.forwarded;
  pipes = s.pipes;
  links = s.links;
  few = subst (λ n. n < 2 ^ 32) (sym (more_long setup.schedule step)) few;
  within = s.within;
  tally = s.tally;
}

-- any step of its parts may come next
pub next_with_step : (net : NetState) (setup : Setup) (past : List Entry) (step : Step) → StandsFor net setup past → has_passed past ≡ false → length past ≡ length setup.schedule → length setup.schedule + 1 < 2 ^ 32 → IsStepFor setup.topology step → HasFlit step → IsNext net (with_step setup step) past step
next_with_step net setup past step s on done few is mask = record {
  stands = stands_with_step net setup past step s done few is mask;
  goes_on = on;
  step_is = ap (slice_get (setup.schedule ++ step ∷ [])) done ∙ at_end setup.schedule step;
}

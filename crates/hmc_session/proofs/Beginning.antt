-- A session begins.
use Rattle.std.proofs.Common.{◌≡◌, false, List, [], ◌∷◌, Option, refl, sym, subst, arith}
use Rattle.std.specs.Prelude.{replicate}
use Rattle.std.proofs.lemmas.List.Elements.{All-nil, All-cons, All-head}
use Rattle.hmc_codes.specs.Limits.{most_hosts}
use Rattle.hmc_units.specs.Unit.{UnitFields}
use Rattle.hmc_schedule.specs.declared.step.Step.{Step}
use Rattle.hmc_schedule.specs.Plan.{PlanFields, IsStepOf, HasFlit}
use Rattle.hmc_case.specs.Case.{CaseFields, IsCase}
use Rattle.hmc_case.specs.Plan.{plan_of}
use Rattle.hmc_journal.specs.Hosts.{host_of}
use Rattle.hmc_journal.specs.Lawful.{Lawful}
use Rattle.hmc_journal.specs.Setup.{Topology, setup_of}
use Rattle.hmc_journal.specs.StepView.{state_of}
use Rattle.hmc_growing.specs.Growing.{IsOpen}
use Rattle.hmc_wiring.specs.Ready.{IsStepFor}
use Rattle.hmc_wiring.proofs.Cases.{steps_fit}
use Rattle.hmc_net.specs.NetState.{NetState}
use Rattle.hmc_net.specs.Stands.{StandsFor}
use Rattle.hmc_session.specs.Session.{SessionFields, StandsIn, IsSession, begun}

-- a network in which nothing happened stands for the case without its steps
stands_begun : (net : NetState) (case : CaseFields) (slots : List (Option UnitFields)) → StandsFor net (setup_of case slots) [] → StandsFor net (begun case slots) []
unfolding Lawful state_of host_of
stands_begun net case slots s = record {
  network = record {
    some_hosts = s.network.some_hosts;
    few_hosts = s.network.few_hosts;
    few_links = s.network.few_links;
    graph = s.network.graph;
    one_part = s.network.one_part;
    hosts = s.network.hosts;
    cubes = s.network.cubes;
    sizes = s.network.sizes;
    items = s.network.items;
    masks = All-nil HasFlit;
  };
  steps = All-nil (IsStepFor (begun case slots).topology);
  topology = s.topology;
  sized = s.sized;
  lawful = tt;
  queues = s.queues;
  moves = s.moves;
  state = s.state;
  hosts = s.hosts;
  forwarded = s.forwarded;
  pipes = s.pipes;
  links = s.links;
  few = omega arith;
  within = s.within;
  tally = s.tally;
}

-- a step of the case's plan is a step of its network
step_fits : (case : CaseFields) (slots : List (Option UnitFields)) (step : Step) → IsCase case → IsStepOf (plan_of case.net) step → HasFlit step → IsStepFor (begun case slots).topology step
step_fits case slots step good within mask =
    All-head (IsStepFor (begun case slots).topology) step [] (steps_fit (record case { schedule = step ∷ [] }) slots (record {
      net = good.net;
      requests = good.requests;
      script = good.script;
      schedule = All-cons (IsStepOf (plan_of case.net)) step [] within (All-nil (IsStepOf (plan_of case.net)));
      masks = All-cons HasFlit step [] mask (All-nil HasFlit);
    }))

-- the session of a case before its first step
abbrev pub first_of : NetState → PlanFields → SessionFields
first_of net plan = record { net = net; plan = plan; finished = replicate most_hosts false; taken = 0; passed = false }

pub stands_first : (net : NetState) (case : CaseFields) (slots : List (Option UnitFields)) (plan : PlanFields) → StandsFor net (setup_of case slots) [] → StandsIn (first_of net plan) (begun case slots) []
unfolding IsOpen
stands_first net case slots plan stands = record {
  stands = stands_begun net case slots stands;
  all = refl;
  taken = refl;
  passed = refl;
  last = tt;
  free = λ host free. tt;
}

pub keeps_first : (net : NetState) (case : CaseFields) (slots : List (Option UnitFields)) (plan : PlanFields) → StandsFor net (setup_of case slots) [] → IsCase case → plan ≡ plan_of case.net → IsSession (first_of net plan)
keeps_first net case slots plan stands good plan_is = record {
  parts = λ step within mask.
      subst (λ (t : Topology). IsStepFor t step) (sym stands.topology) (step_fits case slots step good (subst (λ (p : PlanFields). IsStepOf p step) plan_is within) mask);
  sized = refl;
  case = begun case slots;
  journal = [];
  stands = stands_first net case slots plan stands;
}

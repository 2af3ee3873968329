-- What is on the tape after a step, after a request, and at the beginning.
use Rattle.std.proofs.Common.{◌≡◌, ◌∙◌, ◌++◌, ℕ, List, [], ◌∷◌, Option, None, Some, Result, Ok, Err, sym, ap, subst, append-nil}
use Rattle.std.specs.Prelude.{slice_get}
use Rattle.std.specs.List.{All, flat_map}
use Rattle.std.proofs.lemmas.Grind.{flat_map-append}
use Rattle.std.proofs.lemmas.List.Elements.{All-nil, All-push}
use Rattle.hmc_units.specs.Unit.{UnitFields}
use Rattle.hmc_script.specs.Items.{ItemFields}
use Rattle.hmc_script.specs.Text.{item_text, script_text}
use Rattle.hmc_schedule.specs.declared.step.Step.{Step}
use Rattle.hmc_schedule.specs.Plan.{PlanFields, IsStepOf, HasFlit}
use Rattle.hmc_case.specs.Case.{CaseFields, IsCase}
use Rattle.hmc_case.specs.Net.{net_with}
use Rattle.hmc_case.specs.Plan.{plan_of}
use Rattle.hmc_entries.specs.declared.entry.Entry.{Entry}
use Rattle.hmc_entries.specs.Parse.{IsStep}
use Rattle.hmc_step_text.specs.Laws.{IsPrintable}
use Rattle.hmc_step_text.specs.Text.{step_line}
use Rattle.hmc_step_text.proofs.Printed.{schedule_text-[], schedule_text-more}
use Rattle.hmc_journal.specs.Next.{next}
use Rattle.hmc_journal.specs.Setup.{Setup}
use Rattle.hmc_growing.specs.Growing.{with_step, with_item}
use Rattle.hmc_net.specs.Went.{went_of}
use Rattle.hmc_net.specs.declared.went.Went.{Went}
use Rattle.hmc_schedule.specs.StepsLeft.{TakesFirst}
use Rattle.hmc_session.specs.Refusals.{step_refusal}
use Rattle.hmc_session.specs.Session.{StandsIn, IsWaiting, begun}
use Rattle.hmc_session.specs.declared.refusal.NotTaken.{NotTaken}
use Rattle.hmc_session.specs.declared.refusal.NotTaken.TheVariants.{Waits}
use Rattle.hmc_tape.specs.declared.taped.NotTaped.{NotTaped}
use Rattle.hmc_tape.specs.declared.taped.NotTaped.TheVariants as causes
use Rattle.hmc_tape.specs.Calls.{TapesBy}
use Rattle.hmc_tape.specs.Tape.{TapedFields, IsTapeOf}

-- ---- the beginning

net_of_case : (case : CaseFields) → IsCase case → case.net ≡ net_with case.net.cubes case.net.links
net_of_case case is = ap (λ (hosts : ℕ). record { cubes = case.net.cubes; links = case.net.links; hosts = hosts }) is.net.all_hosts

pub begins : (taped : TapedFields) (case : CaseFields) (slots : List (Option UnitFields)) → IsCase case → StandsIn taped.session (begun case slots) [] → taped.session.plan ≡ plan_of case.net → taped.script ≡ script_text case.script → taped.schedule ≡ [] → IsTapeOf taped (begun case slots) []
begins taped case slots is stands plan script schedule = record {
  stands = stands;
  plan = plan ∙ ap plan_of (net_of_case case is);
  script = script;
  schedule = schedule ∙ sym schedule_text-[];
  steps = All-nil (IsPrintable taped.session.plan);
}

-- ---- a step

-- the step is the last of the tape
pub tape_with_step : (before now : TapedFields) (setup : Setup) (past : List Entry) (step : Step) → IsTapeOf before setup past → StandsIn now.session (with_step setup step) (next setup past step ∷ past)
    → IsStepOf before.session.plan step → IsStep step → HasFlit step → now.session.plan ≡ before.session.plan → now.script ≡ before.script → now.schedule ≡ before.schedule ++ step_line step → IsTapeOf now (with_step setup step) (next setup past step ∷ past)
tape_with_step before now setup past step is stands within bytes mask plan script schedule = record {
  stands = stands;
  plan = plan ∙ is.plan;
  script = script ∙ is.script;
  schedule = schedule ∙ ap (λ (l : List ℕ). l ++ step_line step) is.schedule ∙ sym (schedule_text-more setup.schedule step);
  steps = subst (λ (p : PlanFields). All (IsPrintable p) (setup.schedule ++ step ∷ [])) (sym plan) (All-push (IsPrintable before.session.plan) setup.schedule step is.steps (record { within = within; mask = mask; bytes = bytes }));
}

-- a step that is taken
pub takes : (before now : TapedFields) (step : Step) (went : Went) → step_refusal before.session step ≡ None → IsStepOf before.session.plan step → IsStep step → HasFlit step
    → now.session.plan ≡ before.session.plan → now.script ≡ before.script → now.schedule ≡ before.schedule ++ step_line step
    → ((setup : Setup) (past : List Entry) → StandsIn before.session setup past → StandsIn now.session (with_step setup step) (next setup past step ∷ past))
    → ((setup : Setup) (past : List Entry) → StandsIn before.session setup past → went ≡ went_of (next setup past step)) → TapesBy before now step (Ok went)
takes before now step went free within bytes mask plan script schedule stands went_is = record {
  refused = tt;
  taken = free;
  same = tt;
  tape = λ setup past is. tape_with_step before now setup past step is (stands setup past is.stands) within bytes mask plan script schedule;
  went = λ setup past is. went_is setup past is.stands;
  waits = λ setup past is no. absurd (cc no);
}

by_cause : (refusal : NotTaken) → ◌≡◌ {A = Result Went NotTaped} (Err (causes.Refused refusal)) (Err (causes.Refused Waits)) → ◌≡◌ {A = Option NotTaken} (Some refusal) (Some Waits)
by_cause refusal is = cc is

-- one that is refused
pub refuses : (before now : TapedFields) (step : Step) (refusal : NotTaken) → now ≡ before → step_refusal before.session step ≡ Some refusal
    → ((setup : Setup) (past : List Entry) → StandsIn before.session setup past → Some refusal ≡ Some Waits → IsWaiting before.session.finished setup past step) → TapesBy before now step (Err (causes.Refused refusal))
refuses before now step refusal same is waits = record {
  refused = is;
  taken = tt;
  same = same;
  tape = λ setup past stands. tt;
  went = λ setup past stands. tt;
  waits = λ setup past stands waiting. waits setup past stands.stands (by_cause refusal waiting);
}

-- one for which there is no memory
pub lacks : (before now : TapedFields) (step : Step) → now ≡ before → step_refusal before.session step ≡ None → TapesBy before now step (Err causes.Memory)
lacks before now step same free = record {
  refused = free;
  taken = tt;
  same = same;
  tape = λ setup past stands. tt;
  went = λ setup past stands. tt;
  waits = λ setup past stands no. absurd (cc no);
}

-- ---- laid steps

-- the first step is off the list
pub took_first : (laid left rest : List Step) (first step : Step) (result : Option Step) → slice_get laid 0 ≡ Some first → TakesFirst laid result left → laid ≡ step ∷ rest → (left ≡ rest) × (first ≡ step)
took_first laid left rest first step None is took same = absurd (cc (took.0, same))
took_first laid left rest first step (Some other) is took same =
    let cells : other ∷ left ≡ step ∷ rest = sym took ∙ same in
    let head : Some first ≡ Some step = sym is ∙ ap (λ (l : List Step). slice_get l 0) same in
    (cc cells, cc head)

-- it stays
pub same_first : (laid rest : List Step) (first step : Step) → slice_get laid 0 ≡ Some first → laid ≡ step ∷ rest → first ≡ step
same_first laid rest first step is same = let head : Some first ≡ Some step = sym is ∙ ap (λ (l : List Step). slice_get l 0) same in cc head

pub some_first : (laid : List Step) (first : Step) → slice_get laid 0 ≡ Some first → laid ≡ [] → ⊥
some_first laid first is none = let no : None ≡ Some first = sym (ap (λ (l : List Step). slice_get l 0) none) ∙ is in absurd (cc no)

pub none_first : (laid rest : List Step) (step : Step) → slice_get laid 0 ≡ None → laid ≡ step ∷ rest → ⊥
none_first laid rest step is same = let no : Some step ≡ None = sym (ap (λ (l : List Step). slice_get l 0) same) ∙ is in absurd (cc no)

-- ---- a request

script_text-more : (items : List ItemFields) (item : ItemFields) → script_text (items ++ item ∷ []) ≡ script_text items ++ item_text item
unfolding script_text
script_text-more items item = flat_map-append item_text items (item ∷ []) ∙ ap (λ (l : List ℕ). flat_map item_text items ++ l) (append-nil (item_text item))

-- the request is the last of the tape
pub tape_with_item : (before now : TapedFields) (setup : Setup) (past : List Entry) (item : ItemFields) → IsTapeOf before setup past → StandsIn now.session (with_item setup item) past
    → now.session.plan ≡ before.session.plan → now.script ≡ before.script ++ item_text item → now.schedule ≡ before.schedule → IsTapeOf now (with_item setup item) past
tape_with_item before now setup past item is stands plan script schedule = record {
  stands = stands;
  plan = plan ∙ is.plan;
  script = script ∙ ap (λ (l : List ℕ). l ++ item_text item) is.script ∙ sym (script_text-more setup.script item);
  schedule = schedule ∙ is.schedule;
  steps = subst (λ (p : PlanFields). All (IsPrintable p) setup.schedule) (sym plan) is.steps;
}

-- a host is finished
pub tape_finished : (before now : TapedFields) (setup : Setup) (past : List Entry) → IsTapeOf before setup past → StandsIn now.session setup past → now.session.plan ≡ before.session.plan → now.script ≡ before.script → now.schedule ≡ before.schedule → IsTapeOf now setup past
tape_finished before now setup past is stands plan script schedule = record {
  stands = stands;
  plan = plan ∙ is.plan;
  script = script ∙ is.script;
  schedule = schedule ∙ is.schedule;
  steps = subst (λ (p : PlanFields). All (IsPrintable p) setup.schedule) (sym plan) is.steps;
}

-- One try follows the others, and they go on or end with it.
use Rattle.std.proofs.Common.{◌≡◌, ◌∙◌, ◌-◌, ◌+◌, ◌++◌, ◌∷◌, ℕ, List, length, drop, Option, Some, false, refl, ap, subst, sym, arith}
use Rattle.std.proofs.Math.Nat.{sub_self}
use Rattle.hmc_schedule.specs.declared.step.Step.{Step}
use Rattle.hmc_session.specs.Running.{with_steps, RunsOn, TriesAll, TriesBy}
use Rattle.hmc_session.specs.Session.{SessionFields, StandsIn, session_of}
use Rattle.hmc_session.specs.declared.run.Ran.{Ran}
use Rattle.hmc_session.proofs.Runs.{after_first, runs_none, run_further, tries_more}
use Rattle.hmc_session.proofs.session.Session.try_all.Goals as goal

pub steps-init : goal.steps-init
steps-init g c = record {
  runs = λ setup past after stands.
      let now : SessionFields = session_of g.B.Workbench.slots c.args.self.now in
      let laid = c.args.steps.now ++ after in
      subst (λ (n : ℕ). RunsOn (StandsIn now) c.args.self.now.finished setup past laid laid c.args.stops.now n false) (sym (sub_self (length c.args.steps.now)))
      (runs_none (StandsIn now) c.args.self.now.finished setup past laid laid c.args.stops.now stands refl);
  finished = refl;
  plan = refl;
  few = omega arith;
  rest = ap (λ (n : ℕ). drop n c.args.steps.now) (sub_self (length c.args.steps.now));
}

pub returns-in-Some-try_step-clause-tries : goal.returns-in-Some-try_step-clause-tries
returns-in-Some-try_step-clause-tries g c = λ setup past after stands.
    let slots = g.B.Workbench.slots in
    let mid : SessionFields = session_of slots c.steps.self in
    let now : SessionFields = session_of slots c.try_step.new.self in
    let steps = c.args.steps.now in
    let rest = c.steps.rest.now in
    let more = c.in-Some.more.now in
    let is : rest ≡ c.in-Some.step.now ∷ more = c.in-Some.ensures.cases.0 in
    let n = length steps - length rest in
    let count : n + 1 ≡ length steps - length more = omega (arith, c.steps.invariant.few, ap length is) in
    let a = c.steps.invariant.runs setup past after stands in
    let laid : c.in-Some.step.now ∷ (more ++ after) ≡ rest ++ after = ap (λ (l : List Step). l ++ after) (sym is) in
    let t = subst (λ (l : List Step). TriesBy (StandsIn now) c.try_step.result now (with_steps setup a.taken) (a.entries ++ past) l (more ++ after) c.args.stops.now) laid (c.try_step.ensures.tries (with_steps setup a.taken) (a.entries ++ past) (more ++ after) a.stands) in
    let b = subst (λ (r : Option Ran). TriesBy (StandsIn now) r now (with_steps setup a.taken) (a.entries ++ past) (rest ++ after) (more ++ after) c.args.stops.now) c.in-Some-try_step.is t in
    let ran = Some c.in-Some-try_step.ran in
    let left : more ≡ drop (length steps - length more) steps = sym (after_first steps rest more c.in-Some.step.now is c.steps.invariant.few c.steps.invariant.rest) in
    subst (λ (k : ℕ). TriesAll (StandsIn now) ran now setup past (steps ++ after) (drop (length steps - length more) steps ++ after) c.args.stops.now k) count
    (subst (λ (l : List Step). TriesAll (StandsIn now) ran now setup past (steps ++ after) (l ++ after) c.args.stops.now (n + 1)) left
    (tries_more (StandsIn mid) (StandsIn now) c.in-Some-try_step.ran mid now setup past (steps ++ after) (rest ++ after) (more ++ after) c.args.stops.now n c.try_step.ensures.finished a b))

pub steps-preserved : goal.steps-preserved
steps-preserved g c =
    let slots = g.B.Workbench.slots in
    let mid : SessionFields = session_of slots c.steps.self in
    let now : SessionFields = session_of slots c.try_step.new.self in
    let steps = c.args.steps.now in
    let rest = c.steps.rest.now in
    let more = c.in-Some.more.now in
    let is : rest ≡ c.in-Some.step.now ∷ more = c.in-Some.ensures.cases.0 in
    let n = length steps - length rest in
    let count : n + 1 ≡ length steps - length more = omega (arith, c.steps.invariant.few, ap length is) in
    record {
      runs = λ setup past after stands.
          let a = c.steps.invariant.runs setup past after stands in
          let laid : c.in-Some.step.now ∷ (more ++ after) ≡ rest ++ after = ap (λ (l : List Step). l ++ after) (sym is) in
          let t = subst (λ (l : List Step). TriesBy (StandsIn now) c.try_step.result now (with_steps setup a.taken) (a.entries ++ past) l (more ++ after) c.args.stops.now) laid (c.try_step.ensures.tries (with_steps setup a.taken) (a.entries ++ past) (more ++ after) a.stands) in
          let b = subst (λ (r : Option Ran). TriesBy (StandsIn now) r now (with_steps setup a.taken) (a.entries ++ past) (rest ++ after) (more ++ after) c.args.stops.now) c.in_default-try_step.is t in
          subst (λ (k : ℕ). RunsOn (StandsIn now) now.finished setup past (steps ++ after) (more ++ after) c.args.stops.now k false) count
          (run_further (StandsIn mid) (StandsIn now) mid now setup past (steps ++ after) (rest ++ after) (more ++ after) c.args.stops.now n 1 false c.try_step.ensures.finished a b);
      finished = c.try_step.ensures.finished ∙ c.steps.invariant.finished;
      plan = c.try_step.ensures.plan ∙ c.steps.invariant.plan;
      few = omega (arith, c.steps.invariant.few, ap length is);
      rest = after_first steps rest more c.in-Some.step.now is c.steps.invariant.few c.steps.invariant.rest;
    }

pub returns-clause-tries : goal.returns-clause-tries
returns-clause-tries g c = λ setup past after stands.
    let now : SessionFields = session_of g.B.Workbench.slots c.steps.self in
    let steps = c.args.steps.now in
    let rest = c.steps.rest.now in
    let none : length rest ≡ 0 = c.in_default.ensures.cases in
    subst (λ (k : ℕ). RunsOn (StandsIn now) now.finished setup past (steps ++ after) (drop (length steps - k) steps ++ after) c.args.stops.now (length steps - k) false) none
    (subst (λ (l : List Step). RunsOn (StandsIn now) now.finished setup past (steps ++ after) (l ++ after) c.args.stops.now (length steps - length rest) false) (sym c.steps.invariant.rest) (c.steps.invariant.runs setup past after stands))

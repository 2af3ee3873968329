-- Some tries follow the others, and the run goes on or ends with them.
use Rattle.std.proofs.Common.{◌∙◌, ◌-◌, ◌++◌, ℕ, Option, false, refl, subst, sym, arith}
use Rattle.std.proofs.Math.Nat.{sub_self}
use Rattle.hmc_session.specs.Running.{with_steps, RunsOn, TriesAll}
use Rattle.hmc_session.specs.Session.{SessionFields, StandsIn, session_of}
use Rattle.hmc_session.specs.declared.run.Ran.{Ran}
use Rattle.hmc_session.proofs.Runs.{runs_none, run_ended, run_further}
use Rattle.hmc_session.proofs.session.Session.run_on.Goals as goal

pub steps-init : goal.steps-init
steps-init g c = record {
  runs = λ setup past stands.
      let now = session_of g.B.Workbench.slots c.args.self.now in
      subst (λ (n : ℕ). RunsOn (StandsIn now) c.args.self.now.finished setup past c.args.laid.now c.args.laid.now c.args.stops.now n false) (sym (sub_self c.args.most))
      (runs_none (StandsIn now) c.args.self.now.finished setup past c.args.laid.now c.args.laid.now c.args.stops.now stands refl);
  finished = refl;
  plan = refl;
  few = omega arith;
}

pub returns-in-Some-clause-stands : goal.returns-in-Some-clause-stands
returns-in-Some-clause-stands g c = λ setup past stands.
    let mid : SessionFields = session_of g.B.Workbench.slots c.steps.self in
    let now : SessionFields = session_of g.B.Workbench.slots c.try_some-tries.new.self in
    let laid = c.try_some-tries.new.laid in
    let a = c.steps.invariant.runs setup past stands in
    let m = c.steps.left - c.try_some-tries.result.left in
    let b = subst (λ (r : Option Ran). TriesAll (StandsIn now) r now (with_steps setup a.taken) (a.entries ++ past) c.steps.laid laid c.args.stops.now m) c.in-Some.is (c.try_some-tries.ensures.tries (with_steps setup a.taken) (a.entries ++ past) a.stands) in
    run_ended (StandsIn mid) (StandsIn now) c.in-Some.ran mid now setup past c.args.laid.now c.steps.laid laid c.args.stops.now (c.args.most - c.steps.left) m c.args.most c.try_some-tries.ensures.finished a (omega (arith, c.steps.invariant.few)) b

pub steps-preserved : goal.steps-preserved
steps-preserved g c = record {
  runs = λ setup past stands.
      let mid : SessionFields = session_of g.B.Workbench.slots c.steps.self in
      let now : SessionFields = session_of g.B.Workbench.slots c.try_some-tries.new.self in
      let laid = c.try_some-tries.new.laid in
      let a = c.steps.invariant.runs setup past stands in
      let m = c.steps.left - c.try_some-tries.result.left in
      let b = subst (λ (r : Option Ran). TriesAll (StandsIn now) r now (with_steps setup a.taken) (a.entries ++ past) c.steps.laid laid c.args.stops.now m) c.in_default.is (c.try_some-tries.ensures.tries (with_steps setup a.taken) (a.entries ++ past) a.stands) in
      subst (λ (n : ℕ). RunsOn (StandsIn now) now.finished setup past c.args.laid.now laid c.args.stops.now n false) (omega (arith, c.try_some-tries.ensures.fewer, c.steps.invariant.few))
      (run_further (StandsIn mid) (StandsIn now) mid now setup past c.args.laid.now c.steps.laid laid c.args.stops.now (c.args.most - c.steps.left) m false c.try_some-tries.ensures.finished a b);
  finished = c.try_some-tries.ensures.finished ∙ c.steps.invariant.finished;
  plan = c.try_some-tries.ensures.plan ∙ c.steps.invariant.plan;
  few = omega (arith, c.steps.invariant.few, c.try_some-tries.ensures.fewer);
}

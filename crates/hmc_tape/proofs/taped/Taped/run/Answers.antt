-- One try follows the others, and the run goes on or ends with it.
use Rattle.std.proofs.Common.{◌∙◌, ◌++◌, ◌+◌, ◌<◌, Option, Result, Ok, false, refl, ap, subst, arith}
use Rattle.std.proofs.lemmas.Bool.Decides.{nat_tests}
use Rattle.hmc_codes.specs.declared.memory.Memory.{Memory}
use Rattle.hmc_session.specs.Running.{with_steps}
use Rattle.hmc_session.specs.declared.run.Ran.{Ran}
use Rattle.hmc_session.proofs.Runs.{runs_none, run_further, run_ends}
use Rattle.hmc_tape.specs.Tape.{TapedFields, IsTapeOf, taped_of}
use Rattle.hmc_tape.specs.Tries.{TapesTry}
use Rattle.hmc_tape.proofs.taped.Taped.run.Goals as goal

pub steps-init : goal.steps-init
steps-init g c = record {
  runs = λ setup past tape. runs_none (IsTapeOf (taped_of g.B.Workbench.slots c.args.self.now)) c.args.self.now.session.finished setup past c.args.laid.now c.args.laid.now c.args.stops.now tape refl;
  finished = refl;
  plan = refl;
}

pub returns-in-Ok-Some-clause-tape : goal.returns-in-Ok-Some-clause-tape
returns-in-Ok-Some-clause-tape g c = λ setup past tape.
    let mid : TapedFields = taped_of g.B.Workbench.slots c.steps.self in
    let now : TapedFields = taped_of g.B.Workbench.slots c.try_next.new.self in
    let a = c.steps.invariant.runs setup past tape in
    let b = subst (λ (r : Result (Option Ran) Memory). TapesTry r now (with_steps setup a.taken) (a.entries ++ past) c.steps.laid c.try_next.new.laid c.args.stops.now) (c.in-Ok-Some.is ∙ ap Ok c.in-Ok-Some.field-0-is) (c.try_next.ensures.tries (with_steps setup a.taken) (a.entries ++ past) a.stands) in
    run_ends (IsTapeOf mid) (IsTapeOf now) c.in-Ok-Some.ran mid.session now.session setup past c.args.laid.now c.steps.laid c.try_next.new.laid c.args.stops.now c.steps.at c.args.most c.try_next.ensures.finished a (grind (arith, nat_tests, c.steps-test.true)) b

pub returns-in-Err-clause-tape : goal.returns-in-Err-clause-tape
returns-in-Err-clause-tape g c = λ setup past tape.
    let mid : TapedFields = taped_of g.B.Workbench.slots c.steps.self in
    let now : TapedFields = taped_of g.B.Workbench.slots c.try_next.new.self in
    let a = c.steps.invariant.runs setup past tape in
    let b = subst (λ (r : Result (Option Ran) Memory). TapesTry r now (with_steps setup a.taken) (a.entries ++ past) c.steps.laid c.try_next.new.laid c.args.stops.now) c.in-Err.is (c.try_next.ensures.tries (with_steps setup a.taken) (a.entries ++ past) a.stands) in
    let few : c.steps.at < c.args.most = grind (arith, nat_tests, c.steps-test.true) in
    (c.steps.at + 0, omega (arith, few), b.0, run_further (IsTapeOf mid) (IsTapeOf now) mid.session now.session setup past c.args.laid.now c.steps.laid c.try_next.new.laid c.args.stops.now c.steps.at 0 false c.try_next.ensures.finished a b.1)

pub steps-preserved : goal.steps-preserved
steps-preserved g c = record {
  runs = λ setup past tape.
      let mid : TapedFields = taped_of g.B.Workbench.slots c.steps.self in
      let now : TapedFields = taped_of g.B.Workbench.slots c.try_next.new.self in
      let a = c.steps.invariant.runs setup past tape in
      let b = subst (λ (r : Result (Option Ran) Memory). TapesTry r now (with_steps setup a.taken) (a.entries ++ past) c.steps.laid c.try_next.new.laid c.args.stops.now) (c.in-Ok-None.is ∙ ap Ok c.in-Ok-None.field-0-is) (c.try_next.ensures.tries (with_steps setup a.taken) (a.entries ++ past) a.stands) in
      run_further (IsTapeOf mid) (IsTapeOf now) mid.session now.session setup past c.args.laid.now c.steps.laid c.try_next.new.laid c.args.stops.now c.steps.at 1 false c.try_next.ensures.finished a b;
  finished = c.try_next.ensures.finished ∙ c.steps.invariant.finished;
  plan = c.try_next.ensures.plan ∙ c.steps.invariant.plan;
}

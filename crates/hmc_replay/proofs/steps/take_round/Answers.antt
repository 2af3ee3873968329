-- One step more; or no further one is taken.
use Rattle.std.proofs.Common.{◌∙◌, refl, arith}
use Rattle.std.proofs.lemmas.Bool.Decides.{nat_tests}
use Rattle.hmc_replay.proofs.Stepping.{left_due, next_left, left_more, left_over, took_passed}
use Rattle.hmc_replay.proofs.steps.take_round.Goals as goal

pub steps-init : goal.steps-init
steps-init g c = (λ setup past is. (past, is), refl)

pub take_step-requires : goal.take_step-requires
take_step-requires g c =
    let now = c.steps.invariant.0 c.requires.0 c.requires.1 c.requires.2 in
    let here = left_due _ c.requires.0 now.0 c.steps.rounds c.due-due.new.self c.args.round.now c.steps.step-index _ _ (grind (arith, nat_tests, c.steps-test.true)) c.due-due.ensures.step now.1 in
    (c.requires.0, now.0, next_left _ c.requires.0 now.0 _ _ here)

pub returns-then-take_step-clause-taken : goal.returns-then-take_step-clause-taken
returns-then-take_step-clause-taken g c = λ setup past is.
    let now = c.steps.invariant.0 setup past is in
    let here = left_due _ setup now.0 c.steps.rounds c.due-due.new.self c.args.round.now c.steps.step-index _ _ (grind (arith, nat_tests, c.steps-test.true)) c.due-due.ensures.step now.1 in
    took_passed _ setup now.0 _ (c.take_step.ensures setup now.0 (next_left _ setup now.0 _ _ here)) c.if-take_step.true

pub returns-then-take_step-clause-rounds : goal.returns-then-take_step-clause-rounds
returns-then-take_step-clause-rounds g c = c.due-due.ensures.rounds ∙ c.steps.invariant.1

pub steps-preserved : goal.steps-preserved
steps-preserved g c = (
  λ setup past is.
      let now = c.steps.invariant.0 setup past is in
      let here = left_due _ setup now.0 c.steps.rounds c.due-due.new.self c.args.round.now c.steps.step-index _ _ (grind (arith, nat_tests, c.steps-test.true)) c.due-due.ensures.step now.1 in
      (_, left_more _ _ setup now.0 _ _ _ here (c.take_step.ensures setup now.0 (next_left _ setup now.0 _ _ here)) c.if-take_step.false),
  c.due-due.ensures.rounds ∙ c.steps.invariant.1,
)

pub returns-clause-taken : goal.returns-clause-taken
returns-clause-taken g c = λ setup past is.
    let now = c.steps.invariant.0 setup past is in
    (now.0, left_over _ setup now.0 c.steps.rounds c.args.round.now c.steps.step-index (grind (arith, nat_tests, c.steps-test.false)) now.1)

pub returns-clause-rounds : goal.returns-clause-rounds
returns-clause-rounds g c = c.steps.invariant.1

-- One step more, and its line; or no further one is taken; or the report differs.
use Rattle.std.proofs.Common.{◌∙◌, Ok, ap, refl, arith}
use Rattle.std.proofs.lemmas.Bool.Decides.{nat_tests}
use Rattle.hmc_check.proofs.Rounds.{following_due, following_over, round_told}
use Rattle.hmc_check.proofs.checker.follow_round.Goals as goal

pub steps-init : goal.steps-init
steps-init g c = (λ setup past is. (past, is), refl)

pub follow_step-requires : goal.follow_step-requires
follow_step-requires g c =
    let now = c.steps.invariant.0 c.requires.0 c.requires.1 c.requires.2 in
    let here = following_due _ c.requires.0 now.0 c.steps.rounds c.due-due.new.self c.args.round.now c.steps.step-index _ _ _ _ _ _ (grind (arith, nat_tests, c.steps-test.true)) c.due-due.ensures.step now.1 in
    (c.requires.0, now.0, _, here)

pub returns-in-Ok-true-clause-followed : goal.returns-in-Ok-true-clause-followed
returns-in-Ok-true-clause-followed g c = λ setup past is.
    let now = c.steps.invariant.0 setup past is in
    let here = following_due _ setup now.0 c.steps.rounds c.due-due.new.self c.args.round.now c.steps.step-index _ _ _ _ _ _ (grind (arith, nat_tests, c.steps-test.true)) c.due-due.ensures.step now.1 in
    round_told _ setup _ _ _ _ _ _ _ (c.in-Ok-true.is ∙ ap Ok c.in-Ok-true.field-0-test) (c.follow_step.ensures setup now.0 _ here)

pub returns-in-Ok-true-clause-rounds : goal.returns-in-Ok-true-clause-rounds
returns-in-Ok-true-clause-rounds g c = c.due-due.ensures.rounds ∙ c.steps.invariant.1

pub returns-in-Err-clause-followed : goal.returns-in-Err-clause-followed
returns-in-Err-clause-followed g c = λ setup past is.
    let now = c.steps.invariant.0 setup past is in
    let here = following_due _ setup now.0 c.steps.rounds c.due-due.new.self c.args.round.now c.steps.step-index _ _ _ _ _ _ (grind (arith, nat_tests, c.steps-test.true)) c.due-due.ensures.step now.1 in
    round_told _ setup _ _ _ _ _ _ _ c.in-Err.is (c.follow_step.ensures setup now.0 _ here)

pub returns-in-Err-clause-rounds : goal.returns-in-Err-clause-rounds
returns-in-Err-clause-rounds g c = c.due-due.ensures.rounds ∙ c.steps.invariant.1

pub steps-preserved : goal.steps-preserved
steps-preserved g c = (
  λ setup past is.
      let now = c.steps.invariant.0 setup past is in
      let here = following_due _ setup now.0 c.steps.rounds c.due-due.new.self c.args.round.now c.steps.step-index _ _ _ _ _ _ (grind (arith, nat_tests, c.steps-test.true)) c.due-due.ensures.step now.1 in
      round_told _ setup _ _ _ _ _ _ _ (c.in-Ok-false.is ∙ ap Ok c.in-Ok-false.field-0-test) (c.follow_step.ensures setup now.0 _ here),
  c.due-due.ensures.rounds ∙ c.steps.invariant.1,
)

pub returns-clause-followed : goal.returns-clause-followed
returns-clause-followed g c = λ setup past is.
    let now = c.steps.invariant.0 setup past is in
    (now.0, following_over _ setup now.0 c.steps.rounds c.args.round.now c.steps.step-index _ _ _ _ (grind (arith, nat_tests, c.steps-test.false)) now.1)

pub returns-clause-rounds : goal.returns-clause-rounds
returns-clause-rounds g c = c.steps.invariant.1

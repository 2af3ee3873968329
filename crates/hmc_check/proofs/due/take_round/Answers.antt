-- One step more; or the one that was wanted, or one after which none follows.
use Rattle.std.proofs.Common.{◌∙◌, refl, arith}
use Rattle.std.proofs.lemmas.Bool.Decides.{nat_tests}
use Rattle.hmc_check.proofs.DueLines.{passed_true}
use Rattle.hmc_check.proofs.Following.{next_due, one_more}
use Rattle.hmc_check.proofs.Rounds.{before_due, before_over}
use Rattle.hmc_check.proofs.due.take_round.Goals as goal

pub steps-init : goal.steps-init
steps-init g c = (λ setup past is. (past, is, refl), refl)

pub take_step-passed-requires : goal.take_step-passed-requires
take_step-passed-requires g c =
    let now = c.steps.invariant.0 c.requires.0 c.requires.1 c.requires.2 in
    let here = before_due _ c.requires.0 now.0 c.steps.rounds c.due-due.new.self c.args.round.now c.steps.step-index _ _ (grind (arith, nat_tests, c.steps-test.true)) c.due-due.ensures.step now.1 in
    (c.requires.0, now.0, next_due _ c.requires.0 now.0 _ _ here)

pub returns-then-more-eq0-clause-taken : goal.returns-then-more-eq0-clause-taken
returns-then-more-eq0-clause-taken g c = λ setup past is.
    let now = c.steps.invariant.0 setup past is in
    let here = before_due _ setup now.0 c.steps.rounds c.due-due.new.self c.args.round.now c.steps.step-index _ _ (grind (arith, nat_tests, c.steps-test.true)) c.due-due.ensures.step now.1 in
    let after = c.take_step-passed.ensures setup now.0 (next_due _ setup now.0 _ _ here) in
    (now.0, _, after, omega (arith, now.2, c.if-more-eq0.true))

pub returns-then-passed-clause-taken : goal.returns-then-passed-clause-taken
returns-then-passed-clause-taken g c = λ setup past is.
    let now = c.steps.invariant.0 setup past is in
    let here = before_due _ setup now.0 c.steps.rounds c.due-due.new.self c.args.round.now c.steps.step-index _ _ (grind (arith, nat_tests, c.steps-test.true)) c.due-due.ensures.step now.1 in
    let after = c.take_step-passed.ensures setup now.0 (next_due _ setup now.0 _ _ here) in
    (now.0, passed_true _ setup now.0 _ after c.if-passed.true, omega (arith, now.2, c.if-more-eq0.false))

pub steps-preserved : goal.steps-preserved
steps-preserved g c = (
  λ setup past is.
      let now = c.steps.invariant.0 setup past is in
      let here = before_due _ setup now.0 c.steps.rounds c.due-due.new.self c.args.round.now c.steps.step-index _ _ (grind (arith, nat_tests, c.steps-test.true)) c.due-due.ensures.step now.1 in
      let after = c.take_step-passed.ensures setup now.0 (next_due _ setup now.0 _ _ here) in
      (_, one_more _ _ setup now.0 _ _ _ here after c.if-passed.false, omega (arith, now.2, c.if-more-eq0.false)),
  c.due-due.ensures.rounds ∙ c.steps.invariant.1,
)

pub returns-clause-taken : goal.returns-clause-taken
returns-clause-taken g c = λ setup past is.
    let now = c.steps.invariant.0 setup past is in
    (now.0, before_over _ setup now.0 c.steps.rounds c.args.round.now c.steps.step-index (grind (arith, nat_tests, c.steps-test.false)) now.1, now.2)

-- One step more, and its line; or no further one is taken; or the line broke off.
use Rattle.std.proofs.Common.{[], ◌∷◌, ◌∙◌, refl, arith, subst}
use Rattle.std.proofs.lemmas.Bool.Decides.{nat_tests}
use Rattle.hmc_entries.specs.Lines.{line_of}
use Rattle.hmc_outside.specs.Lines.{WritesLines, BreaksOff}
use Rattle.hmc_replay.proofs.Stepping.{left_due, next_left, left_more, left_over, took_passed, lines_more, wrote_passed, broken_at}
use Rattle.hmc_replay.proofs.steps.write_round.Goals as goal

pub steps-init : goal.steps-init
steps-init g c = (λ setup past is. (past, is, λ before written. written), refl)

pub take_step-passed-requires : goal.take_step-passed-requires
take_step-passed-requires g c =
    let now = c.steps.invariant.0 c.requires.0 c.requires.1 c.requires.2 in
    let here = left_due _ c.requires.0 now.0 c.steps.rounds c.due-due.new.self c.args.round.now c.steps.step-index _ _ (grind (arith, nat_tests, c.steps-test.true)) c.due-due.ensures.step now.1 in
    (c.requires.0, now.0, next_left _ c.requires.0 now.0 _ _ here)

pub returns-in-Err-clause-wrote : goal.returns-in-Err-clause-wrote
returns-in-Err-clause-wrote g c = λ setup past before is written.
    let now = c.steps.invariant.0 setup past is in
    let here = left_due _ setup now.0 c.steps.rounds c.due-due.new.self c.args.round.now c.steps.step-index _ _ (grind (arith, nat_tests, c.steps-test.true)) c.due-due.ensures.step now.1 in
    let after = c.take_step-passed.ensures setup now.0 (next_left _ setup now.0 _ _ here) in
    let line = subst (λ e. BreaksOff (g.O.Sink.shows c.steps.sink) (g.O.Sink.shows c.write_entry.new.sink) (line_of e ∷ [])) c.last.ensures c.in-Err.ensures in
    broken_at _ setup now.0 _ before _ _ after (now.2 before written) line

pub returns-in-Err-clause-rounds : goal.returns-in-Err-clause-rounds
returns-in-Err-clause-rounds g c = c.due-due.ensures.rounds ∙ c.steps.invariant.1

pub returns-then-passed-clause-wrote : goal.returns-then-passed-clause-wrote
returns-then-passed-clause-wrote g c = λ setup past before is written.
    let now = c.steps.invariant.0 setup past is in
    let here = left_due _ setup now.0 c.steps.rounds c.due-due.new.self c.args.round.now c.steps.step-index _ _ (grind (arith, nat_tests, c.steps-test.true)) c.due-due.ensures.step now.1 in
    let after = c.take_step-passed.ensures setup now.0 (next_left _ setup now.0 _ _ here) in
    let line = subst (λ e. WritesLines (g.O.Sink.shows c.steps.sink) (g.O.Sink.shows c.write_entry.new.sink) (line_of e ∷ [])) c.last.ensures c.in-Ok.ensures in
    (took_passed _ setup now.0 _ after c.if-passed.true, wrote_passed _ setup now.0 _ before _ after c.if-passed.true (lines_more before _ _ _ now.0 (now.2 before written) line))

pub returns-then-passed-clause-rounds : goal.returns-then-passed-clause-rounds
returns-then-passed-clause-rounds g c = c.due-due.ensures.rounds ∙ c.steps.invariant.1

pub steps-preserved : goal.steps-preserved
steps-preserved g c = (
  λ setup past is.
      let now = c.steps.invariant.0 setup past is in
      let here = left_due _ setup now.0 c.steps.rounds c.due-due.new.self c.args.round.now c.steps.step-index _ _ (grind (arith, nat_tests, c.steps-test.true)) c.due-due.ensures.step now.1 in
      let after = c.take_step-passed.ensures setup now.0 (next_left _ setup now.0 _ _ here) in
      let line = subst (λ e. WritesLines (g.O.Sink.shows c.steps.sink) (g.O.Sink.shows c.write_entry.new.sink) (line_of e ∷ [])) c.last.ensures c.in-Ok.ensures in
      (_, left_more _ _ setup now.0 _ _ _ here after c.if-passed.false, λ before written. lines_more before _ _ _ now.0 (now.2 before written) line),
  c.due-due.ensures.rounds ∙ c.steps.invariant.1,
)

pub returns-clause-wrote : goal.returns-clause-wrote
returns-clause-wrote g c = λ setup past before is written.
    let now = c.steps.invariant.0 setup past is in
    (now.0, left_over _ setup now.0 c.steps.rounds c.args.round.now c.steps.step-index (grind (arith, nat_tests, c.steps-test.false)) now.1, now.2 before written)

pub returns-clause-rounds : goal.returns-clause-rounds
returns-clause-rounds g c = c.steps.invariant.1

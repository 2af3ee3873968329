use Rattle.std.proofs.Common.{◌∙◌, true, false, sym}
use Rattle.hmc_judge.proofs.Placing.{none_to_take, take_at}
use Rattle.hmc_judge.proofs.next.place_to_take.Goals as goal

pub returns-in-None-clause-value : goal.returns-in-None-clause-value
returns-in-None-clause-value c = none_to_take c.args.host c.args.tag c.args.answer.now
    c.args.ready.now (sym c.place_at_hand.ensures ∙ c.in-None.is)

pub returns-then-same_answer-clause-value : goal.returns-then-same_answer-clause-value
returns-then-same_answer-clause-value c = take_at c.args.host c.args.tag c.args.answer.now
    c.args.ready.now c.in-Some.at c.index-ready-at.result true
    (sym c.place_at_hand.ensures ∙ c.in-Some.is) c.if-same_answer.ensures

pub returns-else-same_answer-clause-value : goal.returns-else-same_answer-clause-value
returns-else-same_answer-clause-value c = take_at c.args.host c.args.tag c.args.answer.now
    c.args.ready.now c.in-Some.at c.index-ready-at.result false
    (sym c.place_at_hand.ensures ∙ c.in-Some.is) c.if-same_answer.ensures

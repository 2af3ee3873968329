use Rattle.std.proofs.Common.{◌∙◌, true, false, sym}
use Rattle.hmc_search.specs.Alone.{alone}
use Rattle.hmc_judge.proofs.Placing.{none_to_execute, execute_at}
use Rattle.hmc_judge.proofs.next.place_to_execute.Goals as goal

pub returns-in-None-clause-value : goal.returns-in-None-clause-value
returns-in-None-clause-value c = none_to_execute (alone c.args.shapes.now) c.args.unit
    c.args.next.now c.args.waiting.now (sym c.first_place.ensures ∙ c.in-None.is)

pub returns-then-is_this-clause-value : goal.returns-then-is_this-clause-value
returns-then-is_this-clause-value c = execute_at (alone c.args.shapes.now) c.args.unit
    c.args.next.now c.args.waiting.now c.in-Some.at c.index-waiting-at.result true
    (sym c.first_place.ensures ∙ c.in-Some.is) c.index-waiting-at.is c.if-is_this.ensures

pub returns-else-is_this-clause-value : goal.returns-else-is_this-clause-value
returns-else-is_this-clause-value c = execute_at (alone c.args.shapes.now) c.args.unit
    c.args.next.now c.args.waiting.now c.in-Some.at c.index-waiting-at.result false
    (sym c.first_place.ensures ∙ c.in-Some.is) c.index-waiting-at.is c.if-is_this.ensures

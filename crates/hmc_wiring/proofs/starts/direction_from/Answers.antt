-- The join that is looked at, or none.
use Rattle.std.proofs.Common.{◌∙◌, sym}
use Rattle.hmc_wiring.proofs.Firsts.{starts_a, starts_b, starts_on, starts_none}
use Rattle.hmc_wiring.proofs.starts.direction_from.Goals as goal

pub returns-then-is : goal.returns-then-is
returns-then-is c =
    sym (starts_a c.args.joins.now c.args.place c.loop-i.i _ c.loop-i-test.true (sym c.is.ensures ∙ c.if-is.true)) ∙ c.loop-i.invariant

pub returns-then-is-2 : goal.returns-then-is-2
returns-then-is-2 c =
    sym (starts_b c.args.joins.now c.args.place c.loop-i.i _ c.loop-i-test.true (sym c.is.ensures ∙ c.if-is.false) (sym c.is-in-loop-i.ensures ∙ c.if-is-2.true)) ∙ c.loop-i.invariant

pub loop-i-preserved : goal.loop-i-preserved
loop-i-preserved c =
    sym (starts_on c.args.joins.now c.args.place c.loop-i.i _ c.loop-i-test.true (sym c.is.ensures ∙ c.if-is.false) (sym c.is-in-loop-i.ensures ∙ c.if-is-2.false)) ∙ c.loop-i.invariant

pub returns : goal.returns
returns c = sym (starts_none c.args.joins.now c.args.place c.loop-i.i c.loop-i-test.false) ∙ c.loop-i.invariant

-- The packet is taken where it has gone on.
use Rattle.std.proofs.Common.{Bool, sym, subst}
use Rattle.hmc_kept.specs.Called.{taken_where}
use Rattle.hmc_directions.specs.Ends.{EndsHold}
use Rattle.hmc_check.proofs.past.lines.take_where.Goals as goal

pub returns-then-goes : goal.returns-then-goes
returns-then-goes c = λ rows entries hold.
    subst (λ (t : Bool). EndsHold rows c.take.new.self (taken_where t rows c.args.direction entries)) (sym c.if-goes.true) (c.take.ensures rows entries hold)

pub returns-else-goes : goal.returns-else-goes
returns-else-goes c = λ rows entries hold.
    subst (λ (t : Bool). EndsHold rows c.args.ends.now (taken_where t rows c.args.direction entries)) (sym c.if-goes.false) hold

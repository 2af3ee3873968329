use Rattle.std.proofs.Common.{Bool, ap, cond, sym}
use Rattle.hmc_packet.specs.Spelling.{inverse}
use Rattle.hmc_packet.proofs.draft.carried_check.Goals as goal

pub returns-then-poisoned : goal.returns-then-poisoned
returns-then-poisoned c = ap (λ (poisoned : Bool).
    cond poisoned (inverse c.args.right) c.args.right) (sym c.if-poisoned.true)

use Rattle.std.proofs.Common.{arith}
use Rattle.hmc_link_end.proofs.Stored.{stored_fits}
use Rattle.hmc_link_end.proofs.end.End.store.Goals as goal

pub overflow_add-self : goal.overflow_add-self
overflow_add-self g c =
    stored_fits _ _ c.self.inside.stored _ c.self.view_is c.self.invariant.count c.requires.room
    (omega (arith, c.self.ranges))

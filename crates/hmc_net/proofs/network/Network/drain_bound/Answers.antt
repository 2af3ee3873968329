-- Enough rounds by the number under way.
use Rattle.std.proofs.Common.{◌≤◌, ◌+◌, ◌*◌, ◌∙◌, ℕ, subst}
use Rattle.hmc_net.proofs.network.Network.drain_bound.Goals as goal

pub returns-clause-drains : goal.returns-clause-drains
returns-clause-drains g c = λ setup past stands off single later n follow le.
    (c.drains.ensures.bound setup stands.network single).1 past later n tt follow
    (subst (λ (k : ℕ). 4000 + 2000 * (k + 1) ≤ n) (c.from.ensures ∙ c.under_way.ensures setup past stands off) le)

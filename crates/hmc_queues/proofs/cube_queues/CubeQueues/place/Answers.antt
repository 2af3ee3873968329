-- A place of a group is one of the list.
use Rattle.std.proofs.Common.{◌≡◌, ◌<◌, ◌+◌, ◌∙◌, ◌&&◌, ℕ, true, nat_lt, sym, ap, arith}
use Rattle.std.proofs.lemmas.Bool.Decides.{nat_tests}
use Rattle.hmc_queues.specs.Queues.{is_there}
use Rattle.hmc_queues.proofs.Places.{below_seats, count_is}
use Rattle.hmc_queues.proofs.cube_queues.CubeQueues.place.Goals as goal

both : (v b n m : ℕ) → (nat_lt v n && nat_lt b m) ≡ true → (v < n) × (b < m)
both v b n m is = (grind (arith, nat_tests), grind (arith, nat_tests))

pub returns-in-Bank-clause-inside : goal.returns-in-Bank-clause-inside
returns-in-Bank-clause-inside c = λ there.
    let now = c.args.self.now in
    let vault = c.in-Bank.vault in
    let bank = c.in-Bank.bank in
    let in_both = both vault bank now.vaults now.banks (ap (is_there now) (sym c.in-Bank.is) ∙ there) in
    omega (arith, below_seats now.vaults now.banks vault (2 + bank) in_both.0 (omega (arith, in_both.1)), count_is c.self.inside.vaults c.self.inside.banks c.self.inside.size c.self.inside.queues.items now c.self.invariant c.self.view_is, c.place_of_vault-in-Bank.ensures.value, c.from.ensures)

-- The requests of the host among those that were looked at.
use Rattle.std.proofs.Common.{◌≡◌, take}
use Rattle.hmc_script.specs.Items.{of_host}
use Rattle.hmc_script.proofs.items.Items.of_host.Given as goal

abbrev pub invariant-items : goal.invariant-items
invariant-items l = l.own ≡ of_host l.host (take l.at l.self)

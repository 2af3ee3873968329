-- A host that nothing hinders has a request left.
use Rattle.std.proofs.Common.{◌<◌, length, ap, arith}
use Rattle.hmc_host.specs.Host.{HostFields}
use Rattle.hmc_host.proofs.GiveLemmas.{unhindered_left}
use Rattle.hmc_host.proofs.host.Host.next_given.Goals as goal

pub first-item-requires : goal.first-item-requires
first-item-requires c =
    let some : 0 < length c.args.self.now.left = unhindered_left c.args.self.now c.args.room (cc) in
    omega (arith, ap (λ (h : HostFields). length h.left) c.self.view_is, some)

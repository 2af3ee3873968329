-- Of an idle step nothing is counted; of another one its entry is.
use Rattle.std.proofs.Common.{◌<◌, ◌+◌, ◌^◌, ℕ, sym, ap, subst}
use Rattle.hmc_tally.specs.Tally.{step_changes, IsWithin}
use Rattle.hmc_tally.proofs.Within.{within_more}
use Rattle.hmc_net.specs.NetState.{net_of, NetState}
use Rattle.hmc_net.proofs.Standing.{idle_uncounted}
use Rattle.hmc_net.proofs.network.Network.count.Goals as goal

pub returns-in-Idle-clause-tally : goal.returns-in-Idle-clause-tally
returns-in-Idle-clause-tally g c =
    idle_uncounted c.args.self.now.last c.args.went _ (step_changes c.args.step.now) c.args.was_good c.args.self.now.tally c.requires.went c.in-Idle.is

pub returns-in-Idle-clause-within : goal.returns-in-Idle-clause-within
returns-in-Idle-clause-within g c = λ most within. within_more most c.args.self.now.tally within

pub add-requires : goal.add-requires
add-requires g c =
    subst (λ (n : NetState). (most : ℕ) × (most + 1 < 2 ^ 32) × IsWithin most n.tally) (sym (ap (net_of g.B.Workbench.slots) c.self.view_is)) c.requires.few

use Rattle.hmc_journal.proofs.Networks.{network_of}
use Rattle.hmc_journal.specs.Setup.{setup_of}
use Rattle.hmc_bound.proofs.Appended.{bound_drains}
use Rattle.hmc_bound.proofs.Ends.{drained_by, ends_drained}
use Rattle.hmc_bound.proofs.Final.{drains}
use Rattle.hmc_bound.proofs.Given.{gives_idle}
use Rattle.hmc_bound.proofs.drains.Goals as goal

pub returns-clause-bound : goal.returns-clause-bound
returns-clause-bound c = drains

pub returns-clause-ends : goal.returns-clause-ends
returns-clause-ends c = ends_drained

pub returns-clause-cases : goal.returns-clause-cases
returns-clause-cases c =
    λ case slots is. ends_drained (setup_of case slots) (network_of case slots is)

pub returns-clause-appended : goal.returns-clause-appended
returns-clause-appended c = bound_drains

pub returns-clause-bounds : goal.returns-clause-bounds
returns-clause-bounds c =
    λ case slots is single. bound_drains (setup_of case slots) (network_of case slots is) single

pub returns-clause-journal : goal.returns-clause-journal
returns-clause-journal c = drained_by

pub returns-clause-given : goal.returns-clause-given
returns-clause-given c = gives_idle

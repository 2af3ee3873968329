-- The drain bound of hmc_drain at the steps of a kept list.
use Rattle.std.proofs.Common.{◌∙◌, sym, ap, subst}
use Rattle.hmc_link_state.specs.Steps.{Link, IsSettledLink}
use Rattle.hmc_drain.proofs.AfterSteps.{drains_settled, drains_any}
use Rattle.hmc_steps.specs.Doings.{doings_of}
use Rattle.hmc_steps.specs.Drains.{DrainsFrom, AnyList}
use Rattle.hmc_journal.specs.Settled.{IsSettled}
use Rattle.hmc_steps.specs.SideIn.{setup_of}
use Rattle.hmc_steps.proofs.Settled.{settled-link}
use Rattle.hmc_steps.proofs.StepsAre.{steps-are}

pub drains-settled : DrainsFrom 0 IsSettled
drains-settled link past kept whole fit settled run n rounds forth back enough =
    let is = steps-are link past kept whole in
    drains_settled link.profile (setup_of link) fit (doings_of link past) is.may
    (subst IsSettledLink (sym is.leads) (settled-link link past kept settled)) run n rounds
    (forth ∙ ap (λ (l : Link). l.forth) (sym is.leads)) (back
    ∙ ap (λ (l : Link). l.back) (sym is.leads)) enough

pub drains-any : DrainsFrom 4000 AnyList
drains-any link past kept whole fit any run n rounds forth back enough =
    let is = steps-are link past kept whole in
    drains_any link.profile (setup_of link) fit (doings_of link past) is.may tt run n rounds
    (forth ∙ ap (λ (l : Link). l.forth) (sym is.leads)) (back
    ∙ ap (λ (l : Link). l.back) (sym is.leads)) enough

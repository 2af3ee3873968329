-- A host that isn't finished waits where it is at its end.
use Rattle.std.proofs.Common.{◌∙◌, Bool, not, ap, sym}
use Rattle.std.specs.Prelude.{◌&&◌}
use Rattle.hmc_host.specs.Give.{is_at_end}
use Rattle.hmc_kept.specs.Hosts.{host_in}
use Rattle.hmc_schedule.specs.declared.step.Step.{Step}
use Rattle.hmc_session.specs.Session.{waits_in}
use Rattle.hmc_session.proofs.session.waits.Goals as goal

pub returns-then-not-is_finished : goal.returns-then-not-is_finished
returns-then-not-is_finished g c =
    let finished = c.args.finished.now in
    let hosts = c.args.network.now.hosts in
    let at_end = is_at_end (host_in hosts c.in-Give.host) in
    c.is_at_end.ensures
    ∙ ap (λ (b : Bool). not b && at_end) (sym c.if-not-is_finished.true ∙ c.is_finished.ensures)
    ∙ ap (λ (step : Step). waits_in finished hosts step) (sym c.in-Give.is)

pub returns-else-not-is_finished : goal.returns-else-not-is_finished
returns-else-not-is_finished g c =
    let finished = c.args.finished.now in
    let hosts = c.args.network.now.hosts in
    let at_end = is_at_end (host_in hosts c.in-Give.host) in
    ap not c.if-not-is_finished.false
    ∙ ap (λ (b : Bool). not b && at_end) (sym c.if-not-is_finished.false ∙ c.is_finished.ensures)
    ∙ ap (λ (step : Step). waits_in finished hosts step) (sym c.in-Give.is)

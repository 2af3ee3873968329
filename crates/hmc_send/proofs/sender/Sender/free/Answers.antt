use Rattle.std.proofs.Common.{◌∙◌, ap}
use Rattle.hmc_send.specs.Choice.{is_free}
use Rattle.hmc_send.specs.declared.state.State.{State}
use Rattle.hmc_send.specs.Given.{given_only}
use Rattle.hmc_send.specs.Sender.{view_held}
use Rattle.hmc_send.proofs.Views.{view-same}
use Rattle.hmc_send.proofs.sender.Sender.free.Goals as goal

pub returns-clause-by_list : goal.returns-clause-by_list
returns-clause-by_list c = λ past stands.
    c.is_free.ensures ∙ ap (λ (held : State). is_free (view_held held (given_only c.args.own))) c.self.view_is
    ∙ ap is_free (view-same c.args.self.now past (given_only c.args.own) stands)

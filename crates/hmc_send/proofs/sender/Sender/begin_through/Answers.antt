-- What the call on the state gives, of the state that the sender holds.
use Rattle.std.proofs.Common.{◌∷◌, ◌∙◌, List, ap, subst}
use Rattle.hmc_send.specs.Entries.{SenderEntry}
use Rattle.hmc_send.specs.Sender.{after_through}
use Rattle.hmc_send.specs.StandsFor.{StandsFor}
use Rattle.hmc_send.specs.declared.state.State.{State}
use Rattle.hmc_send.proofs.sender.Sender.begin_through.Goals as goal

pub returns-clause-stands : goal.returns-clause-stands
returns-clause-stands c =
    subst (λ (held : State). (past : List SenderEntry) → StandsFor held past → StandsFor c.begin_through.new.self (SenderEntry.through c.args.head c.args.flits c.args.account.now.due ∷ past))
    c.self.view_is c.begin_through.ensures.stands

pub returns-clause-left : goal.returns-clause-left
returns-clause-left c =
    c.begin_through.ensures.left ∙ ap (λ (held : State). after_through c.args.head c.args.flits c.args.account.now.due held) c.self.view_is

pub returns-clause-account : goal.returns-clause-account
returns-clause-account c = c.begin_through.ensures.account

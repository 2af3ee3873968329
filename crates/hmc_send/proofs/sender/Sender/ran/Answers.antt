-- What the call on the state gives, of the state that the sender holds.
use Rattle.std.proofs.Common.{◌∷◌, ◌∙◌, List, ap, subst}
use Rattle.hmc_send.specs.Entries.{SenderEntry}
use Rattle.hmc_send.specs.Sender.{after_ran}
use Rattle.hmc_send.specs.StandsFor.{StandsFor}
use Rattle.hmc_send.specs.declared.state.State.{State}
use Rattle.hmc_send.proofs.sender.Sender.ran.Goals as goal

pub returns-clause-stands : goal.returns-clause-stands
returns-clause-stands c =
    subst (λ (held : State). (past : List SenderEntry) → StandsFor held past → StandsFor c.ran.new.self (SenderEntry.ran ∷ past))
    c.self.view_is c.ran.ensures.stands

pub returns-clause-left : goal.returns-clause-left
returns-clause-left c = c.ran.ensures.left ∙ ap after_ran c.self.view_is

-- What the call on the state gives, of the state that the sender holds.
use Rattle.std.proofs.Common.{◌≡◌, ◌∙◌, List, ap, subst}
use Rattle.hmc_retry.specs.RetryBuffer.{acknowledged_by, acknowledgement}
use Rattle.hmc_send.specs.Acknowledged.{acknowledged_after, base_after, entries_acknowledged}
use Rattle.hmc_send.specs.Entries.{SenderEntry}
use Rattle.hmc_send.specs.Sender.{after_acknowledged}
use Rattle.hmc_send.specs.StandsFor.{StandsFor}
use Rattle.hmc_send.specs.declared.state.State.{State}
use Rattle.hmc_send.proofs.sender.Sender.acknowledge.Goals as goal

pub returns-clause-answer : goal.returns-clause-answer
returns-clause-answer c =
    subst (λ (held : State). (past : List SenderEntry) → StandsFor held past → c.acknowledge.result ≡ acknowledgement c.args.rrp (base_after held.retry.profile past) (acknowledged_after held.retry.profile c.args.rrp past))
    c.self.view_is c.acknowledge.ensures.answer

pub returns-clause-stands : goal.returns-clause-stands
returns-clause-stands c =
    subst (λ (held : State). (past : List SenderEntry) → StandsFor held past → StandsFor c.acknowledge.new.self (entries_acknowledged (acknowledged_after held.retry.profile c.args.rrp past) past))
    c.self.view_is c.acknowledge.ensures.stands

pub returns-clause-left : goal.returns-clause-left
returns-clause-left c =
    c.acknowledge.ensures.left ∙ ap (λ (held : State). after_acknowledged c.args.rrp (acknowledged_by c.args.rrp held.retry) held) c.self.view_is

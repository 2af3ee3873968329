-- What the call on the state gives, of the state that the sender holds.
use Rattle.std.proofs.Common.{◌≡◌, ◌∙◌, List, ap, subst}
use Rattle.hmc_send.specs.Choice.{choice, view_after}
use Rattle.hmc_send.specs.Entries.{SenderEntry}
use Rattle.hmc_send.specs.Given.{given_of}
use Rattle.hmc_send.specs.Sender.{after_send}
use Rattle.hmc_send.specs.StandsFor.{StandsFor, entries_after}
use Rattle.hmc_send.specs.declared.state.State.{State}
use Rattle.hmc_send.proofs.sender.Sender.send.Goals as goal

pub returns-clause-answer : goal.returns-clause-answer
returns-clause-answer g c =
    let given = given_of c.args.own (g.Q.Intake.packets c.args.queue.now) c.args.account.now c.args.feed in
    subst (λ (held : State). (past : List SenderEntry) → StandsFor held past → c.send.result ≡ choice held.retry.profile (view_after held.retry.profile held.retry.flits past given))
    c.self.view_is c.send.ensures.answer

pub returns-clause-stands : goal.returns-clause-stands
returns-clause-stands g c =
    let given = given_of c.args.own (g.Q.Intake.packets c.args.queue.now) c.args.account.now c.args.feed in
    subst (λ (held : State). (past : List SenderEntry) → StandsFor held past → StandsFor c.send.new.self (entries_after given c.send.result past))
    c.self.view_is c.send.ensures.stands

pub returns-clause-left : goal.returns-clause-left
returns-clause-left g c =
    let given = given_of c.args.own (g.Q.Intake.packets c.args.queue.now) c.args.account.now c.args.feed in
    c.send.ensures.left ∙ ap (after_send given c.send.result) c.self.view_is

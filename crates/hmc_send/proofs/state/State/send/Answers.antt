use Rattle.std.proofs.Common.{sym, subst}
use Rattle.hmc_send.specs.declared.state.State.{State}
use Rattle.hmc_send.specs.Given.{given_of}
use Rattle.hmc_send.specs.IsSender.{IsSender}
use Rattle.hmc_send.proofs.KeepSends.{keep-send}
use Rattle.hmc_send.specs.StandsFor.{StandsFor, entries_after}
use Rattle.hmc_send.proofs.SendLemmas.{sent-stands, sent-answer}
use Rattle.hmc_send.proofs.state.State.send.Goals as goal

pub returns-clause-answer : goal.returns-clause-answer
returns-clause-answer g c = λ past stands. sent-answer c.args.self.now past _ c.choose.result c.requires.sender.profile c.choose.ensures.answer stands

pub returns-clause-stands : goal.returns-clause-stands
returns-clause-stands g c = λ past stands.
    let given = given_of c.args.own (g.Q.Intake.packets c.args.queue.now) c.args.account.now c.args.feed.now in
    subst (λ (t : State). StandsFor t (entries_after given c.choose.result past)) (sym c.choose.ensures.left)
    (sent-stands c.args.self.now past given c.choose.result c.requires.sender.profile c.choose.ensures.may c.choose.ensures.answer stands)

pub returns-clause-keeps : goal.returns-clause-keeps
returns-clause-keeps g c =
    let given = given_of c.args.own (g.Q.Intake.packets c.args.queue.now) c.args.account.now c.args.feed.now in
    subst IsSender (sym c.choose.ensures.left) (keep-send c.args.self.now given c.choose.result c.requires.sender c.choose.ensures.may c.requires.front c.choose.ensures.begun c.choose.ensures.answer)

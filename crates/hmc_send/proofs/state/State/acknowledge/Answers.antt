use Rattle.std.proofs.Common.{◌∙◌, sym, subst}
use Rattle.hmc_retry.specs.RetryBuffer.{RetryFields, acknowledgement}
use Rattle.hmc_send.specs.Acknowledged.{acknowledged_after, entries_acknowledged}
use Rattle.hmc_send.specs.IsSender.{IsSender}
use Rattle.hmc_send.specs.StandsFor.{StandsFor}
use Rattle.hmc_send.proofs.CallLemmas.{keep-acknowledged, acknowledged-same, stands-acked}
use Rattle.hmc_send.proofs.state.State.acknowledge.Goals as goal

pub returns-clause-keeps : goal.returns-clause-keeps
returns-clause-keeps c =
    subst (λ (t : RetryFields). IsSender (record c.args.self.now { retry = t })) (sym c.acknowledge.ensures.left)
    (keep-acknowledged c.args.self.now c.args.rrp c.requires.sender)

pub returns-clause-answer : goal.returns-clause-answer
returns-clause-answer c = λ past stands.
    c.acknowledge.ensures.answer ∙ (λ i. acknowledgement c.args.rrp (stands.base i) (acknowledged-same c.args.self.now past c.args.rrp stands i))

pub returns-clause-stands : goal.returns-clause-stands
returns-clause-stands c = λ past stands.
    subst
    (λ (t : RetryFields). StandsFor (record c.args.self.now { retry = t }) (entries_acknowledged (acknowledged_after c.args.self.now.retry.profile c.args.rrp past) past))
    (sym c.acknowledge.ensures.left) (stands-acked c.args.self.now past c.args.rrp c.requires.sender stands)

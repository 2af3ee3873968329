-- A step that waits is a give that finds no request left.
use Rattle.std.proofs.Common.{◌≡◌, ap, sym, subst}
use Rattle.hmc_session.specs.Session.{SessionFields, StandsIn, IsWaiting, session_of}
use Rattle.hmc_session.specs.declared.refusal.NotTaken.TheVariants.{Waits}
use Rattle.hmc_session.proofs.Standing.{host_there, is_waiting, refused_now}
use Rattle.hmc_session.proofs.session.Session.step_refusal.Goals as goal

pub due_refusal-requires : goal.due_refusal-requires
due_refusal-requires g c = λ host there.
    let i = c.self.inside in
    let slots = g.B.Workbench.slots in
    let s : SessionFields = session_of slots (record { network = i.network; plan = i.plan; finished = i.finished; taken = i.count.taken; passed = i.count.passed }) in
    host_there s host c.self.invariant there

pub returns-clause-waits : goal.returns-clause-waits
returns-clause-waits g c = λ setup past is refused.
    let i = c.self.inside in
    let slots = g.B.Workbench.slots in
    let s : SessionFields = session_of slots (record { network = i.network; plan = i.plan; finished = i.finished; taken = i.count.taken; passed = i.count.passed }) in
    let same : s ≡ session_of slots c.args.self.now = ap (session_of slots) c.self.view_is in
    let before : StandsIn s setup past = subst (λ (x : SessionFields). StandsIn x setup past) (sym same) is in
    let now = refused_now s c.args.step.now c.is_over.result c.due_refusal.result Waits c.is_over.ensures c.if-is_over.false c.due_refusal.ensures.value refused in
    subst (λ (x : SessionFields). IsWaiting x.finished setup past c.args.step.now) same (is_waiting s setup past c.args.step.now c.self.invariant before now)

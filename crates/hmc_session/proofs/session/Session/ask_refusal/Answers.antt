-- A host of the plan is there.
use Rattle.std.proofs.Common.{arith}
use Rattle.hmc_session.specs.Session.{SessionFields, session_of}
use Rattle.hmc_session.proofs.Standing.{host_there}
use Rattle.hmc_session.proofs.session.Session.ask_refusal.Goals as goal

pub asked-requires : goal.asked-requires
asked-requires g c =
    let i = c.self.inside in
    let s : SessionFields = session_of g.B.Workbench.slots (record { network = i.network; plan = i.plan; finished = i.finished; taken = i.count.taken; passed = i.count.passed }) in
    host_there s c.args.host c.self.invariant (omega (arith, c.if-host-host_count.false, c.host_count.ensures.count))

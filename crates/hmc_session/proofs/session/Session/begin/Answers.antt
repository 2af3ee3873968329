-- The first session of the case.
use Rattle.std.proofs.Common.{[], sym, subst}
use Rattle.hmc_net.specs.NetState.{net_of}
use Rattle.hmc_session.specs.Count.{CountFields}
use Rattle.hmc_session.specs.Session.{StandsIn, IsSession, begun}
use Rattle.hmc_session.proofs.Beginning.{first_of, stands_first, keeps_first}
use Rattle.hmc_session.proofs.session.Session.begin.Goals as goal

pub invariant_of-result : goal.invariant_of-result
invariant_of-result g c =
    let slots = g.B.Workbench.slots in
    let net = net_of slots c.in_ok-network.network in
    let first = first_of net c.in_ok-plan.plan in
    subst (λ (n : CountFields). IsSession (record first { taken = n.taken; passed = n.passed })) (sym c.new.ensures)
    (keeps_first net c.args.case.now (slots c.args.bench) c.in_ok-plan.plan c.in_ok-network.ensures c.invariant.ensures c.in_ok-plan.ensures)

pub returns-clause-stands : goal.returns-clause-stands
returns-clause-stands g c =
    let slots = g.B.Workbench.slots in
    let net = net_of slots c.in_ok-network.network in
    let first = first_of net c.in_ok-plan.plan in
    subst (λ (n : CountFields). StandsIn (record first { taken = n.taken; passed = n.passed }) (begun c.args.case.now (slots c.args.bench)) []) (sym c.new.ensures)
    (stands_first net c.args.case.now (slots c.args.bench) c.in_ok-plan.plan c.in_ok-network.ensures)

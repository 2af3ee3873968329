use Rattle.std.proofs.Common.{◌∙◌, length, ap, arith}
use Rattle.hmc_case.proofs.PlanLemmas.{length-plans_of}
use Rattle.hmc_case.proofs.plan.plan_of.Goals as goal

pub invariant_of-result : goal.invariant_of-result
invariant_of-result c =
    let net = c.net.invariant in
    let plans = ap length c.in_ok-cubes.ensures ∙ length-plans_of c.deref.result.now 0 c.deref-2.result.now in
    let cubes = ap length c.deref-2.ensures.value in
    record {
      some_hosts = net.some_hosts;
      hosts = net.few_hosts;
      some_directions = omega (arith, c.len.ensures, net.some_links);
      directions = omega (arith, c.len.ensures, net.few_links);
      some_cubes = omega (arith, plans, cubes, net.graph.some_cubes);
      cubes = omega (arith, plans, cubes, net.graph.few_cubes);
    }

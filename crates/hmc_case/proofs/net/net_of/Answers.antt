use Rattle.std.proofs.Common.{◌≡◌, ◌≤◌, ◌==◌, ℕ, List, length, nat_lt, subst, arith}
use Rattle.std.specs.List.{list_any}
use Rattle.hmc_codes.specs.Limits.{most_memory}
use Rattle.hmc_routes.specs.Parted.{InOnePart}
use Rattle.hmc_case.proofs.HostsLemmas.{hosts_below, hosts_are, graph_is}
use Rattle.hmc_case.proofs.NetLemmas.{holds-ok}
use Rattle.hmc_case.specs.Graph.{graph_of, AreLinks}
use Rattle.hmc_case.specs.Setup.{CubeSetupFields}
use Rattle.hmc_case.specs.Together.{hosts_of, host_count, total_capacity}
use Rattle.hmc_case.specs.declared.fault.Section.TheVariants as sections
use Rattle.hmc_case.specs.declared.setup.LinkRow.{LinkRow}
use Rattle.hmc_case.proofs.net.net_of.Goals as goal

pub hosts_from_zero-requires : goal.hosts_from_zero-requires
hosts_from_zero-requires c = rw c.deref-2.ensures.value (hosts_below c.in_ok-links.links.items _ c.in_ok-links.ensures.within.ends_exist)

pub in_one_part-requires : goal.in_one_part-requires
in_one_part-requires c =
    let exact = subst (λ (links : List LinkRow). (host : ℕ) → list_any (λ other. other == host) (hosts_of links) ≡ nat_lt host c.in_ok-hosts.hosts) c.deref-2.ensures.value c.in_ok-hosts.ensures.exact in
    rw c.deref-3.ensures.value
    (graph_is c.len-number.result c.in_ok-links.links.items c.in_ok-hosts.hosts (omega (arith, c.len-number.ensures, c.in_ok-cubes.ensures.count)) (omega (arith, c.len-number.ensures, c.in_ok-cubes.ensures.count))
    c.in_ok-links.ensures.within exact)

pub invariant_of-result : goal.invariant_of-result
invariant_of-result c =
    let cubes = length c.in_ok-cubes.cubes.items in
    let links = c.in_ok-links.links.items in
    let hosts = c.in_ok-hosts.hosts in
    let number : c.len-number.result ≡ cubes = omega (arith, c.len-number.ensures) in
    let are = subst (λ (n : ℕ). AreLinks n links) number c.in_ok-links.ensures.within in
    let exact = subst (λ (ls : List LinkRow). (host : ℕ) → list_any (λ other. other == host) (hosts_of ls) ≡ nat_lt host hosts) c.deref-2.ensures.value c.in_ok-hosts.ensures.exact in
    let part = subst (λ (ls : List LinkRow). InOnePart (graph_of c.len-number.result ls)) c.deref-3.ensures.value c.in_ok-in_one_part.ensures.one_part in
    let capacity = holds-ok (total_capacity c.deref.result.now ≤ most_memory) sections.Net 0 c.in_capacity.result c.in_ok-in_section.field-0 c.in_ok-in_section.ensures.value c.in_capacity.ensures.within in
    record {
      cubes = c.in_ok-cubes.ensures.within;
      capacity = subst (λ (cs : List CubeSetupFields). total_capacity cs ≤ most_memory) c.deref.ensures.value capacity;
      some_links = omega (arith, c.in_ok-links.ensures.count);
      few_links = omega (arith, c.in_ok-links.ensures.count);
      sizes = are.sizes;
      graph = graph_is cubes links hosts (omega (arith, c.in_ok-cubes.ensures.count)) (omega (arith, c.in_ok-cubes.ensures.count)) are exact;
      one_part = subst (λ (n : ℕ). InOnePart (graph_of n links)) number part;
      some_hosts = c.in_ok-hosts.ensures.some;
      few_hosts = c.in_ok-hosts.ensures.few;
      all_hosts = subst (λ (ls : List LinkRow). hosts ≡ host_count ls) c.deref-2.ensures.value c.in_ok-hosts.ensures.all;
      hosts = hosts_are cubes links hosts are exact;
    }

-- The setup of every case is a network.
use Rattle.std.proofs.Common.{◌≡◌, ◌≤◌, ℕ, Option, List, length, nat_lt, subst}
use Rattle.std.specs.List.{All}
use Rattle.hmc_codes.specs.Limits.{most_hosts}
use Rattle.hmc_units.specs.Unit.{UnitFields}
use Rattle.hmc_routes.specs.WellFormed.{is_host_of}
use Rattle.hmc_case.specs.Case.{CaseFields, IsCase}
use Rattle.hmc_case.specs.Graph.{graph_of}
use Rattle.hmc_journal.specs.Network.{IsItemOf, IsNetwork}
use Rattle.hmc_journal.specs.Setup.{setup_of}

-- the requests of a case are good, and of its hosts to its cubes
items_of : (case : CaseFields) → IsCase case → All (IsItemOf case.net.hosts (length case.net.cubes)) case.script
items_of case is = λ k d there. record {
  within = is.script k d there;
  request = is.requests.requests k d there;
}

-- a case is a network
pub network_of : (case : CaseFields) (slots : List (Option UnitFields)) → IsCase case → IsNetwork (setup_of case slots)
network_of case slots is =
    let net = is.net in
    let links = case.net.links in
    let cubes = length case.net.cubes in
    let hosts = net.all_hosts in record {
      some_hosts = subst (λ (n : ℕ). 1 ≤ n) hosts net.some_hosts;
      few_hosts = subst (λ (n : ℕ). n ≤ most_hosts) hosts net.few_hosts;
      few_links = net.few_links;
      graph = net.graph;
      one_part = net.one_part;
      hosts = subst (λ (n : ℕ). (host : ℕ) → is_host_of (graph_of cubes links) host ≡ nat_lt host n) hosts net.hosts;
      cubes = net.cubes;
      sizes = net.sizes;
      masks = is.masks;
      items = subst (λ (n : ℕ). All (IsItemOf n cubes) case.script) hosts (items_of case is);
    }

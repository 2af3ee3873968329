-- Cubes and links that are read are those of a case.
use Rattle.std.proofs.Common.{◌≡◌, ◌≤◌, ◌∙◌, ◌==◌, ℕ, nat_le, nat_lt, Bool, true, not, is_some, Option, Some, None, List, length, refl, sym, ap, arith, leb-true}
use Rattle.std.proofs.lemmas.Bool.{and_parts}
use Rattle.std.specs.List.{All, list_any, list_all}
use Rattle.toml.specs.Data.{Items}
use Rattle.hmc_codes.specs.Graph.{GraphFields}
use Rattle.hmc_codes.specs.Limits.{most_cubes, most_links, most_memory}
use Rattle.hmc_codes.specs.Numbers.{upto}
use Rattle.hmc_codes.specs.declared.profile.Profile.{Profile}
use Rattle.hmc_routes.proofs.PartedLemmas.{one_part}
use Rattle.hmc_routes.specs.Parted.{parted, InOnePart}
use Rattle.hmc_case.proofs.HostsLemmas.{hosts_below, few_hosts, from_zero, hosts_are, graph_is}
use Rattle.hmc_case.specs.Graph.{graph_of, in_one_part, AreLinks}
use Rattle.hmc_case.specs.Keys.{count_of}
use Rattle.hmc_case.specs.Net.{IsNet, net_of}
use Rattle.hmc_case.specs.Setup.{CubeSetupFields, IsCubeSetup}
use Rattle.hmc_case.specs.Together.{total_capacity, in_capacity, hosts_of, are_from_zero, count_from_zero}
use Rattle.hmc_case.specs.declared.fault.CaseKind.TheVariants as kinds
use Rattle.hmc_case.specs.declared.fault.Section.TheVariants as sections
use Rattle.hmc_case.specs.declared.setup.LinkRow.{LinkRow}
use Rattle.hmc_cases.proofs.Cubes.{cubes_known}
use Rattle.hmc_cases.proofs.Keys.{IsAmong}
use Rattle.hmc_cases.proofs.Links.{links_known}
use Rattle.hmc_cases.proofs.Reading.{IfRead, value, after, so, tested, in_section_too}

capacity_known : (cubes : List CubeSetupFields)
    → IfRead (in_capacity cubes) (λ done. total_capacity cubes ≤ most_memory)
capacity_known cubes =
    so (tested kinds.Capacity (nat_le (total_capacity cubes) most_memory)) (λ done is.
    leb-true (total_capacity cubes) most_memory is)

-- the hosts are numbered from 0, and so many
record AreHosts (hosts : List ℕ) (count : ℕ) : Type 0 where
  some : 1 ≤ count
  all : count ≡ length hosts
  from_zero : are_from_zero hosts ≡ true

count_known : (hosts : List ℕ) → IfRead (count_from_zero hosts) (AreHosts hosts)
unfolding count_from_zero
count_known hosts =
    after (tested kinds.Hosts (nat_le 1 (length hosts))) (λ done some.
    after (tested kinds.Hosts (are_from_zero hosts)) (λ done are.
    value (record { some = leb-true 1 (length hosts) some; all = refl; from_zero = are })))

one_part_known : (graph : GraphFields) → IfRead (in_one_part graph) (λ done. InOnePart graph)
one_part_known graph =
    so (tested kinds.Parted (not (is_some (parted graph)))) (λ done is.
    one_part graph (none (parted graph) is))
  where
    none : (pair : Option (ℕ × ℕ)) → not (is_some pair) ≡ true → pair ≡ None
    none None is = refl
    none (Some pair) is = cc

-- what is known part by part is what the cubes and links of every case keep
net_good : (cubes : List CubeSetupFields) (links : List LinkRow) (count : ℕ)
    → IsAmong 1 most_cubes (length cubes) → All IsCubeSetup cubes
    → total_capacity cubes ≤ most_memory
    → IsAmong 1 most_links (length links) → AreLinks (length cubes) links
    → AreHosts (hosts_of links) count → InOnePart (graph_of (length cubes) links)
    → IsNet (record { cubes = cubes; links = links; hosts = count })
net_good cubes links count in_cubes set_up fits in_links are counted whole =
    let hosts = hosts_of links in
    let has : ℕ → Bool = λ host. list_any (λ other. other == host) hosts in
    let limit = length hosts in
    let all_below = list_all (λ host. nat_lt host limit) hosts in
    let tests = and_parts all_below (list_all has (upto limit)) counted.from_zero in
    let exact : (host : ℕ) → has host ≡ nat_lt host count =
    λ host. from_zero hosts tests.0 tests.1 host ∙ ap (nat_lt host) (sym counted.all) in
    let few = few_hosts hosts (hosts_below links (length cubes) are.ends_exist) tests.1 in
    record {
      cubes = set_up;
      capacity = fits;
      some_links = in_links.least_is;
      few_links = in_links.most_is;
      sizes = are.sizes;
      graph = graph_is (length cubes) links count in_cubes.least_is in_cubes.most_is are exact;
      one_part = whole;
      some_hosts = counted.some;
      few_hosts = omega (arith, counted.all, few);
      all_hosts = counted.all;
      hosts = hosts_are (length cubes) links count are exact;
    }

-- there are as many as items
as_many : (most n count : ℕ) → n ≡ count → IsAmong 1 most count → IsAmong 1 most n
as_many most n count same is = record {
  least_is = omega (arith, same, is.least_is);
  most_is = omega (arith, same, is.most_is);
}

pub net_known : (profile : Profile) (cubes links : Items)
    → IsAmong 1 most_cubes (count_of cubes) → IsAmong 1 most_links (count_of links)
    → IfRead (net_of profile cubes links) IsNet
unfolding net_of
net_known profile cube_rows link_rows in_cubes in_links =
    after (cubes_known profile cube_rows) (λ cubes set_up.
    after (in_section_too sections.Net 0 (capacity_known cubes)) (λ done fits.
    after (links_known profile (length cubes) link_rows) (λ links are.
    after (in_section_too sections.Net 0 (count_known (hosts_of links))) (λ count counted.
    let graph = graph_of (length cubes) links in
    after (in_section_too sections.Net 0 (one_part_known graph)) (λ done whole.
    let some_cubes = as_many most_cubes (length cubes) (count_of cube_rows) set_up.1 in_cubes in
    let some_links = as_many most_links (length links) (count_of link_rows) are.1 in_links in
    value (net_good cubes links count some_cubes set_up.0 fits some_links are.0 counted whole))))))

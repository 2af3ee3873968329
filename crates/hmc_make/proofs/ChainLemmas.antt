-- Chains of 1 to 4 cubes are nets.
use Rattle.std.proofs.Common.{◌≡◌, ◌≤◌, ◌∙◌, ◌==◌, ◌||◌, ℕ, ◌+◌, ◌*◌, zero, suc, List, [], ◌∷◌, length, map, replicate, false, nat_lt, refl, sym, ap, arith, lit≤, Result, Ok, Err, IfOk}
use Rattle.std.proofs.lemmas.Bool.Decides.{nat_tests}
use Rattle.std.proofs.lemmas.List.{length-replicate}
use Rattle.std.proofs.lemmas.List.Elements.{All-nil, All-cons, All-replicate, All-map}
use Rattle.std.proofs.lemmas.List.FromFn.{length-map-range_with_len}
use Rattle.std.specs.List.{All, list_any, range_with_len}
use Rattle.hmc_case.proofs.HostsLemmas.{host_joined}
use Rattle.hmc_case.specs.Graph.{graph_of}
use Rattle.hmc_case.specs.Net.{IsNet, net_with}
use Rattle.hmc_case.specs.Plan.{plan_of, plans_of}
use Rattle.hmc_case.specs.Setup.{CubeSetupFields, IsCubeSetup}
use Rattle.hmc_case.specs.Together.{total_capacity, hosts_of, host_count}
use Rattle.hmc_case.specs.declared.setup.LinkRow.{LinkRow}
use Rattle.hmc_codes.specs.Limits.{most_memory}
use Rattle.hmc_codes.specs.Link.{IsLinkSetup}
use Rattle.hmc_codes.specs.Numbers.{upto}
use Rattle.hmc_codes.specs.declared.place.Place.TheVariants.{Host, Port}
use Rattle.hmc_make.proofs.Four.{at_each}
use Rattle.hmc_make.specs.Chain.{cube, link, joined_to, links_of, chain_of}
use Rattle.hmc_make.specs.Plan.{cube_plan}
use Rattle.hmc_routes.proofs.PartedLemmas.{one_part}
use Rattle.hmc_routes.specs.Distance.{within}
use Rattle.hmc_routes.specs.Neighbours.{joined_to as far_of}
use Rattle.hmc_routes.specs.Parted.{parted, InOnePart}
use Rattle.hmc_routes.specs.WellFormed.{IsGraph, is_host_of, has_no_gap}
use Rattle.hmc_schedule.specs.Plan.{CubePlanFields, IsPlan}
use Rattle.hmc_script.specs.Items.{ItemFields, IsWithin}
use Rattle.hmc_schedule.specs.Round.{round_of, shifts_of, spreads_of, banks_of, lifts_of}

-- what was collected is an equal list
pub same-list : {V E X : Type 0} (items : V → List X) (made : Result V E) (xs ys : List X) → xs ≡ ys → IfOk made (λ v. items v ≡ xs) → IfOk made (λ v. items v ≡ ys)
same-list items (Ok v) xs ys same is = is ∙ same
same-list items (Err e) xs ys same is = tt

-- the same cube again and again
pub cubes-alike : (x : CubeSetupFields) (a n : ℕ) → map (λ number. x) (range_with_len a n) ≡ replicate n x
cubes-alike x a zero = refl
cubes-alike x a (suc n) = ap (λ (xs : List CubeSetupFields). x ∷ xs) (cubes-alike x (a + 1) n)

pub length-links : (n : ℕ) → length (links_of n) ≡ n
length-links n = length-map-range_with_len (λ cube. link (joined_to cube) (Port cube 0)) 0 n

cube-set_up : IsCubeSetup cube
cube-set_up = record {
  shape = record { vault_bits = lit≤ tt; bank_bits = lit≤ tt; some_rows = lit≤ tt; rows = lit≤ tt; block = refl };
  some_queue = lit≤ tt;
  queue = lit≤ tt;
}

cubes-set_up : (n : ℕ) → All IsCubeSetup (replicate n cube)
cubes-set_up n = All-replicate IsCubeSetup n cube cube-set_up

links-set_up : (n : ℕ) → All (λ (row : LinkRow). IsLinkSetup row.setup) (links_of n)
links-set_up n =
    All-map (λ (row : LinkRow). IsLinkSetup row.setup) (λ cube. link (joined_to cube) (Port cube 0)) (upto n)
    (all (upto n))
  where
    one : IsLinkSetup (link (Host 0) (Host 0)).setup
    one = record { some_line = lit≤ tt; line = lit≤ tt; some_tokens = lit≤ tt; tokens = lit≤ tt; some_retry = lit≤ tt; retry = lit≤ tt; some_output = lit≤ tt; output = lit≤ tt }

    all : (cubes : List ℕ) → All (λ (cube : ℕ). IsLinkSetup (link (joined_to cube) (Port cube 0)).setup) cubes
    all [] = All-nil (λ (cube : ℕ). IsLinkSetup (link (joined_to cube) (Port cube 0)).setup)
    all (cube ∷ cubes) = All-cons (λ (cube : ℕ). IsLinkSetup (link (joined_to cube) (Port cube 0)).setup) cube cubes one (all cubes)

-- the graph of a chain

pub chain-graph : (n : ℕ) → 1 ≤ n → n ≤ 4 → IsGraph (graph_of (length (replicate n cube)) (links_of n))
unfolding far_of has_no_gap
chain-graph n some few =
    at_each (λ (n : ℕ). IsGraph (graph_of (length (replicate n cube)) (links_of n))) n some few
    (record { some_cubes = lit≤ tt; few_cubes = lit≤ tt; ends_exist = refl; joined_once = refl; ends_apart = refl; no_gap = refl })
    (record { some_cubes = lit≤ tt; few_cubes = lit≤ tt; ends_exist = refl; joined_once = refl; ends_apart = refl; no_gap = refl })
    (record { some_cubes = lit≤ tt; few_cubes = lit≤ tt; ends_exist = refl; joined_once = refl; ends_apart = refl; no_gap = refl })
    (record { some_cubes = lit≤ tt; few_cubes = lit≤ tt; ends_exist = refl; joined_once = refl; ends_apart = refl; no_gap = refl })

pub chain-one_part : (n : ℕ) → 1 ≤ n → n ≤ 4 → InOnePart (graph_of (length (replicate n cube)) (links_of n))
unfolding far_of within parted
chain-one_part n some few =
    at_each (λ (n : ℕ). InOnePart (graph_of (length (replicate n cube)) (links_of n))) n some few
    (one_part (graph_of 1 (links_of 1)) refl)
    (one_part (graph_of 2 (links_of 2)) refl)
    (one_part (graph_of 3 (links_of 3)) refl)
    (one_part (graph_of 4 (links_of 4)) refl)

pub one_host : (n : ℕ) → 1 ≤ n → n ≤ 4 → host_count (links_of n) ≡ 1
one_host n some few = at_each (λ (n : ℕ). host_count (links_of n) ≡ 1) n some few refl refl refl refl

only_zero : (host : ℕ) → (0 == host || false) ≡ nat_lt host 1
only_zero host = grind (arith, nat_tests)

host-alone : (n : ℕ) → 1 ≤ n → n ≤ 4 → (host : ℕ) → is_host_of (graph_of (length (replicate n cube)) (links_of n)) host ≡ nat_lt host 1
host-alone n some few host =
    let hosts = at_each (λ (n : ℕ). hosts_of (links_of n) ≡ 0 ∷ []) n some few refl refl refl refl in
    host_joined (links_of n) host (chain-graph n some few).ends_apart ∙ ap (list_any (λ other. other == host)) hosts ∙ only_zero host

pub chain-net : (n : ℕ) → 1 ≤ n → n ≤ 4 → IsNet (chain_of n)
chain-net n some few = record {
  cubes = cubes-set_up n;
  capacity = at_each (λ (n : ℕ). total_capacity (replicate n cube) ≤ most_memory) n some few (lit≤ tt) (lit≤ tt) (lit≤ tt) (lit≤ tt);
  some_links = omega (arith, length-links n);
  few_links = omega (arith, length-links n);
  sizes = links-set_up n;
  graph = chain-graph n some few;
  one_part = chain-one_part n some few;
  some_hosts = omega (arith, one_host n some few);
  few_hosts = omega (arith, one_host n some few);
  all_hosts = refl;
  hosts = λ host. host-alone n some few host ∙ ap (nat_lt host) (sym (one_host n some few));
}

-- the plan of a chain

pub chain-plans : (n : ℕ) → 1 ≤ n → n ≤ 4 → map (cube_plan n) (upto n) ≡ plans_of (links_of n) 0 (replicate n cube)
chain-plans n some few =
    at_each (λ (n : ℕ). map (cube_plan n) (upto n) ≡ plans_of (links_of n) 0 (replicate n cube)) n some few refl refl refl refl

pub chain-plan : (n : ℕ) (cubes : List CubePlanFields) → 1 ≤ n → n ≤ 4 → cubes ≡ map (cube_plan n) (upto n) → record { hosts = 1; directions = 2 * n; cubes = cubes } ≡ plan_of (chain_of n)
chain-plan n cubes some few are =
    let hosts = one_host n some few in
    let links = length-links n in
    let plans = chain-plans n some few in
    cc

pub is-plan : (n : ℕ) (cubes : List CubePlanFields) → 1 ≤ n → n ≤ 4 → cubes ≡ map (cube_plan n) (upto n) → IsPlan (record { hosts = 1; directions = 2 * n; cubes = cubes })
is-plan n cubes some few are =
    let len : length cubes ≡ n = ap length are ∙ length-map-range_with_len (cube_plan n) 0 n in
    record { some_hosts = lit≤ tt; hosts = lit≤ tt; some_directions = omega arith; directions = omega arith; some_cubes = omega arith; cubes = omega arith }

-- a round has few steps
pub short_round : (n : ℕ) → 1 ≤ n → n ≤ 4 → length (round_of (plan_of (chain_of n))) ≤ 65
unfolding round_of shifts_of spreads_of banks_of lifts_of
short_round n some few =
    at_each (λ (n : ℕ). length (round_of (plan_of (chain_of n))) ≤ 65) n some few (lit≤ tt) (lit≤ tt) (lit≤ tt) (lit≤ tt)

-- what the case of a number is made of

pub net_of_parts : (n : ℕ) (cubes : List CubeSetupFields) (links : List LinkRow) → 1 ≤ n → n ≤ 4 → cubes ≡ replicate n cube → links ≡ links_of n → IsNet (net_with cubes links)
net_of_parts n cubes links some few are joined = rw (are, joined) (chain-net n some few)

pub script_of_parts : (n : ℕ) (cubes : List CubeSetupFields) (links : List LinkRow) (script : List ItemFields) → 1 ≤ n → n ≤ 4 → cubes ≡ replicate n cube → links ≡ links_of n → All (IsWithin 1 n) script → All (IsWithin (host_count links) (length cubes)) script
script_of_parts n cubes links script some few are joined within = rw (are, joined, one_host n some few, length-replicate n cube) within

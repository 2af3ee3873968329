-- What tables and homes hold.
use Rattle.std.proofs.Common.{rules, ◌≡◌, ◌≤◌, ◌<◌, ◌∙◌, ◌==◌, ◌↔◌, if◌then◌else◌, ℕ, true, nat_lt, List, Option, Some, None, IfSome, IsNone, slice_index_or, option_and_then, refl, sym, ap, subst, arith}
use Rattle.std.proofs.lemmas.Option.{same_Some}
use Rattle.hmc_codes.specs.Graph.{GraphFields}
use Rattle.hmc_codes.specs.Limits.{ports, most_hosts}
use Rattle.hmc_codes.specs.declared.place.Place.{Place}
use Rattle.hmc_codes.specs.declared.place.Place.TheVariants.{Host, Port}
use Rattle.hmc_routes.proofs.Agree.{walk-by-distance}
use Rattle.hmc_routes.proofs.DistanceLemmas.{distance-least, distance-walk, goal-none, none-goal, port-nearer, port-real}
use Rattle.hmc_routes.proofs.Joined.{HasHome, has_home}
use Rattle.hmc_routes.proofs.Shortest.{few_hops}
use Rattle.hmc_routes.specs.Distance.{within, has_walk, distance}
use Rattle.hmc_routes.specs.Neighbours.{joined_to}
use Rattle.hmc_routes.specs.Parted.{InOnePart}
use Rattle.hmc_routes.specs.Ports.{is_nearer, port_to_cube, port_to_place, port_to_host}
use Rattle.hmc_routes.specs.Tables.{IsTableOf, AreTables, as_home, home_at, IsKept}
use Rattle.hmc_routes.specs.WellFormed.{IsGraph, is_host_of}
use Rattle.hmc_routes.specs.declared.table.Home.{Home}
use Rattle.hmc_routes.specs.declared.table.Table.{Table}

pub table-distance : (graph : GraphFields) (tables : List Table) (goal cube at : ℕ) (d : Table) → AreTables graph tables → goal < graph.cubes → cube < graph.cubes → at ≡ goal → slice_index_or (slice_index_or tables at d).distances cube 0 ≡ distance graph goal cube
table-distance graph tables goal cube at d are goal_real cube_real same =
    subst (λ (k : ℕ). slice_index_or (slice_index_or tables k d).distances cube 0 ≡ distance graph goal cube) (sym same) ((are.each goal d goal_real).distances cube cube_real)

-- whether a walk leads there, by the table
pub walk-by-table : (graph : GraphFields) (tables : List Table) (goal cube at hops cubes : ℕ) (d : Table) → IsGraph graph → AreTables graph tables → goal < graph.cubes → cube < graph.cubes → at ≡ goal →
    hops ≡ slice_index_or (slice_index_or tables at d).distances cube 0 → cubes ≡ graph.cubes → nat_lt hops cubes ≡ has_walk graph goal cube
walk-by-table graph tables goal cube at hops cubes d is_graph are goal_real cube_real same is all =
    ap (λ (n : ℕ). nat_lt n cubes) (is ∙ table-distance graph tables goal cube at d are goal_real cube_real same)
    ∙ ap (λ (n : ℕ). nat_lt (distance graph goal cube) n) all
    ∙ walk-by-distance graph goal cube is_graph goal_real cube_real

-- of routes, whose contracts see the graph by another name
pub kept-now : (graph now : GraphFields) (tables : List Table) (homes : List (Option Home)) → IsKept graph tables homes → graph ≡ now → IsKept now tables homes
kept-now graph now tables homes kept same = subst (λ (g : GraphFields). IsKept g tables homes) same kept

looked-up : (graph : GraphFields) (tables : List Table) (goal at : ℕ) (table : Table) → AreTables graph tables → goal < graph.cubes → at ≡ goal → table ≡ slice_index_or tables at table → IsTableOf graph goal table
looked-up graph tables goal at table are goal_real same is =
    subst (λ (t : Table). IsTableOf graph goal t) (sym is) (subst (λ (k : ℕ). IsTableOf graph goal (slice_index_or tables k table)) (sym same) (are.each goal table goal_real))

-- what is said of a distance
pub record IsShortest (graph : GraphFields) (goal cube hops : ℕ) : Type 0 where
  pub walk : within graph goal hops cube ≡ true
  pub shortest : (n : ℕ) → within graph goal n cube ≡ true → hops ≤ n
  pub few : hops < graph.cubes

pub kept-shortest : (graph now : GraphFields) (tables : List Table) (homes : List (Option Home)) (goal cube at hops : ℕ) (table : Table) → IsKept graph tables homes → graph ≡ now → goal < now.cubes → cube < now.cubes → at ≡ goal →
    table ≡ slice_index_or tables at table → hops ≡ slice_index_or table.distances cube 0 → IsShortest now goal cube hops
kept-shortest graph now tables homes goal cube at hops table was same goal_real cube_real at_goal there is =
    let kept = kept-now graph now tables homes was same in
    let table_of : IsTableOf now goal table = looked-up now tables goal at table kept.are_tables goal_real at_goal there in
    let exact : hops ≡ distance now goal cube = is ∙ table_of.distances cube cube_real in
    let reached : has_walk now goal cube ≡ true = kept.one_part goal cube goal_real cube_real in
    subst (λ (n : ℕ). IsShortest now goal cube n) (sym exact)
    (record {
      walk = distance-walk now goal cube reached;
      shortest = λ n walk. distance-least now goal cube n walk;
      few = few_hops now goal cube kept.is_graph goal_real cube_real reached;
    })

-- what is said of the port towards a cube
pub record IsTowards (graph : GraphFields) (goal cube : ℕ) (port : Option ℕ) : Type 0 where
  pub none : IsNone port ↔ (cube ≡ goal)
  pub real : IfSome port (λ p. p < ports)
  pub nearer : IfSome port (λ p. is_nearer graph goal cube p ≡ true)

towards : (graph : GraphFields) (goal cube : ℕ) (port : Option ℕ) → IsGraph graph → InOnePart graph → goal < graph.cubes → cube < graph.cubes → port ≡ port_to_cube graph goal cube → IsTowards graph goal cube port
towards graph goal cube None is_graph one_part goal_real cube_real is = record {
  none = (λ none. none-goal graph goal cube is_graph one_part goal_real cube_real (sym is), λ same. refl);
  real = search rules;
  nearer = search rules;
}
towards graph goal cube (Some port) is_graph one_part goal_real cube_real is = record {
  none = (λ none. cc, λ same. let clash : Some port ≡ None = is ∙ ap (port_to_cube graph goal) same ∙ goal-none graph goal in absurd (cc));
  real = let real : port < ports = port-real graph goal cube port (sym is) in search rules;
  nearer = let nearer : is_nearer graph goal cube port ≡ true = port-nearer graph goal cube port (sym is) in search rules;
}

pub kept-towards : (graph now : GraphFields) (tables : List Table) (homes : List (Option Home)) (goal cube at from : ℕ) (table : Table) → IsKept graph tables homes → graph ≡ now → goal < now.cubes → cube < now.cubes → at ≡ goal →
    from ≡ cube → table ≡ slice_index_or tables at table → IsTowards now goal cube (slice_index_or table.ports from None)
kept-towards graph now tables homes goal cube at from table was same goal_real cube_real at_goal from_cube there =
    let kept = kept-now graph now tables homes was same in
    let table_of : IsTableOf now goal table = looked-up now tables goal at table kept.are_tables goal_real at_goal there in
    towards now goal cube (slice_index_or table.ports from None) kept.is_graph kept.one_part goal_real cube_real
    (ap (λ (k : ℕ). slice_index_or table.ports k None) from_cube ∙ table_of.ports cube cube_real)

-- what is said of a host's port
pub record IsHome (graph : GraphFields) (host : ℕ) (home : Home) : Type 0 where
  pub cube : home.cube < graph.cubes
  pub port : home.port < ports
  pub towards : (at : ℕ) → port_to_host graph host at ≡ (if at == home.cube then Some home.port else port_to_cube graph home.cube at)

-- a host's port, as it is kept
pub record KeptHome (graph : GraphFields) (homes : List (Option Home)) (host at : ℕ) : Type 0 where
  pub below : at < most_hosts
  pub home : Home
  pub kept : slice_index_or homes at None ≡ Some home
  pub is : IsHome graph host home

by-joined : (graph : GraphFields) (host cube port at : ℕ) → joined_to graph.joins (Host host) ≡ Some (Port cube port) → port_to_host graph host at ≡ (if at == cube then Some port else port_to_cube graph cube at)
unfolding port_to_host
by-joined graph host cube port at joined = ap (λ (o : Option Place). option_and_then (λ place. port_to_place graph place at) o) joined

pub kept-home : (graph now : GraphFields) (tables : List Table) (homes : List (Option Home)) (host at : ℕ) → IsKept graph tables homes → graph ≡ now → is_host_of now host ≡ true → at ≡ host → KeptHome now homes host at
kept-home graph now tables homes host at was same is_host at_host =
    let kept = kept-now graph now tables homes was same in
    let has : HasHome now host = has_home now host kept.is_graph is_host in
    let below : host < most_hosts = has.host_real in
    let found : home_at now host ≡ Some (record { cube = has.cube; port = has.port }) = ap (λ (o : Option Place). option_and_then as_home o) has.joined in
    record {
      below = omega arith;
      home = record { cube = has.cube; port = has.port };
      kept = ap (λ (k : ℕ). slice_index_or homes k None) at_host ∙ kept.are_homes host below ∙ found;
      is = record {
        cube = has.real.cube_real;
        port = has.real.port_real;
        towards = λ from. by-joined now host has.cube has.port from has.joined;
      };
    }

-- it is the one that is read
pub home-read : (graph : GraphFields) (homes : List (Option Home)) (host at : ℕ) (home : Home) → KeptHome graph homes host at → slice_index_or homes at None ≡ Some home → IsHome graph host home
home-read graph homes host at home has is =
    let same : has.home ≡ home = same_Some has.home home (sym has.kept ∙ is) in
    subst (λ (h : Home). IsHome graph host h) same has.is

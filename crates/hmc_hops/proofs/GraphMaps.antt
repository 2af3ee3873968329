-- The map of a graph is one: each direction of a route comes nearer, and a route ends at its goal alone.
use Rattle.std.proofs.Common.{◌≡◌, ◌≤◌, ◌<◌, ◌∙◌, ◌+◌, ◌==◌, ℕ, suc, Bool, true, false, nat_lt, if◌then◌else◌, Option, Some, None, option_and_then, refl, sym, ap, subst, eqb-true, eq-eqb, arith}
use Rattle.std.proofs.lemmas.Bool.{and_parts, ltb-true, lt-ltb}
use Rattle.std.specs.Option.{option_map_or}
use Rattle.hmc_codes.specs.Graph.{GraphFields}
use Rattle.hmc_codes.specs.Limits.{most_hosts, ports}
use Rattle.hmc_codes.specs.declared.place.Place.{Place}
use Rattle.hmc_codes.specs.declared.place.Place.TheVariants as places
use Rattle.hmc_routes.specs.Directions.{start_of, end_of, direction_from}
use Rattle.hmc_routes.specs.Distance.{distance}
use Rattle.hmc_routes.specs.Neighbours.{joined_to, cube_number}
use Rattle.hmc_routes.specs.Parted.{InOnePart}
use Rattle.hmc_routes.specs.Ports.{port_to_cube, port_to_place, port_to_host}
use Rattle.hmc_routes.specs.Route.{Goal}
use Rattle.hmc_routes.specs.Route.Goal.{ToHost, ToCube}
use Rattle.hmc_routes.specs.WellFormed.{is_there, is_host_of, IsGraph}
use Rattle.hmc_routes.proofs.DirectionLemmas.{joined-back, directed, undirected}
use Rattle.hmc_routes.proofs.Joined.{joined-passes, has_home}
use Rattle.hmc_routes.proofs.Shortest.{few_hops}
use Rattle.hmc_routes.proofs.DistanceLemmas.{distance-goal, port-leads, goal-none, none-goal}
use Rattle.hmc_hops.specs.Map.{IsMap, hops_at}
use Rattle.hmc_hops.specs.Map.End.{Host, Cube}
use Rattle.hmc_hops.specs.GraphMap.{end_at, direction_towards, hops_to, has_goal, map_of}

pub port_end : (graph : GraphFields) (c p : ℕ) → nat_lt c graph.cubes ≡ true → end_at graph (places.Port c p) ≡ Cube c
port_end graph c p real = ap (λ (b : Bool). if b then Cube c else Host most_hosts) real

pub real_port : (graph : GraphFields) (c p : ℕ) → is_there graph.cubes (places.Port c p) ≡ true → nat_lt c graph.cubes ≡ true
real_port graph c p there = (and_parts (nat_lt c graph.cubes) (nat_lt p ports) there).0

-- the direction that starts at a place ends at what the place is joined to
pub record StartsAt (graph : GraphFields) (place : Place) (d : ℕ) : Type 0 where
  pub starts : start_of graph.joins d ≡ place
  pub joined : joined_to graph.joins place ≡ Some (end_of graph.joins d)
  pub here : is_there graph.cubes place ≡ true
  pub there : is_there graph.cubes (end_of graph.joins d) ≡ true

pub starts_at : (graph : GraphFields) (place : Place) (d : ℕ) → IsGraph graph → direction_from graph.joins place ≡ Some d → StartsAt graph place d
starts_at graph place d is_graph is = by (joined_to graph.joins place) refl
  where
    by : (o : Option Place) → joined_to graph.joins place ≡ o → StartsAt graph place d
    by None none = let clash : Some d ≡ None = sym is ∙ undirected graph.joins place none in absurd (cc)
    by (Some far) joined =
        let h = directed graph.joins place far joined in
        let some : Some h.direction ≡ Some d = sym h.is ∙ is in
        let same : h.direction ≡ d = cc in
        let ends : end_of graph.joins d ≡ far = ap (end_of graph.joins) (sym same) ∙ h.leads.ends in
        let both = joined-passes (is_there graph.cubes) graph.joins place far is_graph.ends_exist joined in record {
          starts = ap (start_of graph.joins) (sym same) ∙ h.leads.starts;
          joined = joined ∙ ap Some (sym ends);
          here = both.0;
          there = ap (is_there graph.cubes) ends ∙ both.1;
        }

-- a direction that leads one hop nearer to a cube
record LeadsNearer (graph : GraphFields) (x c d : ℕ) : Type 0 where
  pub next : ℕ
  pub starts : (map_of graph).start_of d ≡ Cube c
  pub ends : (map_of graph).end_of d ≡ Cube next
  pub nears : distance graph x c ≡ suc (distance graph x next)

port_of : (graph : GraphFields) (place : Place) (next : ℕ) → is_there graph.cubes place ≡ true → cube_number place ≡ Some next → end_at graph place ≡ Cube next
port_of graph (places.Host h) next there is = absurd (cc)
port_of graph (places.Port y q) next there is = let same : y ≡ next = cc in port_end graph y q (real_port graph y q there) ∙ ap Cube same

leads-by : (graph : GraphFields) (x c d p : ℕ) → IsGraph graph → port_to_cube graph x c ≡ Some p → direction_from graph.joins (places.Port c p) ≡ Some d → LeadsNearer graph x c d
leads-by graph x c d p is_graph port goes =
    let s = starts_at graph (places.Port c p) d is_graph goes in
    let n = port-leads graph x c p port in
    let next : cube_number (end_of graph.joins d) ≡ Some n.next = sym (ap (option_and_then cube_number) s.joined) ∙ n.joined in record {
      next = n.next;
      starts = ap (end_at graph) s.starts ∙ port_end graph c p (real_port graph c p s.here);
      ends = port_of graph (end_of graph.joins d) n.next s.there next;
      nears = let far : distance graph x n.next + 1 ≡ distance graph x c = n.nears in omega arith;
    }

leads : (graph : GraphFields) (x c d : ℕ) → IsGraph graph → option_and_then (λ port. direction_from graph.joins (places.Port c port)) (port_to_cube graph x c) ≡ Some d → LeadsNearer graph x c d
leads graph x c d is_graph is = by (port_to_cube graph x c) refl is
  where
    by : (o : Option ℕ) → port_to_cube graph x c ≡ o → option_and_then (λ port. direction_from graph.joins (places.Port c port)) o ≡ Some d → LeadsNearer graph x c d
    by None port goes = absurd (cc)
    by (Some p) port goes = leads-by graph x c d p is_graph port goes

-- what a direction of a route does
record Hop (graph : GraphFields) (goal : Goal) (c d : ℕ) : Type 0 where
  pub nears : hops_to graph goal c ≡ hops_at (map_of graph) goal ((map_of graph).end_of d)
  pub starts : (map_of graph).start_of d ≡ Cube c
  pub reaches : (h : ℕ) → (map_of graph).end_of d ≡ Host h → goal ≡ ToHost h

led : (graph : GraphFields) (goal : Goal) (x c d : ℕ) → ((e : ℕ) → hops_to graph goal e ≡ distance graph x e) → LeadsNearer graph x c d → Hop graph goal c d
led graph goal x c d hops l = record {
  nears = hops c ∙ l.nears ∙ ap suc (sym (hops l.next)) ∙ sym (ap (hops_at (map_of graph) goal) l.ends);
  starts = l.starts;
  reaches = λ h is. let clash : Cube l.next ≡ Host h = sym l.ends ∙ is in absurd (cc);
}

-- a host's cube
hops-home : (graph : GraphFields) (h e home port : ℕ) → joined_to graph.joins (places.Host h) ≡ Some (places.Port home port) → hops_to graph (ToHost h) e ≡ distance graph home e
hops-home graph h e home port joined = ap (λ (o : Option Place). option_map_or (λ (k : ℕ). distance graph k e) (option_and_then cube_number o) 0) joined

home_hop : (graph : GraphFields) (h c d home port : ℕ) → IsGraph graph → joined_to graph.joins (places.Host h) ≡ Some (places.Port home port) → c ≡ home → direction_from graph.joins (places.Port c port) ≡ Some d → Hop graph (ToHost h) c d
home_hop graph h c d home port is_graph joined here goes =
    let s = starts_at graph (places.Port c port) d is_graph goes in
    let back : joined_to graph.joins (places.Port c port) ≡ Some (places.Host h) = ap (λ (k : ℕ). joined_to graph.joins (places.Port k port)) here ∙ joined-back graph.joins (places.Host h) (places.Port home port) is_graph.joined_once joined in
    let some : Some (end_of graph.joins d) ≡ Some (places.Host h) = sym s.joined ∙ back in
    let same : end_of graph.joins d ≡ places.Host h = cc in
    let ends : (map_of graph).end_of d ≡ Host h = ap (end_at graph) same in record {
      nears = hops-home graph h c home port joined ∙ ap (distance graph home) here ∙ distance-goal graph home ∙ sym (ap (hops_at (map_of graph) (ToHost h)) ends);
      starts = ap (end_at graph) s.starts ∙ port_end graph c port (real_port graph c port s.here);
      reaches = λ k is. let both : Host h ≡ Host k = sym ends ∙ is in let host : h ≡ k = cc in ap ToHost host;
    }

host_hop : (graph : GraphFields) (h c d : ℕ) → IsGraph graph → direction_towards graph (ToHost h) c ≡ Some d → Hop graph (ToHost h) c d
unfolding port_to_host
host_hop graph h c d is_graph is = by (joined_to graph.joins (places.Host h)) refl is
  where
    at : (home port : ℕ) (here : Bool) → joined_to graph.joins (places.Host h) ≡ Some (places.Port home port) → (c == home) ≡ here
        → option_and_then (λ p. direction_from graph.joins (places.Port c p)) (if here then Some port else port_to_cube graph home c) ≡ Some d → Hop graph (ToHost h) c d
    at home port true joined here goes = home_hop graph h c d home port is_graph joined (eqb-true c home here) goes
    at home port false joined here goes = led graph (ToHost h) home c d (λ e. hops-home graph h e home port joined) (leads graph home c d is_graph goes)

    by : (o : Option Place) → joined_to graph.joins (places.Host h) ≡ o → option_and_then (λ p. direction_from graph.joins (places.Port c p)) (option_and_then (λ place. port_to_place graph place c) o) ≡ Some d → Hop graph (ToHost h) c d
    by None joined goes = absurd (cc)
    by (Some (places.Host k)) joined goes = absurd (cc)
    by (Some (places.Port home port)) joined goes = at home port (c == home) joined refl goes

hop : (graph : GraphFields) (goal : Goal) (c d : ℕ) → IsGraph graph → direction_towards graph goal c ≡ Some d → Hop graph goal c d
hop graph (ToCube x) c d is_graph is = led graph (ToCube x) x c d (λ e. refl) (leads graph x c d is_graph is)
hop graph (ToHost h) c d is_graph is = host_hop graph h c d is_graph is

-- the port of a route has a direction
pub no_direction : (graph : GraphFields) (x c p : ℕ) → port_to_cube graph x c ≡ Some p → direction_from graph.joins (places.Port c p) ≡ None → ⊥
no_direction graph x c p port none = by (joined_to graph.joins (places.Port c p)) refl (port-leads graph x c p port).joined
  where
    by : (o : Option Place) → joined_to graph.joins (places.Port c p) ≡ o → option_and_then cube_number o ≡ Some (port-leads graph x c p port).next → ⊥
    by None joined next = absurd (cc)
    by (Some place) joined next =
        let d = directed graph.joins (places.Port c p) place joined in
        let clash : Some d.direction ≡ None = sym d.is ∙ none in absurd (cc)

-- a cube without a direction towards another is that cube
stays_at : (graph : GraphFields) (x c : ℕ) → IsGraph graph → InOnePart graph → nat_lt x graph.cubes ≡ true → nat_lt c graph.cubes ≡ true → option_and_then (λ port. direction_from graph.joins (places.Port c port)) (port_to_cube graph x c) ≡ None → c ≡ x
stays_at graph x c is_graph one goal cube is = by (port_to_cube graph x c) refl is
  where
    by : (o : Option ℕ) → port_to_cube graph x c ≡ o → option_and_then (λ port. direction_from graph.joins (places.Port c port)) o ≡ None → c ≡ x
    by None port goes = none-goal graph x c is_graph one (ltb-true x graph.cubes goal) (ltb-true c graph.cubes cube) port
    by (Some p) port goes = absurd (no_direction graph x c p port goes)

-- every cube has a direction towards each host
host_arrives : (graph : GraphFields) (h c : ℕ) → IsGraph graph → InOnePart graph → is_host_of graph h ≡ true → nat_lt c graph.cubes ≡ true → direction_towards graph (ToHost h) c ≡ None → ⊥
unfolding port_to_host
host_arrives graph h c is_graph one known cube is =
    let home = has_home graph h is_graph known in
    at home.cube home.port (c == home.cube) home.joined refl (lt-ltb home.cube graph.cubes home.real.cube_real)
    (sym (ap (λ (o : Option Place). option_and_then (λ p. direction_from graph.joins (places.Port c p)) (option_and_then (λ place. port_to_place graph place c) o)) home.joined) ∙ is)
  where
    at : (home port : ℕ) (here : Bool) → joined_to graph.joins (places.Host h) ≡ Some (places.Port home port) → (c == home) ≡ here → nat_lt home graph.cubes ≡ true
        → option_and_then (λ p. direction_from graph.joins (places.Port c p)) (if here then Some port else port_to_cube graph home c) ≡ None → ⊥
    at home port true joined here real goes =
        let back : joined_to graph.joins (places.Port home port) ≡ Some (places.Host h) = joined-back graph.joins (places.Host h) (places.Port home port) is_graph.joined_once joined in
        let d = directed graph.joins (places.Port home port) (places.Host h) back in
        let none : direction_from graph.joins (places.Port home port) ≡ None = ap (λ (k : ℕ). direction_from graph.joins (places.Port k port)) (sym (eqb-true c home here)) ∙ goes in
        let clash : Some d.direction ≡ None = sym d.is ∙ none in absurd (cc)
    at home port false joined here real goes =
        let same : c ≡ home = stays_at graph home c is_graph one real cube goes in
        let clash : true ≡ false = sym (eq-eqb c home same) ∙ here in absurd (cc)

arrive : (graph : GraphFields) (goal : Goal) (c : ℕ) → IsGraph graph → InOnePart graph → has_goal graph goal ≡ true → nat_lt c graph.cubes ≡ true → direction_towards graph goal c ≡ None → goal ≡ ToCube c
arrive graph (ToCube x) c is_graph one known cube is = ap ToCube (sym (stays_at graph x c is_graph one known cube is))
arrive graph (ToHost h) c is_graph one known cube is = absurd (host_arrives graph h c is_graph one known cube is)

-- the cubes at the ends of directions are there
real_cube : (graph : GraphFields) (c : ℕ) (place : Place) → end_at graph place ≡ Cube c → nat_lt c graph.cubes ≡ true
real_cube graph c (places.Host h) is = absurd (cc)
real_cube graph c (places.Port e p) is = by (nat_lt e graph.cubes) refl is
  where
    by : (b : Bool) → nat_lt e graph.cubes ≡ b → (if b then Cube e else Host most_hosts) ≡ Cube c → nat_lt c graph.cubes ≡ true
    by true real ends = let same : e ≡ c = cc in subst (λ (k : ℕ). nat_lt k graph.cubes ≡ true) same real
    by false real ends = absurd (cc)

-- the direction from a host
record HasFirst (graph : GraphFields) (h : ℕ) : Type 0 where
  pub home : ℕ
  pub starts : (map_of graph).start_of ((map_of graph).from_host h) ≡ Host h
  pub ends : (map_of graph).end_of ((map_of graph).from_host h) ≡ Cube home

has_first : (graph : GraphFields) (h : ℕ) → IsGraph graph → is_host_of graph h ≡ true → HasFirst graph h
has_first graph h is_graph known =
    let home = has_home graph h is_graph known in
    let d = directed graph.joins (places.Host h) (places.Port home.cube home.port) home.joined in
    let from : (map_of graph).from_host h ≡ d.direction = ap (λ (o : Option ℕ). option_map_or (λ (k : ℕ). k) o 0) d.is in record {
      home = home.cube;
      starts = ap (map_of graph).start_of from ∙ ap (end_at graph) d.leads.starts;
      ends = ap (map_of graph).end_of from ∙ ap (end_at graph) d.leads.ends ∙ port_end graph home.cube home.port (lt-ltb home.cube graph.cubes home.real.cube_real);
    }

pub is_map : (graph : GraphFields) → IsGraph graph → InOnePart graph → IsMap (map_of graph)
is_map graph is_graph one = record {
  nearer = λ goal c d is. (hop graph goal c d is_graph is).nears;
  starts = λ goal c d is. (hop graph goal c d is_graph is).starts;
  arrives = λ goal c known cube is. arrive graph goal c is_graph one known cube is;
  reaches = λ goal c d h is end. (hop graph goal c d is_graph is).reaches h end;
  stops = λ c. ap (option_and_then (λ port. direction_from graph.joins (places.Port c port))) (goal-none graph c);
  cubes = λ d c is. real_cube graph c (end_of graph.joins d) is;
  host_starts = λ h known. (has_first graph h is_graph known).starts;
  host_ends = λ h known. let f = has_first graph h is_graph known in (f.home, f.ends);
}

-- a route has at most as many hops as there are cubes, that from or to a host included
near : (graph : GraphFields) (x c : ℕ) → IsGraph graph → InOnePart graph → nat_lt x graph.cubes ≡ true → nat_lt c graph.cubes ≡ true → distance graph x c < graph.cubes
near graph x c is_graph one goal cube =
    let there : x < graph.cubes = ltb-true x graph.cubes goal in
    let here : c < graph.cubes = ltb-true c graph.cubes cube in
    few_hops graph x c is_graph there here (one x c there here)

pub short-there : (graph : GraphFields) (h c : ℕ) → IsGraph graph → InOnePart graph → has_goal graph (ToHost h) ≡ true → has_goal graph (ToCube c) ≡ true → hops_at (map_of graph) (ToCube c) ((map_of graph).end_of ((map_of graph).from_host h)) ≤ graph.cubes
short-there graph h c is_graph one known cube =
    let first = has_first graph h is_graph known in
    let less : distance graph c first.home < graph.cubes = near graph c first.home is_graph one cube (real_cube graph first.home (end_of graph.joins ((map_of graph).from_host h)) first.ends) in
    let low : suc (distance graph c first.home) ≤ graph.cubes = omega arith in
    subst (λ (n : ℕ). n ≤ graph.cubes) (sym (ap (hops_at (map_of graph) (ToCube c)) first.ends)) low

pub short-back : (graph : GraphFields) (h c : ℕ) → IsGraph graph → InOnePart graph → has_goal graph (ToHost h) ≡ true → has_goal graph (ToCube c) ≡ true → hops_to graph (ToHost h) c < graph.cubes
short-back graph h c is_graph one known cube =
    let home = has_home graph h is_graph known in
    let real : nat_lt home.cube graph.cubes ≡ true = lt-ltb home.cube graph.cubes home.real.cube_real in
    subst (λ (n : ℕ). n < graph.cubes) (sym (hops-home graph h c home.cube home.port home.joined)) (near graph home.cube c is_graph one real cube)

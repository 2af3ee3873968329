-- The directions of a route are those that start at the places which the route of the graph names.
use Rattle.std.proofs.Common.{◌≡◌, ◌≤◌, ◌∙◌, ◌==◌, ℕ, zero, suc, Bool, true, false, if◌then◌else◌, Option, Some, None, List, [], ◌∷◌, option_and_then, refl, sym, ap, ap₂, subst, eqb-true, arith}
use Rattle.std.specs.List.{filter_map, cons_option}
use Rattle.std.specs.Option.{option_map_or}
use Rattle.hmc_codes.specs.Graph.{GraphFields}
use Rattle.hmc_codes.specs.declared.place.Place.{Place}
use Rattle.hmc_codes.specs.declared.place.Place.TheVariants as places
use Rattle.hmc_routes.specs.Directions.{end_of, direction_from}
use Rattle.hmc_routes.specs.Neighbours.{joined_to, cube_number, neighbour}
use Rattle.hmc_routes.specs.Ports.{port_to_cube, port_to_place, port_to_host}
use Rattle.hmc_routes.specs.Route.{Goal, port_towards, hops_from, route_from_cube, home_of, route_from_host}
use Rattle.hmc_routes.specs.Route.Goal.{ToHost, ToCube}
use Rattle.hmc_routes.specs.WellFormed.{is_there, is_host_of, IsGraph}
use Rattle.hmc_routes.proofs.DirectionLemmas.{joined-back, directed}
use Rattle.hmc_routes.proofs.Joined.{has_home}
use Rattle.hmc_hops.specs.Map.{End, after, after_end, route}
use Rattle.hmc_hops.specs.Delivered.{request_route, answer_route}
use Rattle.hmc_hops.specs.GraphMap.{end_at, direction_towards, map_of}
use Rattle.hmc_hops.proofs.GraphMaps.{starts_at, port_end, real_port, no_direction}

-- the port towards a host has a direction
host_direction : (graph : GraphFields) (h c p : ℕ) → IsGraph graph → port_to_host graph h c ≡ Some p → direction_from graph.joins (places.Port c p) ≡ None → ⊥
unfolding port_to_host
host_direction graph h c p is_graph port none = by (joined_to graph.joins (places.Host h)) refl port
  where
    at : (home exit : ℕ) (here : Bool) → joined_to graph.joins (places.Host h) ≡ Some (places.Port home exit) → (c == home) ≡ here → (if here then Some exit else port_to_cube graph home c) ≡ Some p → ⊥
    at home exit true joined here goes =
        let back : joined_to graph.joins (places.Port home exit) ≡ Some (places.Host h) = joined-back graph.joins (places.Host h) (places.Port home exit) is_graph.joined_once joined in
        let d = directed graph.joins (places.Port home exit) (places.Host h) back in
        let same : exit ≡ p = cc in
        let off : direction_from graph.joins (places.Port home exit) ≡ None = ap₂ (λ (k e : ℕ). direction_from graph.joins (places.Port k e)) (sym (eqb-true c home here)) same ∙ none in
        let clash : Some d.direction ≡ None = sym d.is ∙ off in absurd (cc)
    at home exit false joined here goes = no_direction graph home c p goes none

    by : (o : Option Place) → joined_to graph.joins (places.Host h) ≡ o → option_and_then (λ place. port_to_place graph place c) o ≡ Some p → ⊥
    by None joined goes = absurd (cc)
    by (Some (places.Host k)) joined goes = absurd (cc)
    by (Some (places.Port home exit)) joined goes = at home exit (c == home) joined refl goes

port_direction : (graph : GraphFields) (goal : Goal) (c p : ℕ) → IsGraph graph → port_towards graph goal c ≡ Some p → direction_from graph.joins (places.Port c p) ≡ None → ⊥
port_direction graph (ToCube x) c p is_graph port none = no_direction graph x c p port none
port_direction graph (ToHost h) c p is_graph port none = host_direction graph h c p is_graph port none

-- the hops after one that ends here
legs_end : (graph : GraphFields) (goal : Goal) (more : ℕ) (end : Place) → is_there graph.cubes end ≡ true → ((c : ℕ) → route (map_of graph) goal more (direction_towards graph goal c) ≡ filter_map (direction_from graph.joins) (hops_from graph goal (suc more) c))
    → route (map_of graph) goal more (after_end (map_of graph) goal (end_at graph end)) ≡ filter_map (direction_from graph.joins) (option_map_or (λ next. hops_from graph goal (suc more) next) (cube_number end) [])
unfolding route
legs_end graph goal more (places.Host h) there later = refl
legs_end graph goal more (places.Port c p) there later =
    ap (λ (e : End). route (map_of graph) goal more (after_end (map_of graph) goal e)) (port_end graph c p (real_port graph c p there)) ∙ later c

none_more : (graph : GraphFields) (goal : Goal) (o : Option ℕ) → option_map_or (λ next. hops_from graph goal 0 next) o [] ≡ []
unfolding hops_from
none_more graph goal None = refl
none_more graph goal (Some next) = refl

-- a hop and those after it
hop_on : (graph : GraphFields) (goal : Goal) (more c p d : ℕ) → IsGraph graph → direction_from graph.joins (places.Port c p) ≡ Some d → ((n k : ℕ) → more ≡ suc n → route (map_of graph) goal n (direction_towards graph goal k) ≡ filter_map (direction_from graph.joins) (hops_from graph goal (suc n) k))
    → route (map_of graph) goal more (Some d) ≡ filter_map (direction_from graph.joins) (places.Port c p ∷ option_map_or (λ next. hops_from graph goal more next) (neighbour graph c p) [])
unfolding route
hop_on graph goal zero c p d is_graph goes later =
    ap₂ (λ (o : Option ℕ) (l : List Place). cons_option o (filter_map (direction_from graph.joins) l)) (sym goes) (sym (none_more graph goal (neighbour graph c p)))
hop_on graph goal (suc more) c p d is_graph goes later =
    let s = starts_at graph (places.Port c p) d is_graph goes in
    ap₂ (λ (o : Option ℕ) (l : List ℕ). cons_option o l) (sym goes) (legs_end graph goal more (end_of graph.joins d) s.there (λ k. later more k refl))
    ∙ ap (λ (o : Option ℕ). filter_map (direction_from graph.joins) (places.Port c p ∷ option_map_or (λ next. hops_from graph goal (suc more) next) o [])) (sym (ap (option_and_then cube_number) s.joined))

hops_by : (graph : GraphFields) (goal : Goal) (more c : ℕ) → IsGraph graph → ((n k : ℕ) → more ≡ suc n → route (map_of graph) goal n (direction_towards graph goal k) ≡ filter_map (direction_from graph.joins) (hops_from graph goal (suc n) k))
    → route (map_of graph) goal more (direction_towards graph goal c) ≡ filter_map (direction_from graph.joins) (hops_from graph goal (suc more) c)
unfolding route hops_from
hops_by graph goal more c is_graph later = by (port_towards graph goal c) refl
  where
    at : (p : ℕ) (q : Option ℕ) → port_towards graph goal c ≡ Some p → direction_from graph.joins (places.Port c p) ≡ q
        → route (map_of graph) goal more q ≡ filter_map (direction_from graph.joins) (places.Port c p ∷ option_map_or (λ next. hops_from graph goal more next) (neighbour graph c p) [])
    at p None port none = absurd (port_direction graph goal c p is_graph port none)
    at p (Some d) port goes = hop_on graph goal more c p d is_graph goes later

    by : (o : Option ℕ) → port_towards graph goal c ≡ o → route (map_of graph) goal more (option_and_then (λ p. direction_from graph.joins (places.Port c p)) o)
        ≡ filter_map (direction_from graph.joins) (option_map_or (λ p. places.Port c p ∷ option_map_or (λ next. hops_from graph goal more next) (neighbour graph c p) []) o [])
    by None port = refl
    by (Some p) port = at p (direction_from graph.joins (places.Port c p)) port refl

hops_same : (graph : GraphFields) (goal : Goal) → IsGraph graph → (more c : ℕ) → route (map_of graph) goal more (direction_towards graph goal c) ≡ filter_map (direction_from graph.joins) (hops_from graph goal (suc more) c)
hops_same graph goal is_graph zero c = hops_by graph goal 0 c is_graph (λ n k off. absurd (omega arith))
hops_same graph goal is_graph (suc more) c =
    hops_by graph goal (suc more) c is_graph (λ n k is. let same : more ≡ n = omega arith in
    subst (λ (j : ℕ). route (map_of graph) goal j (direction_towards graph goal k) ≡ filter_map (direction_from graph.joins) (hops_from graph goal (suc j) k)) same (hops_same graph goal is_graph more k))

-- from a host the first direction starts at the host, and the others are those from its cube
host_hops : (graph : GraphFields) (h c more : ℕ) → IsGraph graph → is_host_of graph h ≡ true → request_route (map_of graph) h c (suc more) ≡ filter_map (direction_from graph.joins) (places.Host h ∷ option_map_or (λ home. hops_from graph (ToCube c) (suc more) home) (home_of graph h) [])
unfolding route
host_hops graph h c more is_graph known =
    let home = has_home graph h is_graph known in
    let d = directed graph.joins (places.Host h) (places.Port home.cube home.port) home.joined in
    let s = starts_at graph (places.Host h) d.direction is_graph d.is in
    let from : (map_of graph).from_host h ≡ d.direction = ap (λ (o : Option ℕ). option_map_or (λ (k : ℕ). k) o 0) d.is in
    ap (λ (e : ℕ). e ∷ route (map_of graph) (ToCube c) more (after (map_of graph) (ToCube c) (Some e))) from
    ∙ ap₂ (λ (o : Option ℕ) (l : List ℕ). cons_option o l) (sym d.is) (legs_end graph (ToCube c) more (end_of graph.joins d.direction) s.there (λ k. hops_same graph (ToCube c) is_graph more k))
    ∙ ap (λ (o : Option ℕ). filter_map (direction_from graph.joins) (places.Host h ∷ option_map_or (λ next. hops_from graph (ToCube c) (suc more) next) o [])) (sym (ap (option_and_then cube_number) s.joined))

pub requests_go : (graph : GraphFields) (h c : ℕ) → IsGraph graph → (map_of graph).is_goal (ToHost h) ≡ true → request_route (map_of graph) h c graph.cubes ≡ filter_map (direction_from graph.joins) (route_from_host graph (ToCube c) h)
requests_go graph h c is_graph known = by graph.cubes is_graph.some_cubes
  where
    by : (n : ℕ) → 1 ≤ n → request_route (map_of graph) h c n ≡ filter_map (direction_from graph.joins) (places.Host h ∷ option_map_or (λ home. hops_from graph (ToCube c) n home) (home_of graph h) [])
    by zero some = absurd (omega arith)
    by (suc more) some = host_hops graph h c more is_graph known

pub answers_go : (graph : GraphFields) (c h more : ℕ) → IsGraph graph → graph.cubes ≡ suc more → answer_route (map_of graph) c h more ≡ filter_map (direction_from graph.joins) (route_from_cube graph (ToHost h) c)
answers_go graph c h more is_graph cubes =
    hops_same graph (ToHost h) is_graph more c ∙ ap (λ (n : ℕ). filter_map (direction_from graph.joins) (hops_from graph (ToHost h) n c)) (sym cubes)

-- A route between cubes has as many hops as they are apart.
use Rattle.std.proofs.Common.{◌≡◌, ◌≤◌, ◌<◌, ◌∙◌, ◌+◌, ℕ, zero, suc, List, [], ◌∷◌, length, Option, Some, None, refl, sym, ap, arith}
use Rattle.std.specs.Option.{option_map_or}
use Rattle.hmc_codes.specs.Graph.{GraphFields}
use Rattle.hmc_codes.specs.declared.place.Place.{Place}
use Rattle.hmc_codes.specs.declared.place.Place.TheVariants.{Port}
use Rattle.hmc_routes.proofs.DistanceLemmas.{NearerNeighbour, distance-goal, distance-le, none-goal, port-leads}
use Rattle.hmc_routes.proofs.Joined.{neighbour-real}
use Rattle.hmc_routes.specs.Distance.{distance}
use Rattle.hmc_routes.specs.Neighbours.{neighbour}
use Rattle.hmc_routes.specs.Parted.{InOnePart}
use Rattle.hmc_routes.specs.Ports.{port_to_cube}
use Rattle.hmc_routes.specs.Route.{hops_from, route_from_cube}
use Rattle.hmc_routes.specs.Route.Goal.{ToCube}
use Rattle.hmc_routes.specs.WellFormed.{IsGraph}

-- one hop and those after it, by the port and the neighbour
after : (graph : GraphFields) (goal most cube : ℕ) → Option ℕ → List Place
after graph goal most cube port =
    option_map_or (λ p. Port cube p ∷ option_map_or (λ next. hops_from graph (ToCube goal) most next) (neighbour graph cube p) []) port []

hops-suc : (graph : GraphFields) (goal most cube : ℕ) → hops_from graph (ToCube goal) (suc most) cube ≡ after graph goal most cube (port_to_cube graph goal cube)
unfolding hops_from after
hops-suc graph goal most cube = refl

none_after : (graph : GraphFields) (goal most cube : ℕ) → length (after graph goal most cube None) ≡ 0
unfolding after
none_after graph goal most cube = refl

some_after : (graph : GraphFields) (goal most cube port next : ℕ) → neighbour graph cube port ≡ Some next → length (after graph goal most cube (Some port)) ≡ suc (length (hops_from graph (ToCube goal) most next))
unfolding after
some_after graph goal most cube port next joined =
    ap (λ (o : Option ℕ). length (Port cube port ∷ option_map_or (λ k. hops_from graph (ToCube goal) most k) o [])) joined

no_hops : (graph : GraphFields) (goal cube : ℕ) → length (hops_from graph (ToCube goal) 0 cube) ≡ 0
unfolding hops_from
no_hops graph goal cube = refl

pub hops-long : (graph : GraphFields) (goal : ℕ) → IsGraph graph → InOnePart graph → goal < graph.cubes → (most cube : ℕ) → cube < graph.cubes → distance graph goal cube ≤ most → length (hops_from graph (ToCube goal) most cube) ≡ distance graph goal cube
hops-long graph goal is_graph one_part goal_real zero cube real few = no_hops graph goal cube ∙ (let none : 0 ≡ distance graph goal cube = omega arith in none)
hops-long graph goal is_graph one_part goal_real (suc most) cube real few =
    ap length (hops-suc graph goal most cube) ∙ by (port_to_cube graph goal cube) refl (hops-long graph goal is_graph one_part goal_real most)
  where
    at : (port : ℕ) → NearerNeighbour graph goal cube port → ((k : ℕ) → k < graph.cubes → distance graph goal k ≤ most → length (hops_from graph (ToCube goal) most k) ≡ distance graph goal k) → length (after graph goal most cube (Some port)) ≡ distance graph goal cube
    at port n later =
        let nears : distance graph goal n.next + 1 ≡ distance graph goal cube = n.nears in
        let rest : length (hops_from graph (ToCube goal) most n.next) ≡ distance graph goal n.next = later n.next (neighbour-real graph cube port n.next is_graph n.joined) (omega arith) in
        let here = some_after graph goal most cube port n.next n.joined in omega (arith, here)

    by : (o : Option ℕ) → port_to_cube graph goal cube ≡ o → ((k : ℕ) → k < graph.cubes → distance graph goal k ≤ most → length (hops_from graph (ToCube goal) most k) ≡ distance graph goal k) → length (after graph goal most cube o) ≡ distance graph goal cube
    by None port later =
        let same : cube ≡ goal = none-goal graph goal cube is_graph one_part goal_real real port in
        let none : distance graph goal cube ≡ 0 = ap (distance graph goal) same ∙ distance-goal graph goal in
        none_after graph goal most cube ∙ sym none
    by (Some port) is later = at port (port-leads graph goal cube port is) later

-- so it has no more hops than there are cubes, and fewer than that
pub route-long : (graph : GraphFields) (goal cube : ℕ) → IsGraph graph → InOnePart graph → goal < graph.cubes → cube < graph.cubes → length (route_from_cube graph (ToCube goal) cube) ≡ distance graph goal cube
route-long graph goal cube is_graph one_part goal_real real = hops-long graph goal is_graph one_part goal_real graph.cubes cube real (distance-le graph goal cube)

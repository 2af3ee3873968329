-- A distance is the hops of a shortest walk, and a port leads nearer.
use Rattle.std.proofs.Common.{◌≡◌, ◌≤◌, ◌<◌, ◌∙◌, ◌+◌, ◌==◌, ◌⊎◌, inl, inr, ℕ, zero, suc, Bool, true, false, Option, Some, None, refl, sym, subst, eqb-true, eq-eqb, arith}
use Rattle.std.specs.Option.{option_map_or}
use Rattle.hmc_codes.specs.Graph.{GraphFields}
use Rattle.hmc_codes.specs.Limits.{ports}
use Rattle.hmc_codes.specs.Numbers.{upto}
use Rattle.hmc_routes.proofs.Finds.{find_passes, find_within, find_nothing}
use Rattle.hmc_routes.proofs.Firsts.{first-le, first-passes, first-least, first-at, grown_to}
use Rattle.hmc_routes.proofs.Joined.{neighbour-real}
use Rattle.hmc_routes.proofs.Walks.{PassingNeighbour, some_found, some_shown, walks_grow, through, walk_on}
use Rattle.hmc_routes.specs.Distance.{within, has_walk, distance}
use Rattle.hmc_routes.specs.Neighbours.{neighbour, some_neighbour}
use Rattle.hmc_routes.specs.Parted.{InOnePart}
use Rattle.hmc_routes.specs.Ports.{is_nearer, port_to_cube}
use Rattle.hmc_routes.specs.WellFormed.{IsGraph}

pub distance-le : (graph : GraphFields) (goal cube : ℕ) → distance graph goal cube ≤ graph.cubes
unfolding distance
distance-le graph goal cube = first-le (λ hops. within graph goal hops cube) graph.cubes

-- no walk is shorter than the distance
pub distance-least : (graph : GraphFields) (goal cube hops : ℕ) → within graph goal hops cube ≡ true → distance graph goal cube ≤ hops
unfolding distance
distance-least graph goal cube hops is = first-least (λ hops. within graph goal hops cube) graph.cubes hops is

-- a walk of the distance leads there, if some walk does
pub distance-walk : (graph : GraphFields) (goal cube : ℕ) → has_walk graph goal cube ≡ true → within graph goal (distance graph goal cube) cube ≡ true
unfolding distance
distance-walk graph goal cube is = first-at (λ hops. within graph goal hops cube) graph.cubes is

-- where the distance is below the number of cubes some walk does
pub below-walk : (graph : GraphFields) (goal cube : ℕ) → distance graph goal cube < graph.cubes → has_walk graph goal cube ≡ true
unfolding distance
below-walk graph goal cube below =
    let test : ℕ → Bool = λ hops. within graph goal hops cube in
    grown_to test (distance graph goal cube) graph.cubes (walks_grow graph goal cube) (distance-le graph goal cube) (first-passes test graph.cubes below)

-- a walk of more hops is one, too
pub longer : (graph : GraphFields) (goal cube hops more : ℕ) → hops ≤ more → within graph goal hops cube ≡ true → within graph goal more cube ≡ true
longer graph goal cube hops more le is = grown_to (λ hops. within graph goal hops cube) hops more (walks_grow graph goal cube) le is

pub at_goal : (graph : GraphFields) (goal : ℕ) → within graph goal 0 goal ≡ true
unfolding within
at_goal graph goal = eq-eqb goal goal refl

pub only_goal : (graph : GraphFields) (goal cube : ℕ) → within graph goal 0 cube ≡ true → cube ≡ goal
unfolding within
only_goal graph goal cube is = sym (eqb-true goal cube is)

-- 0 at the goal
pub distance-goal : (graph : GraphFields) (goal : ℕ) → distance graph goal goal ≡ 0
distance-goal graph goal = let low : distance graph goal goal ≤ 0 = distance-least graph goal goal 0 (at_goal graph goal) in omega arith

-- and nowhere else
pub distance-zero : (graph : GraphFields) (goal cube : ℕ) → has_walk graph goal cube ≡ true → distance graph goal cube ≡ 0 → cube ≡ goal
distance-zero graph goal cube is none = only_goal graph goal cube (subst (λ (k : ℕ). within graph goal k cube ≡ true) none (distance-walk graph goal cube is))

-- a neighbour is at most one hop nearer
pub neighbour-far : (graph : GraphFields) (goal cube port next : ℕ) → port < ports → neighbour graph cube port ≡ Some next → has_walk graph goal next ≡ true → distance graph goal cube ≤ distance graph goal next + 1
neighbour-far graph goal cube port next real joined is =
    let walk : within graph goal (suc (distance graph goal next)) cube ≡ true = through graph goal (distance graph goal next) cube port next real joined (distance-walk graph goal next is) in
    let low : distance graph goal cube ≤ suc (distance graph goal next) = distance-least graph goal cube (suc (distance graph goal next)) walk in omega arith

-- some neighbour is one hop nearer
pub nearer : (graph : GraphFields) (goal cube hops : ℕ) → IsGraph graph → InOnePart graph → goal < graph.cubes → cube < graph.cubes → distance graph goal cube ≡ suc hops →
    PassingNeighbour graph (λ next. distance graph goal next + 1 == distance graph goal cube) cube
nearer graph goal cube hops is_graph one_part goal_real cube_real far =
    by (walk_on graph goal hops cube (subst (λ (k : ℕ). within graph goal k cube ≡ true) far (distance-walk graph goal cube (one_part goal cube goal_real cube_real))))
  where
    at : PassingNeighbour graph (within graph goal hops) cube → PassingNeighbour graph (λ next. distance graph goal next + 1 == distance graph goal cube) cube
    at n =
        let real : n.next < graph.cubes = neighbour-real graph cube n.port n.next is_graph n.joined in
        let low : distance graph goal n.next ≤ hops = distance-least graph goal n.next hops n.passes in
        let high : distance graph goal cube ≤ distance graph goal n.next + 1 = neighbour-far graph goal cube n.port n.next n.real n.joined (one_part goal n.next goal_real real) in
        record {
          port = n.port;
          real = n.real;
          next = n.next;
          joined = n.joined;
          passes = eq-eqb (distance graph goal n.next + 1) (distance graph goal cube) (omega arith);
        }

    by : (within graph goal hops cube ≡ true) ⊎ (some_neighbour graph (within graph goal hops) cube ≡ true) → PassingNeighbour graph (λ next. distance graph goal next + 1 == distance graph goal cube) cube
    by (inl short) = let low : distance graph goal cube ≤ hops = distance-least graph goal cube hops short in absurd (omega arith)
    by (inr some) = at (some_found graph (within graph goal hops) cube some)

-- the port towards a cube leads to a neighbour that is one hop nearer
pub port-nearer : (graph : GraphFields) (goal cube port : ℕ) → port_to_cube graph goal cube ≡ Some port → is_nearer graph goal cube port ≡ true
unfolding port_to_cube
port-nearer graph goal cube port is = find_passes (is_nearer graph goal cube) (upto ports) port is

pub port-real : (graph : GraphFields) (goal cube port : ℕ) → port_to_cube graph goal cube ≡ Some port → port < ports
unfolding port_to_cube
port-real graph goal cube port is = let below : port < 0 + ports = find_within (is_nearer graph goal cube) 0 ports port is in omega arith

-- what the port towards a cube is joined to
pub record NearerNeighbour (graph : GraphFields) (goal cube port : ℕ) : Type 0 where
  pub real : port < ports
  pub next : ℕ
  pub joined : neighbour graph cube port ≡ Some next
  pub nears : distance graph goal next + 1 ≡ distance graph goal cube

pub port-leads : (graph : GraphFields) (goal cube port : ℕ) → port_to_cube graph goal cube ≡ Some port → NearerNeighbour graph goal cube port
port-leads graph goal cube port is =
    let real : port < ports = port-real graph goal cube port is in
    by (neighbour graph cube port) refl (port-nearer graph goal cube port is) real
  where
    by : (o : Option ℕ) → neighbour graph cube port ≡ o → option_map_or (λ next. distance graph goal next + 1 == distance graph goal cube) o false ≡ true → port < ports → NearerNeighbour graph goal cube port
    by None joined is real = absurd (cc)
    by (Some next) joined is real = record { real = real; next = next; joined = joined; nears = eqb-true (distance graph goal next + 1) (distance graph goal cube) is }

-- at the goal there is no port
pub goal-none : (graph : GraphFields) (goal : ℕ) → port_to_cube graph goal goal ≡ None
goal-none graph goal = by (port_to_cube graph goal goal) refl
  where
    by : (o : Option ℕ) → port_to_cube graph goal goal ≡ o → o ≡ None
    by None is = refl
    by (Some port) is =
        let n = port-leads graph goal goal port is in
        let far : distance graph goal n.next + 1 ≡ distance graph goal goal = n.nears in
        let none : distance graph goal goal ≡ 0 = distance-goal graph goal in absurd (omega arith)

no_port : (graph : GraphFields) (goal cube : ℕ) → port_to_cube graph goal cube ≡ None → some_neighbour graph (λ next. distance graph goal next + 1 == distance graph goal cube) cube ≡ false
unfolding port_to_cube
no_port graph goal cube none = find_nothing (is_nearer graph goal cube) (upto ports) none

-- elsewhere there is one
pub none-goal : (graph : GraphFields) (goal cube : ℕ) → IsGraph graph → InOnePart graph → goal < graph.cubes → cube < graph.cubes → port_to_cube graph goal cube ≡ None → cube ≡ goal
none-goal graph goal cube is_graph one_part goal_real cube_real none = by (distance graph goal cube) refl
  where
    by : (n : ℕ) → distance graph goal cube ≡ n → cube ≡ goal
    by zero far = distance-zero graph goal cube (one_part goal cube goal_real cube_real) far
    by (suc hops) far =
        let n = nearer graph goal cube hops is_graph one_part goal_real cube_real far in
        let on : some_neighbour graph (λ next. distance graph goal next + 1 == distance graph goal cube) cube ≡ true = some_shown graph (λ next. distance graph goal next + 1 == distance graph goal cube) cube n.port n.next n.real n.joined n.passes in
        let clash : true ≡ false = sym on ∙ no_port graph goal cube none in absurd (cc)

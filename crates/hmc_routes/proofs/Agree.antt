-- What is kept of some cubes is the same as what is defined of all.
use Rattle.std.proofs.Common.{◌≡◌, ◌≤◌, ◌<◌, ◌∙◌, ◌+◌, ◌==◌, ◌||◌, ◌⊎◌, inl, inr, ℕ, suc, Bool, true, false, nat_lt, Option, Some, None, refl, sym, ap}
use Rattle.std.proofs.lemmas.Bool.{lt-ltb, le-ltb, cases_lt}
use Rattle.std.specs.List.{find}
use Rattle.std.specs.Option.{option_map_or}
use Rattle.hmc_codes.specs.Graph.{GraphFields}
use Rattle.hmc_codes.specs.Limits.{ports}
use Rattle.hmc_codes.specs.Numbers.{upto}
use Rattle.hmc_routes.proofs.DistanceLemmas.{below-walk}
use Rattle.hmc_routes.proofs.Finds.{find_same, any_same}
use Rattle.hmc_routes.proofs.Joined.{neighbour-real}
use Rattle.hmc_routes.proofs.Shortest.{few_hops}
use Rattle.hmc_routes.specs.Distance.{within, has_walk, distance}
use Rattle.hmc_routes.specs.Neighbours.{neighbour, some_neighbour}
use Rattle.hmc_routes.specs.Ports.{is_nearer, port_to_cube}
use Rattle.hmc_routes.specs.Tables.{nearer_by}
use Rattle.hmc_routes.specs.WellFormed.{IsGraph}

-- tests that agree at each cube agree at each neighbour
some_same : (graph : GraphFields) (test other : ℕ → Bool) (cube : ℕ) → IsGraph graph → ((k : ℕ) → k < graph.cubes → test k ≡ other k) → some_neighbour graph test cube ≡ some_neighbour graph other cube
some_same graph test other cube is_graph same =
    any_same (λ port. option_map_or test (neighbour graph cube port) false) (λ port. option_map_or other (neighbour graph cube port) false) (upto ports) (λ port. by port (neighbour graph cube port) refl)
  where
    by : (port : ℕ) (o : Option ℕ) → neighbour graph cube port ≡ o → option_map_or test o false ≡ option_map_or other o false
    by port None joined = refl
    by port (Some next) joined = same next (neighbour-real graph cube port next is_graph joined)

-- one hop more
pub near-suc : (graph : GraphFields) (goal hops cube : ℕ) (near : ℕ → Bool) → IsGraph graph → cube < graph.cubes → ((k : ℕ) → k < graph.cubes → near k ≡ within graph goal hops k) → (near cube || some_neighbour graph near cube) ≡ within graph goal (suc hops) cube
unfolding within
near-suc graph goal hops cube near is_graph real same =
    ap (λ (b : Bool). b || some_neighbour graph near cube) (same cube real)
    ∙ ap (λ (b : Bool). within graph goal hops cube || b) (some_same graph near (within graph goal hops) cube is_graph same)

-- the port by distances that are right is the right one
pub port-same : (graph : GraphFields) (goal cube : ℕ) (distances : ℕ → ℕ) → IsGraph graph → cube < graph.cubes → ((k : ℕ) → k < graph.cubes → distances k ≡ distance graph goal k) → find (nearer_by graph distances cube) (upto ports) ≡ port_to_cube graph goal cube
unfolding port_to_cube
port-same graph goal cube distances is_graph real same =
    find_same (nearer_by graph distances cube) (is_nearer graph goal cube) (upto ports) (λ port. by port (neighbour graph cube port) refl)
  where
    by : (port : ℕ) (o : Option ℕ) → neighbour graph cube port ≡ o → option_map_or (λ next. distances next + 1 == distances cube) o false ≡ option_map_or (λ next. distance graph goal next + 1 == distance graph goal cube) o false
    by port None joined = refl
    by port (Some next) joined =
        let there : distances next ≡ distance graph goal next = same next (neighbour-real graph cube port next is_graph joined) in
        let here : distances cube ≡ distance graph goal cube = same cube real in
        ap (λ (n : ℕ). n + 1 == distances cube) there ∙ ap (λ (n : ℕ). distance graph goal next + 1 == n) here

-- a walk leads there where the distance is below the number of cubes
pub walk-by-distance : (graph : GraphFields) (goal cube : ℕ) → IsGraph graph → goal < graph.cubes → cube < graph.cubes → nat_lt (distance graph goal cube) graph.cubes ≡ has_walk graph goal cube
walk-by-distance graph goal cube is_graph goal_real cube_real = by (has_walk graph goal cube) refl
  where
    by : (b : Bool) → has_walk graph goal cube ≡ b → nat_lt (distance graph goal cube) graph.cubes ≡ b
    by true is = lt-ltb (distance graph goal cube) graph.cubes (few_hops graph goal cube is_graph goal_real cube_real is)
    by false off = le-ltb (distance graph goal cube) graph.cubes (far (cases_lt (distance graph goal cube) graph.cubes))
      where
        far : (distance graph goal cube < graph.cubes) ⊎ (graph.cubes ≤ distance graph goal cube) → graph.cubes ≤ distance graph goal cube
        far (inl less) = let clash : true ≡ false = sym (below-walk graph goal cube less) ∙ off in absurd (cc)
        far (inr le) = le

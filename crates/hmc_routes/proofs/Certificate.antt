-- Distances have their certificate, and no other numbers have it.
use Rattle.std.proofs.Common.{◌≡◌, ◌≤◌, ◌<◌, ◌∙◌, ◌+◌, ◌==◌, ◌||◌, ◌⊎◌, inl, inr, ℕ, zero, suc, Bool, true, false, nat_le, Option, Some, None, refl, sym, ap, subst, eqb-true, eq-eqb, arith}
use Rattle.std.proofs.lemmas.Bool.{and_parts, and_from, or_left, or_right, or_cases, cases_Bool, eqb-false, le-leb, leb-true}
use Rattle.std.specs.List.{find, list_all}
use Rattle.std.specs.Option.{option_map_or}
use Rattle.hmc_codes.specs.Graph.{GraphFields}
use Rattle.hmc_codes.specs.Limits.{ports}
use Rattle.hmc_codes.specs.Numbers.{upto}
use Rattle.hmc_routes.proofs.Agree.{port-same}
use Rattle.hmc_routes.proofs.DistanceLemmas.{distance-goal, distance-least, distance-walk, distance-zero, neighbour-far, nearer, at_goal, only_goal}
use Rattle.hmc_routes.proofs.Finds.{all_at, all_shown}
use Rattle.hmc_routes.proofs.Joined.{neighbour-real}
use Rattle.hmc_routes.proofs.Shortest.{any_walk}
use Rattle.hmc_routes.proofs.Walks.{PassingNeighbour, some_found, some_shown, through, walk_on}
use Rattle.hmc_routes.specs.Distance.{within, has_walk, distance, is_one_more, certifies}
use Rattle.hmc_routes.specs.Neighbours.{neighbour, some_neighbour, each_neighbour}
use Rattle.hmc_routes.specs.Parted.{InOnePart}
use Rattle.hmc_routes.specs.Ports.{port_to_cube}
use Rattle.hmc_routes.specs.Tables.{nearer_by}
use Rattle.hmc_routes.specs.WellFormed.{IsGraph}

each_shown : (graph : GraphFields) (test : ℕ → Bool) (cube : ℕ) → ((port next : ℕ) → port < ports → neighbour graph cube port ≡ Some next → test next ≡ true) → each_neighbour graph test cube ≡ true
each_shown graph test cube passes = all_shown (λ port. option_map_or test (neighbour graph cube port) true) 0 ports (λ port low below. by port (neighbour graph cube port) refl (omega arith))
  where
    by : (port : ℕ) (o : Option ℕ) → neighbour graph cube port ≡ o → port < ports → option_map_or test o true ≡ true
    by port None joined real = refl
    by port (Some next) joined real = passes port next real joined

each_at : (graph : GraphFields) (test : ℕ → Bool) (cube port next : ℕ) → each_neighbour graph test cube ≡ true → port < ports → neighbour graph cube port ≡ Some next → test next ≡ true
each_at graph test cube port next all real joined =
    let here : option_map_or test (neighbour graph cube port) true ≡ true = all_at (λ p. option_map_or test (neighbour graph cube p) true) 0 ports port all (omega arith) (omega arith) in
    sym (ap (λ (o : Option ℕ). option_map_or test o true) joined) ∙ here

-- distances have the certificate
pub distances-certified : (graph : GraphFields) (goal : ℕ) → IsGraph graph → InOnePart graph → goal < graph.cubes → certifies graph goal (distance graph goal) ≡ true
distances-certified graph goal is_graph one_part goal_real =
    and_from (distance graph goal goal == 0) _ (eq-eqb (distance graph goal goal) 0 (distance-goal graph goal))
    (all_shown (λ cube. goal == cube || is_one_more graph (distance graph goal) cube) 0 graph.cubes (λ cube low below. at cube (omega arith) (cases_Bool (goal == cube))))
  where
    far : (cube n : ℕ) → cube < graph.cubes → (goal == cube) ≡ false → distance graph goal cube ≡ n → some_neighbour graph (λ next. distance graph goal next + 1 == distance graph goal cube) cube ≡ true
    far cube zero real off is = absurd (eqb-false goal cube off (sym (distance-zero graph goal cube (one_part goal cube goal_real real) is)))
    far cube (suc hops) real off is =
        let n = nearer graph goal cube hops is_graph one_part goal_real real is in
        some_shown graph (λ next. distance graph goal next + 1 == distance graph goal cube) cube n.port n.next n.real n.joined n.passes

    at : (cube : ℕ) → cube < graph.cubes → ((goal == cube) ≡ true) ⊎ ((goal == cube) ≡ false) → (goal == cube || is_one_more graph (distance graph goal) cube) ≡ true
    at cube real (inl same) = or_left (goal == cube) (is_one_more graph (distance graph goal) cube) same
    at cube real (inr off) =
        or_right (goal == cube) (is_one_more graph (distance graph goal) cube)
        (and_from (some_neighbour graph (λ next. distance graph goal next + 1 == distance graph goal cube) cube) _ (far cube (distance graph goal cube) real off refl)
        (each_shown graph (λ next. nat_le (distance graph goal cube) (distance graph goal next + 1)) cube
        (λ port next port_real joined. le-leb (distance graph goal cube) (distance graph goal next + 1)
        (neighbour-far graph goal cube port next port_real joined (one_part goal next goal_real (neighbour-real graph cube port next is_graph joined))))))

-- what has it: its parts
pub record Certified (graph : GraphFields) (goal : ℕ) (hops : ℕ → ℕ) : Type 0 where
  pub none : hops goal ≡ 0
  pub more : (cube : ℕ) → cube < graph.cubes → (goal ≡ cube) ⊎ (is_one_more graph hops cube ≡ true)

parts : (graph : GraphFields) (goal : ℕ) (hops : ℕ → ℕ) → certifies graph goal hops ≡ true → Certified graph goal hops
parts graph goal hops is =
    let both = and_parts (hops goal == 0) (list_all (λ cube. goal == cube || is_one_more graph hops cube) (upto graph.cubes)) is in record {
      none = eqb-true (hops goal) 0 both.0;
      more = λ cube real. by cube (or_cases (goal == cube) (is_one_more graph hops cube) (all_at (λ k. goal == k || is_one_more graph hops k) 0 graph.cubes cube both.1 (omega arith) (omega arith)));
    }
  where
    by : (cube : ℕ) → ((goal == cube) ≡ true) ⊎ (is_one_more graph hops cube ≡ true) → (goal ≡ cube) ⊎ (is_one_more graph hops cube ≡ true)
    by cube (inl same) = inl (eqb-true goal cube same)
    by cube (inr more) = inr more

-- a walk of so many hops leads there
reached : (graph : GraphFields) (goal : ℕ) (hops : ℕ → ℕ) → IsGraph graph → Certified graph goal hops → (n cube : ℕ) → cube < graph.cubes → hops cube ≡ n → within graph goal n cube ≡ true
reached graph goal hops is_graph has zero cube real far = by (has.more cube real)
  where
    at : PassingNeighbour graph (λ next. hops next + 1 == hops cube) cube → within graph goal 0 cube ≡ true
    at n = let one : hops n.next + 1 ≡ hops cube = eqb-true (hops n.next + 1) (hops cube) n.passes in absurd (omega arith)

    by : (goal ≡ cube) ⊎ (is_one_more graph hops cube ≡ true) → within graph goal 0 cube ≡ true
    by (inl same) = subst (λ (k : ℕ). within graph goal 0 k ≡ true) same (at_goal graph goal)
    by (inr more) = at (some_found graph (λ next. hops next + 1 == hops cube) cube (and_parts (some_neighbour graph (λ next. hops next + 1 == hops cube) cube) (each_neighbour graph (λ next. nat_le (hops cube) (hops next + 1)) cube) more).0)
reached graph goal hops is_graph has (suc n) cube real far = by (reached graph goal hops is_graph has n) (has.more cube real)
  where
    at : ((k : ℕ) → k < graph.cubes → hops k ≡ n → within graph goal n k ≡ true) → PassingNeighbour graph (λ next. hops next + 1 == hops cube) cube → within graph goal (suc n) cube ≡ true
    at later p =
        let one : hops p.next + 1 ≡ hops cube = eqb-true (hops p.next + 1) (hops cube) p.passes in
        through graph goal n cube p.port p.next p.real p.joined (later p.next (neighbour-real graph cube p.port p.next is_graph p.joined) (omega arith))

    by : ((k : ℕ) → k < graph.cubes → hops k ≡ n → within graph goal n k ≡ true) → (goal ≡ cube) ⊎ (is_one_more graph hops cube ≡ true) → within graph goal (suc n) cube ≡ true
    by later (inl same) =
        let none : hops goal ≡ 0 = has.none in
        let here : hops goal ≡ hops cube = ap hops same in absurd (omega arith)
    by later (inr more) = at later (some_found graph (λ next. hops next + 1 == hops cube) cube (and_parts (some_neighbour graph (λ next. hops next + 1 == hops cube) cube) (each_neighbour graph (λ next. nat_le (hops cube) (hops next + 1)) cube) more).0)

-- and none of fewer
no_fewer : (graph : GraphFields) (goal : ℕ) (hops : ℕ → ℕ) → IsGraph graph → Certified graph goal hops → (n cube : ℕ) → cube < graph.cubes → within graph goal n cube ≡ true → hops cube ≤ n
no_fewer graph goal hops is_graph has zero cube real is =
    let here : hops cube ≡ hops goal = ap hops (only_goal graph goal cube is) in
    let none : hops goal ≡ 0 = has.none in omega arith
no_fewer graph goal hops is_graph has (suc n) cube real is = by (no_fewer graph goal hops is_graph has n) (walk_on graph goal n cube is)
  where
    step : (next : ℕ) → hops next ≤ n → (goal ≡ cube) ⊎ (is_one_more graph hops cube ≡ true) → (port : ℕ) → port < ports → neighbour graph cube port ≡ Some next → hops cube ≤ suc n
    step next le (inl same) port port_real joined =
        let none : hops goal ≡ 0 = has.none in
        let here : hops goal ≡ hops cube = ap hops same in omega arith
    step next le (inr more) port port_real joined =
        let each : each_neighbour graph (λ k. nat_le (hops cube) (hops k + 1)) cube ≡ true = (and_parts (some_neighbour graph (λ k. hops k + 1 == hops cube) cube) (each_neighbour graph (λ k. nat_le (hops cube) (hops k + 1)) cube) more).1 in
        let one : hops cube ≤ hops next + 1 = leb-true (hops cube) (hops next + 1) (each_at graph (λ k. nat_le (hops cube) (hops k + 1)) cube port next each port_real joined) in omega arith

    at : ((k : ℕ) → k < graph.cubes → within graph goal n k ≡ true → hops k ≤ n) → PassingNeighbour graph (within graph goal n) cube → hops cube ≤ suc n
    at later p = step p.next (later p.next (neighbour-real graph cube p.port p.next is_graph p.joined) p.passes) (has.more cube real) p.port p.real p.joined

    by : ((k : ℕ) → k < graph.cubes → within graph goal n k ≡ true → hops k ≤ n) → (within graph goal n cube ≡ true) ⊎ (some_neighbour graph (within graph goal n) cube ≡ true) → hops cube ≤ suc n
    by later (inl short) = let le : hops cube ≤ n = later cube real short in omega arith
    by later (inr some) = at later (some_found graph (within graph goal n) cube some)

-- so only distances have it
pub certified-distance : (graph : GraphFields) (goal cube : ℕ) (hops : ℕ → ℕ) → IsGraph graph → goal < graph.cubes → cube < graph.cubes → certifies graph goal hops ≡ true → hops cube ≡ distance graph goal cube
certified-distance graph goal cube hops is_graph goal_real cube_real is =
    let has : Certified graph goal hops = parts graph goal hops is in
    let walk : within graph goal (hops cube) cube ≡ true = reached graph goal hops is_graph has (hops cube) cube cube_real refl in
    let some : has_walk graph goal cube ≡ true = any_walk graph goal cube (hops cube) is_graph goal_real cube_real walk in
    let high : distance graph goal cube ≤ hops cube = distance-least graph goal cube (hops cube) walk in
    let low : hops cube ≤ distance graph goal cube = no_fewer graph goal hops is_graph has (distance graph goal cube) cube cube_real (distance-walk graph goal cube some) in omega arith

-- and the port by them is the port of the route
pub certified-port : (graph : GraphFields) (goal cube : ℕ) (hops : ℕ → ℕ) → IsGraph graph → goal < graph.cubes → cube < graph.cubes → certifies graph goal hops ≡ true → port_to_cube graph goal cube ≡ find (nearer_by graph hops cube) (upto ports)
certified-port graph goal cube hops is_graph goal_real cube_real is =
    sym (port-same graph goal cube hops is_graph cube_real (λ k real. certified-distance graph goal k hops is_graph goal_real real is))

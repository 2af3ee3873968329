-- Walks may be longer, and go through a port.
use Rattle.std.proofs.Common.{◌≡◌, ◌<◌, ◌∙◌, ◌+◌, ◌⊎◌, ℕ, suc, Bool, true, false, length, get_or, Option, Some, None, refl, ap, subst, arith}
use Rattle.std.proofs.lemmas.Bool.{or_cases, or_left, or_right}
use Rattle.std.proofs.lemmas.List.Folds.{list_any_at, Any-from_list_any}
use Rattle.std.proofs.lemmas.List.FromFn.{length-range_with_len, get_or-range_with_len}
use Rattle.std.specs.Option.{option_map_or}
use Rattle.hmc_codes.specs.Graph.{GraphFields}
use Rattle.hmc_codes.specs.Limits.{ports}
use Rattle.hmc_codes.specs.Numbers.{upto}
use Rattle.hmc_routes.proofs.Firsts.{IsGrowing}
use Rattle.hmc_routes.specs.Distance.{within}
use Rattle.hmc_routes.specs.Neighbours.{neighbour, some_neighbour}

-- a neighbour at a port that passes a test
pub record PassingNeighbour (graph : GraphFields) (test : ℕ → Bool) (cube : ℕ) : Type 0 where
  pub port : ℕ
  pub real : port < ports
  pub next : ℕ
  pub joined : neighbour graph cube port ≡ Some next
  pub passes : test next ≡ true

pub at_port : (graph : GraphFields) (test : ℕ → Bool) (cube port : ℕ) (o : Option ℕ) → port < ports → neighbour graph cube port ≡ o → option_map_or test o false ≡ true → PassingNeighbour graph test cube
at_port graph test cube port None real joined is = absurd (cc)
at_port graph test cube port (Some next) real joined is = record { port = port; real = real; next = next; joined = joined; passes = is }

pub some_found : (graph : GraphFields) (test : ℕ → Bool) (cube : ℕ) → some_neighbour graph test cube ≡ true → PassingNeighbour graph test cube
some_found graph test cube is =
    let at : ℕ → Bool = λ port. option_map_or test (neighbour graph cube port) false in
    let any = Any-from_list_any at (upto ports) is in
    at_port graph test cube any.1 (neighbour graph cube any.1) (by any.0 any.1 any.2 any.3) refl any.4
  where
    by : (k x : ℕ) → k < length (upto ports) → get_or (upto ports) k x ≡ x → x < ports
    by k x below at =
        let less : k < ports = omega (arith, length-range_with_len 0 ports) in
        let is : get_or (upto ports) k x ≡ 0 + k = get_or-range_with_len 0 ports k x less in omega arith

pub some_shown : (graph : GraphFields) (test : ℕ → Bool) (cube port next : ℕ) → port < ports → neighbour graph cube port ≡ Some next → test next ≡ true → some_neighbour graph test cube ≡ true
some_shown graph test cube port next real joined passes =
    let at : ℕ → Bool = λ port. option_map_or test (neighbour graph cube port) false in
    let is : get_or (upto ports) port 0 ≡ 0 + port = get_or-range_with_len 0 ports port 0 real in
    let same : port ≡ get_or (upto ports) port 0 = omega arith in
    let here : at port ≡ true = ap (λ (o : Option ℕ). option_map_or test o false) joined ∙ passes in
    list_any_at at (upto ports) port 0 (omega (arith, length-range_with_len 0 ports)) (subst (λ (k : ℕ). at k ≡ true) same here)

-- a walk may be longer
pub walks_grow : (graph : GraphFields) (goal cube : ℕ) → IsGrowing (λ hops. within graph goal hops cube)
unfolding within
walks_grow graph goal cube hops is = or_left (within graph goal hops cube) (some_neighbour graph (within graph goal hops) cube) is

-- a walk from a neighbour gives one
pub through : (graph : GraphFields) (goal hops cube port next : ℕ) → port < ports → neighbour graph cube port ≡ Some next → within graph goal hops next ≡ true → within graph goal (suc hops) cube ≡ true
unfolding within
through graph goal hops cube port next real joined is =
    or_right (within graph goal hops cube) (some_neighbour graph (within graph goal hops) cube) (some_shown graph (within graph goal hops) cube port next real joined is)

-- the first hop of a walk
pub walk_on : (graph : GraphFields) (goal hops cube : ℕ) → within graph goal (suc hops) cube ≡ true → (within graph goal hops cube ≡ true) ⊎ (some_neighbour graph (within graph goal hops) cube ≡ true)
unfolding within
walk_on graph goal hops cube is = or_cases (within graph goal hops cube) (some_neighbour graph (within graph goal hops) cube) is

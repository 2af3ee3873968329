-- The first pair without a walk, and graphs that have none.
use Rattle.std.proofs.Common.{◌≡◌, ◌≤◌, ◌<◌, ◌∙◌, ◌+◌, ◌⊎◌, inl, inr, ℕ, zero, suc, true, false, not, Option, Some, None, option_map, refl, sym, ap, subst, arith}
use Rattle.std.proofs.lemmas.Bool.{cases_lt, not-true, not-false}
use Rattle.std.proofs.lemmas.Option.{same_Some}
use Rattle.std.specs.List.{range_with_len}
use Rattle.std.specs.Option.{option_or}
use Rattle.hmc_codes.specs.Graph.{GraphFields}
use Rattle.hmc_codes.specs.Numbers.{upto}
use Rattle.hmc_routes.proofs.Finds.{find_first, find_none, find_none-each, find_passes, find_within}
use Rattle.hmc_routes.proofs.Shortest.{any_walk}
use Rattle.hmc_routes.specs.Distance.{within, has_walk}
use Rattle.hmc_routes.specs.Parted.{unreached_from, parted_among, parted, InOnePart}
use Rattle.hmc_routes.specs.WellFormed.{IsGraph}

-- the first cube that isn't reached from this one
pub unreached-first : (graph : GraphFields) (from to : ℕ) → to < graph.cubes → has_walk graph to from ≡ false → ((k : ℕ) → k < to → has_walk graph k from ≡ true) → unreached_from graph from ≡ Some to
unreached-first graph from to below off reached =
    find_first (λ k. not (has_walk graph k from)) 0 graph.cubes to (omega arith) (omega arith) (ap not off) (λ k low less. ap not (reached k less))

pub unreached-none : (graph : GraphFields) (from : ℕ) → ((k : ℕ) → k < graph.cubes → has_walk graph k from ≡ true) → unreached_from graph from ≡ None
unreached-none graph from reached = find_none (λ k. not (has_walk graph k from)) 0 graph.cubes (λ k low less. ap not (reached k (omega arith)))

among_first : (graph : GraphFields) (a n from to : ℕ) → a ≤ from → from < a + n → unreached_from graph from ≡ Some to → ((k : ℕ) → a ≤ k → k < from → unreached_from graph k ≡ None) → parted_among graph (range_with_len a n) ≡ Some (from, to)
among_first graph a zero from to low below is reached = absurd (omega arith)
among_first graph a (suc n) from to low below is reached =
    by (cases_lt a from) (λ less. among_first graph (a + 1) n from to less (omega arith) is (λ k more before. reached k (omega arith) before))
  where
    by : (a < from) ⊎ (from ≤ a) → (a + 1 ≤ from → parted_among graph (range_with_len (a + 1) n) ≡ Some (from, to)) → parted_among graph (range_with_len a (suc n)) ≡ Some (from, to)
    by (inl less) later =
        let none : unreached_from graph a ≡ None = reached a (omega arith) less in
        ap (λ (o : Option ℕ). option_or (option_map (λ (k : ℕ). (a, k)) o) (parted_among graph (range_with_len (a + 1) n))) none ∙ later (omega arith)
    by (inr le) later =
        let same : from ≡ a = omega arith in
        let here : unreached_from graph a ≡ Some to = subst (λ (k : ℕ). unreached_from graph k ≡ Some to) same is in
        ap (λ (o : Option ℕ). option_or (option_map (λ (k : ℕ). (a, k)) o) (parted_among graph (range_with_len (a + 1) n))) here ∙ ap (λ (k : ℕ). Some (k, to)) (sym same)

among_none : (graph : GraphFields) (a n : ℕ) → ((k : ℕ) → a ≤ k → k < a + n → unreached_from graph k ≡ None) → parted_among graph (range_with_len a n) ≡ None
among_none graph a zero reached = refl
among_none graph a (suc n) reached =
    ap (λ (o : Option ℕ). option_or (option_map (λ (k : ℕ). (a, k)) o) (parted_among graph (range_with_len (a + 1) n))) (reached a (omega arith) (omega arith))
    ∙ among_none graph (a + 1) n (λ k low below. reached k (omega arith) (omega arith))

pub parted-first : (graph : GraphFields) (from to : ℕ) → from < graph.cubes → unreached_from graph from ≡ Some to → ((k : ℕ) → k < from → unreached_from graph k ≡ None) → parted graph ≡ Some (from, to)
unfolding parted
parted-first graph from to below is reached = among_first graph 0 graph.cubes from to (omega arith) (omega arith) is (λ k low less. reached k less)

pub parted-none : (graph : GraphFields) → ((k : ℕ) → k < graph.cubes → unreached_from graph k ≡ None) → parted graph ≡ None
unfolding parted
parted-none graph reached = among_none graph 0 graph.cubes (λ k low less. reached k (omega arith))

-- where no pair is parted all cubes are reached
none_each : (graph : GraphFields) (a n k : ℕ) → parted_among graph (range_with_len a n) ≡ None → a ≤ k → k < a + n → unreached_from graph k ≡ None
none_each graph a zero k none low below = absurd (omega arith)
none_each graph a (suc n) k none low below = by (unreached_from graph a) refl none (λ rest less. none_each graph (a + 1) n k rest less (omega arith)) (cases_lt a k)
  where
    by : (o : Option ℕ) → unreached_from graph a ≡ o → option_or (option_map (λ (j : ℕ). (a, j)) o) (parted_among graph (range_with_len (a + 1) n)) ≡ None → (parted_among graph (range_with_len (a + 1) n) ≡ None → a + 1 ≤ k → unreached_from graph k ≡ None) → (a < k) ⊎ (k ≤ a) → unreached_from graph k ≡ None
    by (Some to) here none later at = absurd (cc)
    by None here none later (inl less) = later none (omega arith)
    by None here none later (inr le) = let same : a ≡ k = omega arith in subst (λ (j : ℕ). unreached_from graph j ≡ None) same here

pub one_part : (graph : GraphFields) → parted graph ≡ None → InOnePart graph
unfolding parted
one_part graph none goal cube goal_real cube_real =
    let reached : unreached_from graph cube ≡ None = none_each graph 0 graph.cubes cube none (omega arith) (omega arith) in
    not-false (has_walk graph goal cube) (find_none-each (λ k. not (has_walk graph k cube)) 0 graph.cubes goal reached (omega arith) (omega arith))

-- the pair that is named has no walk
pub record NoWalk (graph : GraphFields) (from to : ℕ) : Type 0 where
  pub from_real : from < graph.cubes
  pub to_real : to < graph.cubes
  pub none : has_walk graph to from ≡ false

unreached-pair : (graph : GraphFields) (from to : ℕ) → from < graph.cubes → unreached_from graph from ≡ Some to → NoWalk graph from to
unreached-pair graph from to real is = record {
  from_real = real;
  to_real = let below : to < 0 + graph.cubes = find_within (λ k. not (has_walk graph k from)) 0 graph.cubes to is in omega arith;
  none = not-true (has_walk graph to from) (find_passes (λ k. not (has_walk graph k from)) (upto graph.cubes) to is);
}

among_pair : (graph : GraphFields) (a n from to : ℕ) → a + n ≤ graph.cubes → parted_among graph (range_with_len a n) ≡ Some (from, to) → NoWalk graph from to
among_pair graph a zero from to within_cubes is = absurd (cc)
among_pair graph a (suc n) from to within_cubes is = by (unreached_from graph a) refl is (λ rest. among_pair graph (a + 1) n from to (omega arith) rest)
  where
    by : (o : Option ℕ) → unreached_from graph a ≡ o → option_or (option_map (λ (j : ℕ). (a, j)) o) (parted_among graph (range_with_len (a + 1) n)) ≡ Some (from, to) → (parted_among graph (range_with_len (a + 1) n) ≡ Some (from, to) → NoWalk graph from to) → NoWalk graph from to
    by None here is later = later is
    by (Some k) here is later =
        let pairs : ◌≡◌ {A = ℕ × ℕ} (a, k) (from, to) = same_Some (a, k) (from, to) is in
        let one : a ≡ from = ap (λ (p : ℕ × ℕ). p.0) pairs in
        let two : k ≡ to = ap (λ (p : ℕ × ℕ). p.1) pairs in
        subst (λ (i : ℕ). NoWalk graph i to) one (subst (λ (j : ℕ). NoWalk graph a j) two (unreached-pair graph a k (omega arith) here))

pub pair-has_no_walk : (graph : GraphFields) (from to hops : ℕ) → IsGraph graph → parted graph ≡ Some (from, to) → within graph to hops from ≡ true → ⊥
unfolding parted
pair-has_no_walk graph from to hops is_graph is walk =
    let pair = among_pair graph 0 graph.cubes from to (omega arith) is in
    let clash : true ≡ false = sym (any_walk graph to from hops is_graph pair.to_real pair.from_real walk) ∙ pair.none in absurd (cc)

pub named-has_no_walk : (graph : GraphFields) (first second from to hops : ℕ) → IsGraph graph → Some (first, second) ≡ parted graph → first ≡ from → second ≡ to → within graph to hops from ≡ true → ⊥
named-has_no_walk graph first second from to hops is_graph is one two =
    pair-has_no_walk graph from to hops is_graph (sym is ∙ ap (λ (k : ℕ). Some (k, second)) one ∙ ap (λ (k : ℕ). Some (from, k)) two)

-- A shortest walk passes no cube twice, so it has fewer hops than there are cubes.
use Rattle.std.proofs.Common.{◌≡◌, ◌≤◌, ◌<◌, ◌+◌, ◌-◌, ◌⊎◌, inl, inr, ℕ, zero, suc, Bool, true, false, refl, sym, ap, subst, arith}
use Rattle.std.proofs.lemmas.Bool.{cases_lt}
use Rattle.hmc_codes.specs.Graph.{GraphFields}
use Rattle.hmc_routes.proofs.DistanceLemmas.{at_goal, distance-least, longer}
use Rattle.hmc_routes.proofs.Joined.{neighbour-real}
use Rattle.hmc_routes.proofs.Walks.{PassingNeighbour, some_found, through, walk_on, walks_grow}
use Rattle.hmc_routes.specs.Distance.{within, has_walk, distance}
use Rattle.hmc_routes.specs.Neighbours.{some_neighbour}
use Rattle.hmc_routes.specs.WellFormed.{IsGraph}

abbrev one_if : Bool → ℕ
one_if true = 1
one_if false = 0

-- how many numbers below this one pass the test
count : (ℕ → Bool) → ℕ → ℕ
count test zero = 0
count test (suc n) = count test n + one_if (test n)

one_le : (a : Bool) → one_if a ≤ 1
one_le true = omega arith
one_le false = omega arith

one_more : (a b : Bool) → (a ≡ true → b ≡ true) → one_if a ≤ one_if b
one_more true b on = let o : one_if b ≡ 1 = ap one_if (on refl) in omega arith
one_more false b on = omega arith

count_few : (test : ℕ → Bool) (n : ℕ) → count test n ≤ n
unfolding count
count_few test zero = omega arith
count_few test (suc n) = let rest = count_few test n in let one = one_le (test n) in omega arith

count_more : (test other : ℕ → Bool) (n : ℕ) → ((c : ℕ) → test c ≡ true → other c ≡ true) → count test n ≤ count other n
unfolding count
count_more test other zero more = omega arith
count_more test other (suc n) more = let rest = count_more test other n more in let one = one_more (test n) (other n) (more n) in omega arith

one_full : (a : Bool) → 1 ≤ one_if a → a ≡ true
one_full true is = refl
one_full false is = absurd (omega arith)

-- where all are counted each passes
count_full : (test : ℕ → Bool) (n c : ℕ) → n ≤ count test n → c < n → test c ≡ true
unfolding count
count_full test zero c full less = absurd (omega arith)
count_full test (suc n) c full less =
    let few = count_few test n in
    let one = one_le (test n) in
    by (cases_lt c n) (λ more. count_full test n c (omega arith) more)
  where
    by : (c < n) ⊎ (n ≤ c) → (c < n → test c ≡ true) → test c ≡ true
    by (inl more) later = later more
    by (inr le) later =
        let few : count test n ≤ n = count_few test n in
        let same : n ≡ c = omega arith in subst (λ (k : ℕ). test k ≡ true) same (one_full (test n) (omega arith))

one_same : (a b : Bool) → one_if b ≤ one_if a → b ≡ true → a ≡ true
one_same true b le is = refl
one_same false b le is = let o : one_if b ≡ 1 = ap one_if is in absurd (omega arith)

-- where no more are counted none is new
count_same : (test other : ℕ → Bool) (n c : ℕ) → ((k : ℕ) → test k ≡ true → other k ≡ true) → count other n ≤ count test n → c < n → other c ≡ true → test c ≡ true
unfolding count
count_same test other zero c more same less is = absurd (omega arith)
count_same test other (suc n) c more same less is =
    let rest : count test n ≤ count other n = count_more test other n more in
    let one : one_if (test n) ≤ one_if (other n) = one_more (test n) (other n) (more n) in
    by (cases_lt c n) (λ lower. count_same test other n c more (omega arith) lower is) (one_same (test n) (other n) (omega arith))
  where
    by : (c < n) ⊎ (n ≤ c) → (c < n → test c ≡ true) → (other n ≡ true → test n ≡ true) → test c ≡ true
    by (inl lower) later last = later lower
    by (inr le) later last =
        let here : c ≡ n = omega arith in
        subst (λ (k : ℕ). test k ≡ true) (sym here) (last (subst (λ (k : ℕ). other k ≡ true) here is))

-- nothing new is within one hop more
abbrev IsStill : GraphFields → (goal hops : ℕ) → Type 0
IsStill graph goal hops = (c : ℕ) → c < graph.cubes → within graph goal (suc hops) c ≡ true → within graph goal hops c ≡ true

still_on : (graph : GraphFields) (goal hops more : ℕ) → IsGraph graph → IsStill graph goal hops → (c : ℕ) → c < graph.cubes → within graph goal (hops + more) c ≡ true → within graph goal hops c ≡ true
still_on graph goal hops zero is_graph still c real is =
    let same : hops + 0 ≡ hops = omega arith in subst (λ (k : ℕ). within graph goal k c ≡ true) same is
still_on graph goal hops (suc more) is_graph still c real is =
    let up : hops + suc more ≡ suc (hops + more) = omega arith in
    by (still_on graph goal hops more is_graph still) (walk_on graph goal (hops + more) c (subst (λ (k : ℕ). within graph goal k c ≡ true) up is))
  where
    at : ((e : ℕ) → e < graph.cubes → within graph goal (hops + more) e ≡ true → within graph goal hops e ≡ true) → PassingNeighbour graph (within graph goal (hops + more)) c → within graph goal hops c ≡ true
    at later n = still c real (through graph goal hops c n.port n.next n.real n.joined (later n.next (neighbour-real graph c n.port n.next is_graph n.joined) n.passes))

    by : ((e : ℕ) → e < graph.cubes → within graph goal (hops + more) e ≡ true → within graph goal hops e ≡ true) → (within graph goal (hops + more) c ≡ true) ⊎ (some_neighbour graph (within graph goal (hops + more)) c ≡ true) → within graph goal hops c ≡ true
    by later (inl here) = later c real here
    by later (inr some) = at later (some_found graph (within graph goal (hops + more)) c some)

-- as many cubes are within n hops as n + 1, or nothing new is from some number of hops on
data Spread (graph : GraphFields) (goal hops : ℕ) : Type 0 where
  grows : suc hops ≤ count (within graph goal hops) graph.cubes → Spread graph goal hops
  still : (k : ℕ) → k ≤ hops → IsStill graph goal k → Spread graph goal hops

one_there : (test : ℕ → Bool) (x n : ℕ) → x < n → test x ≡ true → 1 ≤ count test n
unfolding count
one_there test x zero less is = absurd (omega arith)
one_there test x (suc n) less is = by (cases_lt x n) (λ more. one_there test x n more is)
  where
    by : (x < n) ⊎ (n ≤ x) → (x < n → 1 ≤ count test n) → 1 ≤ count test n + one_if (test n)
    by (inl more) later = let rest : 1 ≤ count test n = later more in omega arith
    by (inr le) later =
        let same : x ≡ n = omega arith in
        let one : one_if (test n) ≡ 1 = ap one_if (subst (λ (k : ℕ). test k ≡ true) same is) in omega arith

spreads : (graph : GraphFields) (goal hops : ℕ) → goal < graph.cubes → Spread graph goal hops
spreads graph goal zero real = grows (one_there (within graph goal 0) goal graph.cubes real (at_goal graph goal))
spreads graph goal (suc hops) real = by (spreads graph goal hops real)
  where
    next : suc hops ≤ count (within graph goal hops) graph.cubes → (count (within graph goal hops) graph.cubes < count (within graph goal (suc hops)) graph.cubes) ⊎ (count (within graph goal (suc hops)) graph.cubes ≤ count (within graph goal hops) graph.cubes) → Spread graph goal (suc hops)
    next big (inl more) = grows (omega arith)
    next big (inr no_more) =
        still hops (omega arith) (λ c less on. count_same (within graph goal hops) (within graph goal (suc hops)) graph.cubes c (λ k. walks_grow graph goal k hops) no_more less on)

    by : Spread graph goal hops → Spread graph goal (suc hops)
    by (grows big) = next big (cases_lt (count (within graph goal hops) graph.cubes) (count (within graph goal (suc hops)) graph.cubes))
    by (still k le is) = still k (omega arith) is

-- a walk of any length has a shorter one
pub sooner : (graph : GraphFields) (goal hops most c : ℕ) → IsGraph graph → suc most ≡ graph.cubes → goal < graph.cubes → c < graph.cubes → within graph goal hops c ≡ true → within graph goal most c ≡ true
sooner graph goal hops most c is_graph all goal_real c_real is = by (spreads graph goal most goal_real)
  where
    from : (k : ℕ) → k ≤ most → IsStill graph goal k → (hops < k) ⊎ (k ≤ hops) → within graph goal most c ≡ true
    from k le still_is (inl less) = longer graph goal c hops most (omega arith) is
    from k le still_is (inr more) =
        let rest : k + (hops - k) ≡ hops = omega arith in
        longer graph goal c k most le
        (still_on graph goal k (hops - k) is_graph still_is c c_real (subst (λ (j : ℕ). within graph goal j c ≡ true) (sym rest) is))

    by : Spread graph goal most → within graph goal most c ≡ true
    by (grows big) = count_full (within graph goal most) graph.cubes c (omega arith) c_real
    by (still k le still_is) = from k le still_is (cases_lt hops k)

-- so a distance is below the number of cubes: at most 7 among 8
pub few_hops : (graph : GraphFields) (goal c : ℕ) → IsGraph graph → goal < graph.cubes → c < graph.cubes → has_walk graph goal c ≡ true → distance graph goal c < graph.cubes
few_hops graph goal c is_graph goal_real c_real is =
    let most : (n : ℕ) × (suc n ≡ graph.cubes) = (graph.cubes - 1, omega arith) in
    let low : distance graph goal c ≤ most.0 = distance-least graph goal c most.0 (sooner graph goal graph.cubes most.0 c is_graph most.1 goal_real c_real is) in
    omega (arith, most.1)

-- a walk of any number of hops is seen by `has_walk`
pub any_walk : (graph : GraphFields) (goal c hops : ℕ) → IsGraph graph → goal < graph.cubes → c < graph.cubes → within graph goal hops c ≡ true → has_walk graph goal c ≡ true
any_walk graph goal c hops is_graph goal_real c_real is =
    let most : (n : ℕ) × (suc n ≡ graph.cubes) = (graph.cubes - 1, omega arith) in
    longer graph goal c most.0 graph.cubes (omega (arith, most.1)) (sooner graph goal hops most.0 c is_graph most.1 goal_real c_real is)

-- What is joined to a place is an end of a join, and it is joined to that place.
use Rattle.std.proofs.Common.{◌≡◌, ◌<◌, ◌∙◌, ◌==◌, ◌&&◌, ◌||◌, ◌⊎◌, inl, inr, ℕ, Bool, true, false, not, cond, nat_lt, is_some, List, [], ◌∷◌, Option, Some, None, option_map, option_and_then, refl, sym, ap, subst, eqb-true, eq-eqb}
use Rattle.std.proofs.lemmas.Bool.{and_parts, or_cases, ltb-true, not-true}
use Rattle.std.specs.List.{find, list_all}
use Rattle.hmc_codes.specs.Graph.{GraphFields}
use Rattle.hmc_codes.specs.Limits.{ports, most_hosts}
use Rattle.hmc_codes.specs.Places.{same_place}
use Rattle.hmc_codes.specs.declared.place.Join.{Join}
use Rattle.hmc_codes.specs.declared.place.Place.{Place}
use Rattle.hmc_codes.specs.declared.place.Place.TheVariants.{Host, Port}
use Rattle.hmc_routes.specs.Neighbours.{ends_at, far_end, joined_to, cube_number, neighbour}
use Rattle.hmc_routes.specs.WellFormed.{ends_of, is_there, may_be_joined, is_host_of, IsGraph}

-- places with one name are one
pub same_place-true : (place other : Place) → same_place place other ≡ true → place ≡ other
same_place-true (Host host) (Host other) is = ap Host (eqb-true host other is)
same_place-true (Host host) (Port other other_port) is = cc
same_place-true (Port cube port) (Host other) is = cc
same_place-true (Port cube port) (Port other other_port) is =
    let both = and_parts (cube == other) (port == other_port) is in
    let one : cube ≡ other = eqb-true cube other both.0 in
    let two : port ≡ other_port = eqb-true port other_port both.1 in cc

pub same_place-refl : (place : Place) → same_place place place ≡ true
same_place-refl (Host host) = eq-eqb host host refl
same_place-refl (Port cube port) =
    let one : (cube == cube) ≡ true = eq-eqb cube cube refl in
    let two : (port == port) ≡ true = eq-eqb port port refl in
    ap (λ (b : Bool). b && (port == port)) one ∙ two

-- one join more: what it joins to the place, or what the others do
pub joined-cons : (join : Join) (joins : List Join) (place : Place) → joined_to (join ∷ joins) place ≡ cond (ends_at place join) (Some (far_end place join)) (joined_to joins place)
unfolding joined_to
joined-cons join joins place = by (ends_at place join)
  where
    by : (b : Bool) → option_map (far_end place) (cond b (Some join) (find (ends_at place) joins)) ≡ cond b (Some (far_end place join)) (option_map (far_end place) (find (ends_at place) joins))
    by true = refl
    by false = refl

pub joined-nil : (place : Place) → joined_to [] place ≡ None
unfolding joined_to
joined-nil place = refl

-- a test that both ends pass is passed by the far one, and by the place
far-passes : (test : Place → Bool) (place : Place) (join : Join) → test join.a ≡ true → test join.b ≡ true → test (far_end place join) ≡ true
far-passes test place join a b = by (same_place join.a place)
  where
    by : (c : Bool) → test (cond c join.b join.a) ≡ true
    by true = b
    by false = a

near-passes : (test : Place → Bool) (place : Place) (join : Join) → ends_at place join ≡ true → test join.a ≡ true → test join.b ≡ true → test place ≡ true
near-passes test place join here a b = by (or_cases (same_place join.a place) (same_place join.b place) here)
  where
    by : (same_place join.a place ≡ true) ⊎ (same_place join.b place ≡ true) → test place ≡ true
    by (inl is) = subst (λ (p : Place). test p ≡ true) (same_place-true join.a place is) a
    by (inr is) = subst (λ (p : Place). test p ≡ true) (same_place-true join.b place is) b

-- what each end passes, both a place and what is joined to it pass
pub joined-passes : (test : Place → Bool) (joins : List Join) (place end : Place) → list_all test (ends_of joins) ≡ true → joined_to joins place ≡ Some end → (test place ≡ true) × (test end ≡ true)
joined-passes test [] place end all is = let clash : None ≡ Some end = sym (joined-nil place) ∙ is in absurd (cc)
joined-passes test (join ∷ joins) place end all is =
    let first = and_parts (test join.a) (test join.b && list_all test (ends_of joins)) all in
    let second = and_parts (test join.b) (list_all test (ends_of joins)) first.1 in
    by (ends_at place join) refl first.0 second.0 (sym (joined-cons join joins place) ∙ is) (λ later. joined-passes test joins place end second.1 later)
  where
    by : (b : Bool) → ends_at place join ≡ b → test join.a ≡ true → test join.b ≡ true → cond b (Some (far_end place join)) (joined_to joins place) ≡ Some end → (joined_to joins place ≡ Some end → (test place ≡ true) × (test end ≡ true)) → (test place ≡ true) × (test end ≡ true)
    by true here a b is later =
        let same : far_end place join ≡ end = cc in
        (near-passes test place join here a b, subst (λ (p : Place). test p ≡ true) same (far-passes test place join a b))
    by false here a b is later = later is

-- a place and what is joined to it may be joined
may-swap : (place other : Place) → may_be_joined place other ≡ true → may_be_joined other place ≡ true
may-swap (Host host) (Host other) is = is
may-swap (Host host) (Port other other_port) is = refl
may-swap (Port cube port) (Host other) is = refl
may-swap (Port cube port) (Port other other_port) is = by (other == cube) refl
  where
    by : (b : Bool) → (other == cube) ≡ b → not b ≡ true
    by true same =
        let one : cube ≡ other = sym (eqb-true other cube same) in
        let off : (cube == other) ≡ false = not-true (cube == other) is in
        let clash : true ≡ false = sym (eq-eqb cube other one) ∙ off in absurd (cc)
    by false same = refl

pub joined-apart : (joins : List Join) (place end : Place) → list_all (λ join. may_be_joined join.a join.b) joins ≡ true → joined_to joins place ≡ Some end → may_be_joined place end ≡ true
joined-apart [] place end all is = let clash : None ≡ Some end = sym (joined-nil place) ∙ is in absurd (cc)
joined-apart (join ∷ joins) place end all is =
    let first = and_parts (may_be_joined join.a join.b) (list_all (λ j. may_be_joined j.a j.b) joins) all in
    by (ends_at place join) refl first.0 (sym (joined-cons join joins place) ∙ is) (λ later. joined-apart joins place end first.1 later)
  where
    at : (a b : Bool) → same_place join.a place ≡ a → same_place join.b place ≡ b → (a || b) ≡ true → may_be_joined join.a join.b ≡ true → cond a join.b join.a ≡ end → may_be_joined place end ≡ true
    at true b is_a is_b some may far = subst (λ (p : Place). may_be_joined p end ≡ true) (same_place-true join.a place is_a) (subst (λ (p : Place). may_be_joined join.a p ≡ true) far may)
    at false true is_a is_b some may far = subst (λ (p : Place). may_be_joined p end ≡ true) (same_place-true join.b place is_b) (subst (λ (p : Place). may_be_joined join.b p ≡ true) far (may-swap join.a join.b may))
    at false false is_a is_b some may far = absurd (cc)

    by : (b : Bool) → ends_at place join ≡ b → may_be_joined join.a join.b ≡ true → cond b (Some (far_end place join)) (joined_to joins place) ≡ Some end → (joined_to joins place ≡ Some end → may_be_joined place end ≡ true) → may_be_joined place end ≡ true
    by true here may is later = let same : far_end place join ≡ end = cc in at (same_place join.a place) (same_place join.b place) refl refl here may same
    by false here may is later = later is

-- a port of a graph
pub record IsPort (graph : GraphFields) (cube port : ℕ) : Type 0 where
  pub cube_real : cube < graph.cubes
  pub port_real : port < ports

pub port-there : (graph : GraphFields) (cube port : ℕ) → is_there graph.cubes (Port cube port) ≡ true → IsPort graph cube port
port-there graph cube port there =
    let both = and_parts (nat_lt cube graph.cubes) (nat_lt port ports) there in record {
      cube_real = ltb-true cube graph.cubes both.0;
      port_real = ltb-true port ports both.1;
    }

-- a neighbour is a cube of the graph
pub neighbour-real : (graph : GraphFields) (cube port next : ℕ) → IsGraph graph → neighbour graph cube port ≡ Some next → next < graph.cubes
neighbour-real graph cube port next is_graph is = by (joined_to graph.joins (Port cube port)) refl is
  where
    at : (place : Place) → is_there graph.cubes place ≡ true → cube_number place ≡ Some next → next < graph.cubes
    at (Host host) there is = absurd (cc)
    at (Port other other_port) there is = let same : other ≡ next = cc in subst (λ (k : ℕ). k < graph.cubes) same (port-there graph other other_port there).cube_real

    by : (o : Option Place) → joined_to graph.joins (Port cube port) ≡ o → option_and_then cube_number o ≡ Some next → next < graph.cubes
    by None joined is = absurd (cc)
    by (Some place) joined is = at place (joined-passes (is_there graph.cubes) graph.joins (Port cube port) place is_graph.ends_exist joined).1 is

-- a host of the graph is joined to a port of it
pub record HasHome (graph : GraphFields) (host : ℕ) : Type 0 where
  pub host_real : host < most_hosts
  pub cube : ℕ
  pub port : ℕ
  pub joined : joined_to graph.joins (Host host) ≡ Some (Port cube port)
  pub real : IsPort graph cube port

pub has_home : (graph : GraphFields) (host : ℕ) → IsGraph graph → is_host_of graph host ≡ true → HasHome graph host
has_home graph host is_graph is = by (joined_to graph.joins (Host host)) refl is
  where
    at : (place : Place) → joined_to graph.joins (Host host) ≡ Some place → is_there graph.cubes (Host host) ≡ true → is_there graph.cubes place ≡ true → may_be_joined (Host host) place ≡ true → HasHome graph host
    at (Host other) joined here there may = absurd (cc)
    at (Port cube port) joined here there may = record {
      host_real = ltb-true host most_hosts here;
      cube = cube;
      port = port;
      joined = joined;
      real = port-there graph cube port there;
    }

    by : (o : Option Place) → joined_to graph.joins (Host host) ≡ o → is_some o ≡ true → HasHome graph host
    by None joined is = absurd (cc)
    by (Some place) joined is =
        let both = joined-passes (is_there graph.cubes) graph.joins (Host host) place is_graph.ends_exist joined in
        at place joined both.0 both.1 (joined-apart graph.joins (Host host) place is_graph.ends_apart joined)

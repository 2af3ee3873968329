-- The one link of a case joins host 0 with a port of the cube.
use Rattle.std.proofs.Common.{◌≡◌, ◌<◌, ◌/◌, ◌∙◌, ◌⊎◌, ◌==◌, ◌&&◌, inl, inr, ℕ, zero, suc, Bool, true, false, not, Some, nat_lt, List, [], ◌∷◌, ◌++◌, length, append-nil, refl, sym, ap, subst, arith, ltb-true, eq-eqb}
use Rattle.std.specs.List.{list_all}
use Rattle.std.proofs.lemmas.Bool.{and_parts}
use Rattle.std.specs.Prelude.{filter}
use Rattle.hmc_codes.specs.Flit.{zero_flit}
use Rattle.hmc_codes.specs.Limits.{ports}
use Rattle.hmc_codes.specs.Numbers.{upto}
use Rattle.hmc_codes.specs.Link.{LinkFields}
use Rattle.hmc_schedule.specs.declared.step.Step.{Step}
use Rattle.hmc_schedule.specs.declared.step.Step.TheVariants.{Give, Send, Land, Registers, Take}
use Rattle.hmc_schedule.specs.Plan.{is_joined, vaults_at, banks_at}
use Rattle.hmc_schedule.specs.Round.{round_of, shifts_of, spreads_of, banks_of, lifts_of}
use Rattle.hmc_codes.specs.declared.place.Join.{Join}
use Rattle.hmc_codes.specs.declared.place.Place.{Place}
use Rattle.hmc_codes.specs.declared.place.Place.TheVariants as places
use Rattle.hmc_case.specs.Setup.{CubeSetupFields}
use Rattle.hmc_case.specs.declared.setup.LinkRow.{LinkRow}
use Rattle.hmc_routes.specs.Directions.{direction_among}
use Rattle.hmc_routes.specs.Ports.{port_to_host}
use Rattle.hmc_routes.specs.Neighbours.{joined_to}
use Rattle.hmc_routes.specs.WellFormed.{ends_of, may_be_joined, is_there, is_host_of}
use Rattle.hmc_send.specs.declared.toward.Toward.{Toward}
use Rattle.hmc_send.specs.declared.toward.Toward.TheVariants.{Forth, Back}
use Rattle.hmc_send.specs.LinkEntries.{other}
use Rattle.hmc_journal.specs.Setup.{Setup, Topology, cubes_in, hosts_in, directions_in, joins_of, graph_of, end_of, direction_from}
use Rattle.hmc_journal.specs.Links.{toward, direction_to}
use Rattle.hmc_journal.specs.Routes.{port_towards}
use Rattle.hmc_journal.specs.Network.{IsNetwork}
use Rattle.hmc_rounds.specs.CubeQueues.{vaults_in, banks_in}
use Rattle.hmc_rounds.specs.Single.{IsSingle}
use Rattle.hmc_rounds.specs.Rounds.{plan_of, link_steps, cube_steps}

-- the directions of requests and of answers, and the port
pub record Joined (topology : Topology) : Type 0 where
  pub cube : CubeSetupFields
  pub cubes : topology.cubes ≡ cube ∷ []
  pub link : LinkRow
  pub one_link : topology.links ≡ link ∷ []
  pub forth : ℕ
  pub back : ℕ
  pub port : ℕ
  pub requests : Toward
  pub way_forth : toward forth ≡ requests
  pub way_back : toward back ≡ other requests
  pub link_forth : forth / 2 ≡ 0
  pub link_back : back / 2 ≡ 0
  pub from_host : direction_from topology (places.Host 0) ≡ Some forth
  pub from_port : direction_from topology (places.Port 0 port) ≡ Some back
  pub to_host : direction_to topology (places.Host 0) ≡ Some back
  pub to_port : direction_to topology (places.Port 0 port) ≡ Some forth
  pub end_forth : end_of topology forth ≡ places.Port 0 port
  pub end_back : end_of topology back ≡ places.Host 0
  pub two : directions_in topology ≡ 2
  pub forth_less : forth < 2
  pub back_less : back < 2
  pub either : (d : ℕ) → d < 2 → (d ≡ forth) ⊎ (d ≡ back)
  pub order : ((forth ≡ 0) × (back ≡ 1)) ⊎ ((forth ≡ 1) × (back ≡ 0))
  pub one_host : hosts_in topology ≡ 1
  pub towards : port_towards topology 0 0 ≡ Some port
  pub port_there : port < 4
  -- a round of it
  pub ports_are : filter (is_joined (plan_of topology) 0) (upto ports) ≡ port ∷ []
  pub vaults_are : vaults_at (plan_of topology) 0 ≡ vaults_in topology
  pub banks_are : banks_at (plan_of topology) 0 ≡ banks_in topology
  pub round_is : round_of (plan_of topology) ≡ Give 0 ∷ link_steps ++ cube_steps (plan_of topology)

abbrev topology_of : CubeSetupFields → Join → LinkFields → Topology
topology_of cube join sizes =
    record { cubes = cube ∷ []; links = record { join = join; setup = sizes } ∷ [] }

below_two : (d : ℕ) → d < 2 → (d ≡ 0) ⊎ (d ≡ 1)
below_two zero h = inl refl
below_two (suc zero) h = inr refl
below_two (suc (suc d)) h = absurd (omega (arith, h))

swap : {A B : Type 0} → A ⊎ B → B ⊎ A
swap (inl a) = inr a
swap (inr b) = inl b

no_more : {X : Type 0} (a b c d r e : List X) → (a ++ []) ++ (b ++ []) ++ (c ++ []) ++ r
    ++ (d ++ []) ++ e ≡ a ++ b ++ c ++ r ++ d ++ e
no_more a b c d r e = rw (append-nil a, append-nil b, append-nil c, append-nil d) refl

ports_host : (cube : CubeSetupFields) (sizes : LinkFields) (port : ℕ) → port < 4 →
    filter (is_joined
    (plan_of (topology_of cube (record { a = places.Host 0; b = places.Port 0 port }) sizes)) 0)
    (upto ports) ≡ port ∷ []
ports_host cube sizes zero less = refl
ports_host cube sizes (suc zero) less = refl
ports_host cube sizes (suc (suc zero)) less = refl
ports_host cube sizes (suc (suc (suc zero))) less = refl
ports_host cube sizes (suc (suc (suc (suc p)))) less = absurd (omega (arith, less))

ports_port : (cube : CubeSetupFields) (sizes : LinkFields) (port : ℕ) → port < 4 →
    filter (is_joined
    (plan_of (topology_of cube (record { a = places.Port 0 port; b = places.Host 0 }) sizes)) 0)
    (upto ports) ≡ port ∷ []
ports_port cube sizes zero less = refl
ports_port cube sizes (suc zero) less = refl
ports_port cube sizes (suc (suc zero)) less = refl
ports_port cube sizes (suc (suc (suc zero))) less = refl
ports_port cube sizes (suc (suc (suc (suc p)))) less = absurd (omega (arith, less))

abbrev after_link : List Step → List Step
after_link z = Give 0 ∷ Send 0 ∷ Send 1 ∷ Land 0 zero_flit ∷ Land 1 zero_flit ∷ z

round_host : (cube : CubeSetupFields) (sizes : LinkFields) (port : ℕ) → let plan =
    plan_of (topology_of cube (record { a = places.Host 0; b = places.Port 0 port }) sizes) in
    round_of plan ≡ Give 0 ∷ link_steps ++ cube_steps plan
unfolding round_of
round_host cube sizes port =
    let plan =
    plan_of (topology_of cube (record { a = places.Host 0; b = places.Port 0 port }) sizes) in
    ap after_link
    (no_more (shifts_of plan 0) (spreads_of plan 0) (banks_of plan 0) (lifts_of plan 0)
    (Registers 0 ∷ []) (Take 0 ∷ []))

round_port : (cube : CubeSetupFields) (sizes : LinkFields) (port : ℕ) → let plan =
    plan_of (topology_of cube (record { a = places.Port 0 port; b = places.Host 0 }) sizes) in
    round_of plan ≡ Give 0 ∷ link_steps ++ cube_steps plan
unfolding round_of
round_port cube sizes port =
    let plan =
    plan_of (topology_of cube (record { a = places.Port 0 port; b = places.Host 0 }) sizes) in
    ap after_link
    (no_more (shifts_of plan 0) (spreads_of plan 0) (banks_of plan 0) (lifts_of plan 0)
    (Registers 0 ∷ []) (Take 0 ∷ []))

host_first : (cube : CubeSetupFields) (sizes : LinkFields) (port : ℕ) → port < 4 →
    Joined (topology_of cube (record { a = places.Host 0; b = places.Port 0 port }) sizes)
unfolding direction_among port_to_host joined_to
host_first cube sizes port less = record {
  cube = cube;
  cubes = refl;
  link = record { join = record { a = places.Host 0; b = places.Port 0 port }; setup = sizes };
  one_link = refl;
  forth = 0;
  back = 1;
  port = port;
  requests = Forth;
  way_forth = refl;
  way_back = refl;
  link_forth = refl;
  link_back = refl;
  from_host = refl;
  from_port = rw (eq-eqb port port refl) refl;
  to_host = refl;
  to_port = rw (eq-eqb port port refl) refl;
  end_forth = refl;
  end_back = refl;
  two = refl;
  forth_less = omega arith;
  back_less = omega arith;
  either = below_two;
  order = inl (refl, refl);
  one_host = refl;
  towards = refl;
  port_there = less;
  ports_are = ports_host cube sizes port less;
  vaults_are = refl;
  banks_are = refl;
  round_is = round_host cube sizes port;
}

port_first : (cube : CubeSetupFields) (sizes : LinkFields) (port : ℕ) → port < 4 →
    Joined (topology_of cube (record { a = places.Port 0 port; b = places.Host 0 }) sizes)
unfolding direction_among port_to_host joined_to
port_first cube sizes port less = record {
  cube = cube;
  cubes = refl;
  link = record { join = record { a = places.Port 0 port; b = places.Host 0 }; setup = sizes };
  one_link = refl;
  forth = 1;
  back = 0;
  port = port;
  requests = Back;
  way_forth = refl;
  way_back = refl;
  link_forth = refl;
  link_back = refl;
  from_host = refl;
  from_port = rw (eq-eqb port port refl) refl;
  to_host = refl;
  to_port = rw (eq-eqb port port refl) refl;
  end_forth = refl;
  end_back = refl;
  two = refl;
  forth_less = omega arith;
  back_less = omega arith;
  either = λ d h. swap (below_two d h);
  order = inr (refl, refl);
  one_host = refl;
  towards = refl;
  port_there = less;
  ports_are = ports_port cube sizes port less;
  vaults_are = refl;
  banks_are = refl;
  round_is = round_port cube sizes port;
}

-- what is asked of the one link
abbrev IsOne : Topology → Type 0
IsOne t =
    (list_all (is_there (cubes_in t)) (ends_of (joins_of t)) ≡ true)
    × (list_all (λ (join : Join). may_be_joined join.a join.b) (joins_of t) ≡ true)
    × ((host : ℕ) → is_host_of (graph_of t) host ≡ nat_lt host (hosts_in t))

port_is : (c p : ℕ) → (nat_lt c 1 && nat_lt p 4) ≡ true → (c ≡ 0) × (p < 4)
port_is c p is =
    let both = and_parts (nat_lt c 1) (nat_lt p 4) is in
    let small : c < 1 = ltb-true c 1 both.0 in (omega (arith, small), ltb-true p 4 both.1)

host_is : (h : ℕ) (there : Bool) → there ≡ nat_lt h 1 → there ≡ true → h ≡ 0
host_is h there is found = let small : h < 1 = ltb-true h 1 (sym is ∙ found) in omega (arith, small)

host_first_by : (cube : CubeSetupFields) (sizes : LinkFields) (h c p : ℕ) → h ≡ 0 → c ≡ 0 → p < 4 →
    Joined (topology_of cube (record { a = places.Host h; b = places.Port c p }) sizes)
host_first_by cube sizes h c p h_is c_is less =
    subst (λ (n : ℕ).
    Joined (topology_of cube (record { a = places.Host n; b = places.Port c p }) sizes))
    (sym h_is)
    (subst (λ (n : ℕ).
    Joined (topology_of cube (record { a = places.Host 0; b = places.Port n p }) sizes)) (sym c_is)
    (host_first cube sizes p less))

port_first_by : (cube : CubeSetupFields) (sizes : LinkFields) (h c p : ℕ) → h ≡ 0 → c ≡ 0 → p < 4 →
    Joined (topology_of cube (record { a = places.Port c p; b = places.Host h }) sizes)
port_first_by cube sizes h c p h_is c_is less =
    subst (λ (n : ℕ).
    Joined (topology_of cube (record { a = places.Port c p; b = places.Host n }) sizes))
    (sym h_is)
    (subst (λ (n : ℕ).
    Joined (topology_of cube (record { a = places.Port n p; b = places.Host 0 }) sizes)) (sym c_is)
    (port_first cube sizes p less))

by_places : (cube : CubeSetupFields) (sizes : LinkFields) (a b : Place) →
    IsOne (topology_of cube (record { a = a; b = b }) sizes) →
    Joined (topology_of cube (record { a = a; b = b }) sizes)
unfolding joined_to
by_places cube sizes (places.Host h) (places.Host k) one =
    absurd (let e : false ≡ true = one.1 in cc)
by_places cube sizes (places.Host h) (places.Port c p) one =
    let rest =
    and_parts (is_there 1 (places.Host h)) (list_all (is_there 1) (places.Port c p ∷ []))
    one.0 in
    let last = and_parts (is_there 1 (places.Port c p)) true rest.1 in
    let at = port_is c p last.0 in
    host_first_by cube sizes h c p
    (host_is h
    (is_host_of
    (graph_of (topology_of cube (record { a = places.Host h; b = places.Port c p }) sizes)) h)
    (one.2 h) (rw (eq-eqb h h refl) refl)) at.0 at.1
by_places cube sizes (places.Port c p) (places.Host h) one =
    let rest =
    and_parts (is_there 1 (places.Port c p)) (list_all (is_there 1) (places.Host h ∷ []))
    one.0 in
    let at = port_is c p rest.0 in
    port_first_by cube sizes h c p
    (host_is h
    (is_host_of
    (graph_of (topology_of cube (record { a = places.Port c p; b = places.Host h }) sizes)) h)
    (one.2 h) (rw (eq-eqb h h refl) refl)) at.0 at.1
by_places cube sizes (places.Port c p) (places.Port d q) one =
    let rest =
    and_parts (is_there 1 (places.Port c p)) (list_all (is_there 1) (places.Port d q ∷ []))
    one.0 in
    let last = and_parts (is_there 1 (places.Port d q)) true rest.1 in
    let here = port_is c p rest.0 in
    let there = port_is d q last.0 in
    let apart = and_parts (may_be_joined (places.Port c p) (places.Port d q)) true one.1 in
    let same : (c == d) ≡ true = eq-eqb c d (here.0 ∙ sym there.0) in
    let clash : not true ≡ true = sym (ap not same) ∙ apart.0 in
    absurd (let e : false ≡ true = clash in cc)

one_of : {X : Type 0} (xs : List X) → length xs ≡ 1 → (x : X) × (xs ≡ x ∷ [])
one_of [] is = absurd (let e : 0 ≡ 1 = is in omega (arith, e))
one_of (x ∷ []) is = (x, refl)
one_of (x ∷ y ∷ xs) is = absurd (let e : suc (suc (length xs)) ≡ 1 = is in omega (arith, e))

pub joined : (setup : Setup) → IsNetwork setup → IsSingle setup.topology → Joined setup.topology
joined setup network single =
    let t = setup.topology in
    let cube = one_of t.cubes single.cubes in
    let link = one_of t.links single.links in
    let here : IsOne t = (network.graph.ends_exist, network.graph.ends_apart, network.hosts) in
    let there : IsOne (record { cubes = cube.0 ∷ []; links = link.0 ∷ [] }) =
    subst (λ (ls : List LinkRow). IsOne (record { cubes = cube.0 ∷ []; links = ls })) link.1
    (subst (λ (cs : List CubeSetupFields). IsOne (record { cubes = cs; links = t.links }))
    cube.1 here) in
    let made : Joined (record { cubes = cube.0 ∷ []; links = link.0 ∷ [] }) =
    by_places cube.0 link.0.setup link.0.join.a link.0.join.b there in
    subst (λ (cs : List CubeSetupFields). Joined (record { cubes = cs; links = t.links }))
    (sym cube.1)
    (subst (λ (ls : List LinkRow). Joined (record { cubes = cube.0 ∷ []; links = ls }))
    (sym link.1) made)

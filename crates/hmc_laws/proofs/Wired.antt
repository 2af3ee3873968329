-- The directions of a network: where they start and end, and what is at their ends.
use Rattle.std.proofs.Common.{◌≡◌, ◌∙◌, ◌+◌, ◌<◌, ◌*◌, ◌/◌, ◌==◌, ◌⊎◌, inl, inr, ℕ, zero, suc, Bool, true, false, if◌then◌else◌, nat_lt, Option, Some, None, is_some, List, [], ◌∷◌, length, slice_index_or, refl, sym, ap, ap₂, arith, ltb-true, eqb-true, eq-eqb, ne_eqb}
use Rattle.std.specs.Prelude.{◌%◌, not, option_map, option_and_then}
use Rattle.std.specs.List.{find, list_all}
use Rattle.std.proofs.lemmas.Bool.{and_parts}
use Rattle.std.specs.Option.{option_map_or}
use Rattle.std.proofs.lemmas.List.{length-map}
use mathlib.Core.Bool.{cond}
use Rattle.hmc_codes.specs.Limits.{ports}
use Rattle.hmc_codes.specs.Numbers.{upto}
use Rattle.hmc_codes.specs.Places.{same_place}
use Rattle.hmc_codes.specs.declared.place.Join.{Join}
use Rattle.hmc_codes.specs.declared.place.Place.{Place}
use Rattle.hmc_codes.specs.declared.place.Place.TheVariants as places
use Rattle.hmc_case.specs.declared.setup.LinkRow.{LinkRow}
use Rattle.hmc_routes.specs.Directions.{no_join, other, join_of}
use Rattle.hmc_routes.specs.Directions as directions
use Rattle.hmc_routes.specs.Distance.{distance}
use Rattle.hmc_routes.specs.Neighbours.{joined_to, neighbour, cube_number}
use Rattle.hmc_routes.specs.Ports.{is_nearer, port_to_cube, port_to_place, port_to_host}
use Rattle.hmc_routes.specs.WellFormed.{ends_of, is_there, may_be_joined}
use Rattle.hmc_journal.specs.Setup.{Topology, Setup, joins_of, graph_of, cubes_in, hosts_in, directions_in, start_of, end_of, direction_from}
use Rattle.hmc_journal.specs.Network.{IsNetwork}
use Rattle.hmc_journal.specs.Links.{direction_to}
use Rattle.hmc_journal.specs.Queues.{same_queue, buffer_at, landing_buffer}
use Rattle.hmc_journal.proofs.Joins.{other_other, other_inside, end_is_start, start_is_end, start_next, from_place, joined_from, from_start}
use Rattle.hmc_routes.proofs.Joined.{same_place-true}

-- What holds of the directions of a network.
pub record Wired (topology : Topology) : Type 0 where
  -- a direction from a place starts there, and ends where the place is joined to
  pub inside : (place : Place) (d : ℕ) → direction_from topology place ≡ Some d → d < directions_in topology
  pub starts : (place : Place) (d : ℕ) → direction_from topology place ≡ Some d → start_of topology d ≡ place
  pub joined : (place : Place) (d : ℕ) → direction_from topology place ≡ Some d → joined_to (joins_of topology) place ≡ Some (end_of topology d)
  -- and there is one wherever something is joined
  pub from : (place there : Place) → joined_to (joins_of topology) place ≡ Some there → (d : ℕ) × (direction_from topology place ≡ Some d)
  -- there is no other from its start
  pub found : (d : ℕ) → d < directions_in topology → direction_from topology (start_of topology d) ≡ Some d
  -- two hosts aren't joined, and each end is a host or a cube that is there
  pub apart : (d : ℕ) → d < directions_in topology → may_be_joined (start_of topology d) (end_of topology d) ≡ true
  pub cubes : (d cube port : ℕ) → d < directions_in topology → start_of topology d ≡ places.Port cube port → cube < cubes_in topology
  pub hosts : (d host : ℕ) → d < directions_in topology → start_of topology d ≡ places.Host host → host < hosts_in topology

-- ---- a network's directions are such

joins_count : (topology : Topology) → length (joins_of topology) ≡ length topology.links
joins_count topology = length-map topology.links (λ (link : LinkRow). link.join)

all_starts : (test : Place → Bool) (joins : List Join) (d : ℕ) → d < 2 * length joins → list_all test (ends_of joins) ≡ true → test (directions.start_of joins d) ≡ true
all_starts test [] d less all = absurd (omega arith)
all_starts test (join ∷ joins) zero less all = (and_parts (test join.a) (list_all test (join.b ∷ ends_of joins)) all).0
all_starts test (join ∷ joins) (suc zero) less all =
    let later = and_parts (test join.a) (list_all test (join.b ∷ ends_of joins)) all in
    (and_parts (test join.b) (list_all test (ends_of joins)) later.1).0
all_starts test (join ∷ joins) (suc (suc d)) less all =
    let later = and_parts (test join.a) (list_all test (join.b ∷ ends_of joins)) all in
    let rest = and_parts (test join.b) (list_all test (ends_of joins)) later.1 in
    ap test (start_next join joins d) ∙ all_starts test joins d (omega arith) rest.1

same_back : (c d : ℕ) → (c == d) ≡ (d == c)
same_back c d = by_test (c == d) refl
  where
    by_test : (same : Bool) → (c == d) ≡ same → same ≡ (d == c)
    by_test true is = sym (eq-eqb d c (sym (eqb-true c d is)))
    by_test false is = sym (ne_eqb d c (λ e. let clash : true ≡ false = sym (eq-eqb c d (sym e)) ∙ is in cc))

either_way : (p q : Place) → may_be_joined p q ≡ may_be_joined q p
either_way (places.Host h) (places.Host k) = refl
either_way (places.Host h) (places.Port c p) = refl
either_way (places.Port c p) (places.Host h) = refl
either_way (places.Port c p) (places.Port d q) = ap not (same_back c d)

apart_at : (joins : List Join) (i : ℕ) → i < length joins → list_all (λ (join : Join). may_be_joined join.a join.b) joins ≡ true → may_be_joined (slice_index_or joins i no_join).a (slice_index_or joins i no_join).b ≡ true
apart_at [] i less all = absurd (omega arith)
apart_at (join ∷ joins) zero less all = (and_parts (may_be_joined join.a join.b) (list_all (λ (j : Join). may_be_joined j.a j.b) joins) all).0
apart_at (join ∷ joins) (suc i) less all = apart_at joins i (omega arith) (and_parts (may_be_joined join.a join.b) (list_all (λ (j : Join). may_be_joined j.a j.b) joins) all).1

ends_apart : (joins : List Join) (d : ℕ) → d < 2 * length joins → list_all (λ (join : Join). may_be_joined join.a join.b) joins ≡ true → may_be_joined (directions.start_of joins d) (directions.end_of joins d) ≡ true
ends_apart joins d less all = by_even (d % 2 == 0)
  where
    by_even : (even : Bool) → may_be_joined (if even then (join_of joins d).a else (join_of joins d).b) (if even then (join_of joins d).b else (join_of joins d).a) ≡ true
    by_even true = apart_at joins (d / 2) (omega arith) all
    by_even false = either_way (join_of joins d).b (join_of joins d).a ∙ apart_at joins (d / 2) (omega arith) all

port_there : (cubes cube port : ℕ) (place : Place) → place ≡ places.Port cube port → is_there cubes place ≡ true → cube < cubes
port_there cubes cube port place is there =
    let both = and_parts (nat_lt cube cubes) (nat_lt port ports) (ap (is_there cubes) (sym is) ∙ there) in ltb-true cube cubes both.0

host_there : (hosts host : ℕ) (found : Option Place) (place : Place) → found ≡ Some place → is_some found ≡ nat_lt host hosts → host < hosts
host_there hosts host found place is joined = ltb-true host hosts (sym joined ∙ ap is_some is)

pub wired : (setup : Setup) → IsNetwork setup → Wired setup.topology
wired setup network =
    let t = setup.topology in
    let joins = joins_of t in
    let count : length joins ≡ length t.links = joins_count t in
    let found = λ (d : ℕ) (less : d < directions_in t). from_start joins d network.graph.joined_once (omega arith) in record {
      inside = λ place d is. (let at = from_place joins place d is in let less = at.inside in omega arith);
      starts = λ place d is. (from_place joins place d is).starts;
      joined = λ place d is. (from_place joins place d is).joined;
      from = λ place there is. joined_from joins place there is;
      found = found;
      apart = λ d less. ends_apart joins d (omega arith) network.graph.ends_apart;
      cubes = λ d cube port less is. port_there (cubes_in t) cube port (start_of t d) is (all_starts (is_there (cubes_in t)) joins d (omega arith) network.graph.ends_exist);
      hosts = λ d host less is.
          (let at : direction_from t (places.Host host) ≡ Some d = ap (direction_from t) (sym is) ∙ found d less in
          host_there (hosts_in t) host (joined_to joins (places.Host host)) (end_of t d) (from_place joins (places.Host host) d at).joined (network.hosts host));
    }

-- ---- the other end

pub to_end : (topology : Topology) → Wired topology → (d : ℕ) → d < directions_in topology → direction_from topology (end_of topology d) ≡ Some (other d)
to_end topology is d less =
    ap (direction_from topology) (end_is_start (joins_of topology) d) ∙ is.found (other d) (other_inside d (length topology.links) less)

pub ends_there : (topology : Topology) → Wired topology → (d : ℕ) → d < directions_in topology → direction_to topology (end_of topology d) ≡ Some d
ends_there topology is d less = ap (option_map other) (to_end topology is d less) ∙ ap Some (other_other d)

pub end_cubes : (topology : Topology) → Wired topology → (d cube port : ℕ) → d < directions_in topology → end_of topology d ≡ places.Port cube port → cube < cubes_in topology
end_cubes topology is d cube port less ends =
    is.cubes (other d) cube port (other_inside d (length topology.links) less) (sym (end_is_start (joins_of topology) d) ∙ ends)

-- no direction leads from a host to a host
pub not_hosts : (topology : Topology) → Wired topology → (d host far : ℕ) → d < directions_in topology → start_of topology d ≡ places.Host host → end_of topology d ≡ places.Host far → ⊥
not_hosts topology is d host far less starts ends =
    let clash : false ≡ true = sym (ap₂ may_be_joined starts ends) ∙ is.apart d less in cc

-- the buffers at the ends of two directions are two
pub same_buffers : (p q : Place) → same_queue (buffer_at p) (buffer_at q) ≡ same_place p q
same_buffers (places.Host h) (places.Host k) = refl
same_buffers (places.Host h) (places.Port c p) = refl
same_buffers (places.Port c p) (places.Host h) = refl
same_buffers (places.Port c p) (places.Port d q) = refl

pub some_is : (d e : ℕ) → ◌≡◌ {A = Option ℕ} (Some d) (Some e) → d ≡ e
some_is d e same = cc

pub one_buffer : (topology : Topology) → Wired topology → (d e : ℕ) → d < directions_in topology → e < directions_in topology → same_queue (landing_buffer topology d) (landing_buffer topology e) ≡ true → d ≡ e
one_buffer topology is d e d_less e_less same =
    let ends : end_of topology d ≡ end_of topology e = same_place-true (end_of topology d) (end_of topology e) (sym (same_buffers (end_of topology d) (end_of topology e)) ∙ same) in
    some_is d e (sym (ends_there topology is d d_less) ∙ ap (direction_to topology) ends ∙ ends_there topology is e e_less)

-- ---- ports that routes take

first_passes : {X : Type 0} (p : X → Bool) (y x : X) (later : Option X) (first : Bool) → p y ≡ first → cond first (Some y) later ≡ Some x → (later ≡ Some x → p x ≡ true) → p x ≡ true
first_passes p y x later true is found rest = let one : y ≡ x = cc in ap p (sym one) ∙ is
first_passes p y x later false is found rest = rest found

found_passes : {X : Type 0} (p : X → Bool) (xs : List X) (x : X) → find p xs ≡ Some x → p x ≡ true
found_passes p [] x found = absurd (cc)
found_passes p (y ∷ xs) x found = first_passes p y x (find p xs) (p y) refl found (found_passes p xs x)

-- a port towards a cube is joined to a cube
some_next : (test : ℕ → Bool) (next : Option ℕ) → option_map_or test next false ≡ true → (cube : ℕ) × (next ≡ Some cube)
some_next test None is = absurd (cc)
some_next test (Some cube) is = (cube, refl)

port_of_cube : (found : Option Place) (cube : ℕ) → option_and_then cube_number found ≡ Some cube → (port : ℕ) × (found ≡ Some (places.Port cube port))
port_of_cube None cube is = absurd (cc)
port_of_cube (Some (places.Host h)) cube is = absurd (cc)
port_of_cube (Some (places.Port c p)) cube is = let same : c ≡ cube = cc in (p, ap (λ (n : ℕ). Some (places.Port n p)) same)

pub record EndsAtCube (topology : Topology) (d : ℕ) : Type 0 where
  pub cube : ℕ
  pub port : ℕ
  pub is : end_of topology d ≡ places.Port cube port

joined_is : (p q : Place) → ◌≡◌ {A = Option Place} (Some p) (Some q) → p ≡ q
joined_is p q same = cc

pub towards_cube : (topology : Topology) → Wired topology → (goal cube port d : ℕ) → port_to_cube (graph_of topology) goal cube ≡ Some port → direction_from topology (places.Port cube port) ≡ Some d → EndsAtCube topology d
unfolding port_to_cube
towards_cube topology is goal cube port d towards starts =
    let graph = graph_of topology in
    let nearer = found_passes (is_nearer graph goal cube) (upto ports) port towards in
    let next = some_next (λ next. distance graph goal next + 1 == distance graph goal cube) (neighbour graph cube port) nearer in
    let far = port_of_cube (joined_to (joins_of topology) (places.Port cube port)) next.0 next.1 in
    record { cube = next.0; port = far.0; is = joined_is (end_of topology d) (places.Port next.0 far.0) (sym (is.joined (places.Port cube port) d starts) ∙ far.1) }

-- a port towards a host is joined to a cube, or to the host
at_home : (topology : Topology) → Wired topology → (host cube port d : ℕ) → joined_to (joins_of topology) (places.Host host) ≡ Some (places.Port cube port) → direction_from topology (places.Port cube port) ≡ Some d → end_of topology d ≡ places.Host host
at_home topology is host cube port d joined starts =
    let away = is.from (places.Host host) (places.Port cube port) joined in
    let inside = is.inside (places.Host host) away.0 away.1 in
    let ends : end_of topology away.0 ≡ places.Port cube port = joined_is (end_of topology away.0) (places.Port cube port) (sym (is.joined (places.Host host) away.0 away.1) ∙ joined) in
    let back : d ≡ other away.0 = some_is d (other away.0) (sym starts ∙ ap (direction_from topology) (sym ends) ∙ to_end topology is away.0 inside) in
    ap (end_of topology) back ∙ sym (start_is_end (joins_of topology) away.0) ∙ is.starts (places.Host host) away.0 away.1

host_port : (topology : Topology) → Wired topology → (host cube port d : ℕ) (found : Option Place) → joined_to (joins_of topology) (places.Host host) ≡ found → option_and_then (λ place. port_to_place (graph_of topology) place cube) found ≡ Some port
    → direction_from topology (places.Port cube port) ≡ Some d → (end_of topology d ≡ places.Host host) ⊎ EndsAtCube topology d
host_port topology is host cube port d None joined towards starts = absurd (cc)
host_port topology is host cube port d (Some (places.Host h)) joined towards starts = absurd (cc)
host_port topology is host cube port d (Some (places.Port home p)) joined towards starts = by_home (cube == home) refl towards
  where
    by_home : (here : Bool) → (cube == home) ≡ here → (if here then Some p else port_to_cube (graph_of topology) home cube) ≡ Some port → (end_of topology d ≡ places.Host host) ⊎ EndsAtCube topology d
    by_home true at same =
        let one : cube ≡ home = eqb-true cube home at in
        let port_is : p ≡ port = cc in
        inl (at_home topology is host cube port d (joined ∙ ap (λ (n : ℕ). Some (places.Port n p)) (sym one) ∙ ap (λ (n : ℕ). Some (places.Port cube n)) port_is) starts)
    by_home false at other_port = inr (towards_cube topology is home cube port d other_port starts)

pub towards_host : (topology : Topology) → Wired topology → (host cube port d : ℕ) → port_to_host (graph_of topology) host cube ≡ Some port → direction_from topology (places.Port cube port) ≡ Some d
    → (end_of topology d ≡ places.Host host) ⊎ EndsAtCube topology d
unfolding port_to_host
towards_host topology is host cube port d towards starts = host_port topology is host cube port d (joined_to (joins_of topology) (places.Host host)) refl towards starts

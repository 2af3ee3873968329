-- The directions of places, by what a wiring keeps.
use Rattle.std.proofs.Common.{◌≡◌, ◌≤◌, ◌<◌, ◌*◌, ◌+◌, ◌/◌, ◌%◌, ◌↔◌, ◌∙◌, ℕ, Bool, IsTrue, true, Option, Some, None, List, length, refl, sym, ap, arith, ltb-true, lt-ltb}
use Rattle.std.specs.Prelude.{is_some, slice_index_or, IfSome}
use Rattle.hmc_codes.specs.Graph.{GraphFields}
use Rattle.hmc_codes.specs.declared.place.Place.{Place}
use Rattle.hmc_codes.specs.declared.place.Place.TheVariants as places
use Rattle.hmc_routes.specs.Parted.{parted, InOnePart}
use Rattle.hmc_routes.specs.WellFormed.{is_there}
use Rattle.hmc_routes.proofs.Joined.{has_home, joined-passes, port-there}
use Rattle.hmc_routes.proofs.PartedLemmas.{parted-none, unreached-none}
use Rattle.hmc_journal.specs.Setup.{Topology, cubes_in, hosts_in, graph_of, joins_of, direction_from}
use Rattle.hmc_journal.proofs.Joins.{joined_from, from_place}
use Rattle.hmc_wiring.specs.Wiring.{IsLaidOut, AreHostStarts, ArePortStarts}
use Rattle.hmc_journal.proofs.DirectionEnds.{starts_there}

-- a direction that starts at a place is one of a link that is there
pub some_inside : (topology : Topology) (place : Place) (found : Option ℕ) → direction_from topology place ≡ found → IfSome found (λ direction. direction < 2 * length topology.links)
some_inside topology place None is = tt
some_inside topology place (Some direction) is = starts_there topology place direction is

-- the direction of a host that is there
pub record HostStart (topology : Topology) (hosts : List (Option ℕ)) (host : ℕ) : Type 0 where
  pub few : host < 8
  pub direction : ℕ
  pub from : direction_from topology (places.Host host) ≡ Some direction
  pub kept : slice_index_or hosts host None ≡ Some direction

pub host_start : (topology : Topology) (hosts : List (Option ℕ)) (host : ℕ) → IsLaidOut topology → AreHostStarts (joins_of topology) hosts → host < hosts_in topology → HostStart topology hosts host
host_start topology hosts host laid starts less =
    let home = has_home (graph_of topology) host laid.graph (laid.hosts host ∙ lt-ltb host (hosts_in topology) less) in
    let found = joined_from (joins_of topology) (places.Host host) (places.Port home.cube home.port) home.joined in
    record { few = home.host_real; direction = found.0; from = found.1; kept = starts host home.host_real ∙ found.1 }

-- a host at which a direction starts is there
started : (topology : Topology) (host : ℕ) (found : Option ℕ) → IsLaidOut topology → direction_from topology (places.Host host) ≡ found → is_some found ≡ true → host < hosts_in topology
started topology host None laid is some = absurd (cc)
started topology host (Some direction) laid is some =
    let at = from_place (joins_of topology) (places.Host host) direction is in
    ltb-true host (hosts_in topology) (sym (laid.hosts host) ∙ ap (λ (place : Option Place). is_some place) at.joined)

pub has_start : (topology : Topology) (hosts : List (Option ℕ)) (host : ℕ) (found : Bool) → IsLaidOut topology → AreHostStarts (joins_of topology) hosts → host < 8 → found ≡ is_some (slice_index_or hosts host None) → IsTrue found ↔ (host < hosts_in topology)
has_start topology hosts host found laid starts few is = (
  λ yes. started topology host (slice_index_or hosts host None) laid (sym (starts host few)) (sym is ∙ yes),
  λ less. is ∙ ap (λ (d : Option ℕ). is_some d) (host_start topology hosts host laid starts less).kept,
)

-- ports are numbered below 4
port_few : (topology : Topology) (cube port direction : ℕ) → IsLaidOut topology → direction_from topology (places.Port cube port) ≡ Some direction → port < 4
port_few topology cube port direction laid is =
    let at = from_place (joins_of topology) (places.Port cube port) direction is in
    let both = joined-passes (is_there (cubes_in topology)) (joins_of topology) (places.Port cube port) _ laid.graph.ends_exist at.joined in
    (port-there (graph_of topology) cube port both.0).port_real

pub no_port : (topology : Topology) (cube port : ℕ) → IsLaidOut topology → 4 ≤ port → None ≡ direction_from topology (places.Port cube port)
no_port topology cube port laid more = by_found (direction_from topology (places.Port cube port)) refl
  where
    by_found : (found : Option ℕ) → direction_from topology (places.Port cube port) ≡ found → None ≡ direction_from topology (places.Port cube port)
    by_found None is = sym is
    by_found (Some direction) is = let few = port_few topology cube port direction laid is in absurd (omega arith)

-- the entry of a port
pub port_start : (topology : Topology) (starts : List (Option ℕ)) (cube port place : ℕ) → ArePortStarts (joins_of topology) starts → cube < 8 → port < 4 → place ≡ cube * 4 + port → slice_index_or starts place None ≡ direction_from topology (places.Port cube port)
port_start topology starts cube port place are few low is =
    let c : place / 4 ≡ cube = omega arith in
    let p : place % 4 ≡ port = omega arith in
    are place (omega arith) ∙ ap (λ (n : ℕ). direction_from topology (places.Port n (place % 4))) c ∙ ap (λ (n : ℕ). direction_from topology (places.Port cube n)) p

-- a graph in one part has no two cubes without a walk
pub whole_unparted : (graph : GraphFields) (from to : ℕ) → InOnePart graph → parted graph ≡ Some (from, to) → ⊥
whole_unparted graph from to one is =
    let none : ◌≡◌ {A = Option (ℕ × ℕ)} (parted graph) None = parted-none graph (λ k less. unreached-none graph k (λ goal below. one goal k below less)) in
    let clash : ◌≡◌ {A = Option (ℕ × ℕ)} None (Some (from, to)) = sym none ∙ is in
    cc

-- cubes are numbered below 8
pub cube_few : (topology : Topology) (cube : ℕ) → IsLaidOut topology → cube < cubes_in topology → cube < 8
cube_few topology cube laid less = let few = laid.graph.few_cubes in omega arith

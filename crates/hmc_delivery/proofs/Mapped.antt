-- The routes of a network's graph are a map of its directions.
use Rattle.std.proofs.Common.{◌≡◌, ◌<◌, ◌∙◌, ◌==◌, ℕ, Bool, true, false, if◌then◌else◌, None, refl, ap, eqb-true, lt-ltb}
use Rattle.std.specs.Option.{option_map_or}
use Rattle.hmc_codes.specs.Limits.{most_hosts}
use Rattle.hmc_codes.specs.declared.place.Place.{Place}
use Rattle.hmc_codes.specs.declared.place.Place.TheVariants as places
use Rattle.hmc_routes.specs.Ports.{port_to_cube}
use Rattle.hmc_hops.specs.Map.{IsMap, End as ends}
use Rattle.hmc_hops.specs.GraphMap.{map_of, end_at as graph_end}
use Rattle.hmc_journal.specs.Network.{IsNetwork}
use Rattle.hmc_journal.specs.Setup.{Topology, Setup, graph_of, cubes_in, start_of, end_of}
use Rattle.hmc_laws.proofs.Wired.{Wired, wired, end_cubes}
use Rattle.hmc_delivery.proofs.Agreeing.{IsMapOf, end_at, out_by}

same_end : (topology : Topology) (place : Place) → ((cube port : ℕ) → place ≡ places.Port cube port → cube < cubes_in topology) → graph_end (graph_of topology) place ≡ end_at place
same_end topology (places.Host host) real = refl
same_end topology (places.Port cube port) real = ap (λ (b : Bool). if b then ends.Cube cube else ends.Host most_hosts) (lt-ltb cube (cubes_in topology) (real cube port refl))

-- whatever the map of the graph says, where it is one
pub is_map_of : (setup : Setup) → IsNetwork setup → IsMap (map_of (graph_of setup.topology)) → IsMapOf setup.topology (map_of (graph_of setup.topology))
is_map_of setup network map = record {
  is = map;
  starts = λ d less. same_end t (start_of t d) (λ cube port is. wires.cubes d cube port less is);
  finish = λ d less. same_end t (end_of t d) (λ cube port is. end_cubes t wires d cube port less is);
  from_host = λ host d is. ap (λ o. option_map_or (λ (n : ℕ). n) o 0) is;
  next_cube = λ goal cube. by goal cube (cube == goal) refl;
  next_host = λ host cube. refl;
  is_cube = λ cube. refl;
  goal_cube = λ cube. refl;
  goal_host = λ host. network.hosts host;
}
  where
    t : Topology
    t = setup.topology

    wires : Wired t
    wires = wired setup network

    by : (goal cube : ℕ) (same : Bool) → (cube == goal) ≡ same → out_by t cube (port_to_cube (graph_of t) goal cube) ≡ (if same then None else out_by t cube (port_to_cube (graph_of t) goal cube))
    by goal cube false is = refl
    by goal cube true is = ap (λ (c : ℕ). out_by t c (port_to_cube (graph_of t) goal c)) (eqb-true cube goal is) ∙ map.stops goal

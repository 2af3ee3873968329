use Rattle.hmc_hops.proofs.GraphMaps.{is_map, short-there, short-back}
use Rattle.hmc_hops.proofs.laws.maps_graphs.Goals as goal

pub returns : goal.returns
returns c =
    record {
      map = is_map;
      there = λ graph h k is_graph one host cube. short-there graph h k is_graph one host cube;
      back = λ graph h k is_graph one host cube. short-back graph h k is_graph one host cube;
    }

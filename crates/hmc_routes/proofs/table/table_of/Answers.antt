use Rattle.std.proofs.Common.{◌∙◌, slice_index_or}
use Rattle.hmc_routes.proofs.Agree.{port-same}
use Rattle.hmc_routes.proofs.table.table_of.Goals as goal

pub returns : goal.returns
returns c = record {
  distances = c.distances_to-distances.ensures;
  ports = λ cube real. c.ports_by-ports.ensures cube real ∙ port-same c.args.graph.now c.args.goal cube (λ at. slice_index_or c.distances_to-distances.result at 0) c.requires.graph real c.distances_to-distances.ensures;
}

use Rattle.std.proofs.Common.{ℕ, Bool, ◌∙◌, ◌||◌, false, slice_index_or, length-set, arith}
use Rattle.std.proofs.lemmas.List.Edits.{fill_by_more}
use Rattle.hmc_routes.specs.Neighbours.{some_neighbour}
use Rattle.hmc_routes.proofs.distances.one_hop_more.Goals as goal

pub each-preserved : goal.each-preserved
each-preserved c =
    let near : ℕ → Bool = λ cube. slice_index_or c.args.near.now cube false || some_neighbour c.args.graph.now (λ next. slice_index_or c.args.near.now next false) cube in
    let step = fill_by_more near c.each.further c.each.cube false (omega arith) c.each.invariant.near in
    record {
      eight = length-set c.each.further c.from.result c.is_near_after.result ∙ c.each.invariant.eight;
      near = rw (c.from.ensures, c.is_near_after.ensures) step;
    }

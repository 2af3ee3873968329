use Rattle.std.proofs.Common.{ℕ, ◌+◌, ◌∙◌, false, cond, slice_index_or, length-set, arith}
use Rattle.std.proofs.lemmas.List.Edits.{fill_by_more}
use Rattle.hmc_routes.proofs.distances.count_hops.Goals as goal

pub each-preserved : goal.each-preserved
each-preserved c =
    let counted : ℕ → ℕ = λ cube. slice_index_or c.args.distances.now cube 0 + cond (slice_index_or c.args.near.now cube false) 0 1 in
    let step = fill_by_more counted c.each.counted c.each.cube 0 (omega arith) c.each.invariant.counted in
    record {
      eight = length-set c.each.counted c.from.result c.count_hop.result ∙ c.each.invariant.eight;
      counted = rw (c.from.ensures, c.count_hop.ensures) step;
    }

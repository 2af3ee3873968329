use Rattle.std.proofs.Common.{ℕ, ◌∙◌, Option, None, slice_index_or, length-set, arith}
use Rattle.std.proofs.lemmas.List.Edits.{fill_by_more}
use Rattle.std.specs.List.{find}
use Rattle.hmc_codes.specs.Limits.{ports}
use Rattle.hmc_codes.specs.Numbers.{upto}
use Rattle.hmc_routes.specs.Tables.{nearer_by}
use Rattle.hmc_routes.proofs.ports.ports_by.Goals as goal

pub each-preserved : goal.each-preserved
each-preserved c =
    let found : ℕ → Option ℕ = λ cube. find (nearer_by c.args.graph.now (λ at. slice_index_or c.args.distances.now at 0) cube) (upto ports) in
    let step = fill_by_more found c.each.ports c.each.cube None (omega arith) c.each.invariant.ports in
    record {
      eight = length-set c.each.ports c.from.result c.nearer_port.result ∙ c.each.invariant.eight;
      ports = rw (c.from.ensures, c.nearer_port.ensures) step;
    }

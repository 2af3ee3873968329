use Rattle.std.proofs.Common.{◌∙◌, None, length-set, arith}
use Rattle.std.proofs.lemmas.List.Edits.{fill_by_more}
use Rattle.hmc_routes.specs.Tables.{home_at}
use Rattle.hmc_routes.proofs.table.homes_of.Goals as goal

pub each-preserved : goal.each-preserved
each-preserved c =
    let step = fill_by_more (home_at c.args.graph.now) c.each.homes c.each.host None (omega arith) c.each.invariant.homes in
    record {
      eight = length-set c.each.homes c.from.result c.home_at.result ∙ c.each.invariant.eight;
      homes = rw (c.from.ensures, c.home_at.ensures) step;
    }

-- One host more.
use Rattle.std.proofs.Common.{◌∙◌, None, length-set, arith}
use Rattle.std.proofs.lemmas.List.Edits.{fill_by_more}
use Rattle.hmc_codes.specs.declared.place.Place.TheVariants as places
use Rattle.hmc_routes.specs.Directions.{direction_from}
use Rattle.hmc_wiring.proofs.starts.host_starts.Goals as goal

pub each-preserved : goal.each-preserved
each-preserved c =
    let step = fill_by_more (λ host. direction_from c.args.joins.now (places.Host host)) c.each.starts c.each.host None (omega arith) c.each.invariant.so_far in
    record {
      eight = length-set c.each.starts c.from.result c.direction_from.result ∙ c.each.invariant.eight;
      so_far = rw (c.from.ensures, c.direction_from.ensures) step;
    }

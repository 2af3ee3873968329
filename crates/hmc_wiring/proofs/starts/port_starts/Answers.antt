-- One port more.
use Rattle.std.proofs.Common.{◌∙◌, ◌/◌, ◌%◌, None, length-set, arith}
use Rattle.std.proofs.lemmas.List.Edits.{fill_by_more}
use Rattle.hmc_codes.specs.declared.place.Place.TheVariants as places
use Rattle.hmc_routes.specs.Directions.{direction_from}
use Rattle.hmc_wiring.proofs.starts.port_starts.Goals as goal

pub each-preserved : goal.each-preserved
each-preserved c =
    let step = fill_by_more (λ place. direction_from c.args.joins.now (places.Port (place / 4) (place % 4))) c.each.starts c.each.place None (omega arith) c.each.invariant.so_far in
    record {
      all = length-set c.each.starts c.from.result c.direction_from.result ∙ c.each.invariant.all;
      so_far = rw (c.from.ensures, c.direction_from.ensures) step;
    }

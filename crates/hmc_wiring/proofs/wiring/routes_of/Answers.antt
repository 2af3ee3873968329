-- The cubes of the graph are all reached.
use Rattle.std.proofs.Common.{Err, ap, ◌∙◌}
use Rattle.hmc_wiring.proofs.Places.{whole_unparted}
use Rattle.hmc_wiring.proofs.wiring.routes_of.Goals as goal

pub unreachable-requires : goal.unreachable-requires
unreachable-requires c =
    whole_unparted c.args.graph.now c.in-Err-Parted.field-0-0 c.in-Err-Parted.field-0-1 c.requires.one_part
    (c.build.ensures.first_pair c.in-Err-Parted.field-0-0 c.in-Err-Parted.field-0-1 (c.in-Err-Parted.is ∙ ap Err c.in-Err-Parted.field-0-is))

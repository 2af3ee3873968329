use Rattle.hmc_routes.proofs.TableLemmas.{walk-by-table}
use Rattle.hmc_routes.proofs.parted.has_walk.Goals as goal

pub returns : goal.returns
returns c = walk-by-table c.args.graph.now c.args.tables.now c.args.to c.args.from c.from.result c.distance_at.result c.cubes.result _ c.requires.graph c.requires.tables c.requires.to c.requires.from c.from.ensures c.distance_at.ensures c.cubes.ensures

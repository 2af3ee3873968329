use Rattle.std.proofs.Common.{None, slice_index_or}
use Rattle.hmc_routes.proofs.TableLemmas.{IsTowards, kept-towards}
use Rattle.hmc_routes.proofs.routes.Routes.to_cube.Goals as goal

known : (c : goal.After-result-1) → IsTowards c.args.self.now c.args.cube c.args.at (slice_index_or c.index-table.result.now.ports c.from-2.result None)
known c = kept-towards c.self.inside.graph c.args.self.now c.self.inside.tables.items c.self.inside.homes c.args.cube c.args.at c.from.result c.from-2.result c.index-table.result.now c.self.invariant c.self.view_is c.requires.cube c.requires.at c.from.ensures c.from-2.ensures c.index-table.ensures

pub returns-clause-none : goal.returns-clause-none
returns-clause-none c = (known c).none

pub returns-clause-real : goal.returns-clause-real
returns-clause-real c = (known c).real

pub returns-clause-nearer : goal.returns-clause-nearer
returns-clause-nearer c = (known c).nearer

use Rattle.hmc_routes.proofs.TableLemmas.{IsShortest, kept-shortest}
use Rattle.hmc_routes.proofs.routes.Routes.distance.Goals as goal

known : (c : goal.After-distance_at) → IsShortest c.args.self.now c.args.cube c.args.at c.distance_at.result
known c = kept-shortest c.self.inside.graph c.args.self.now c.self.inside.tables.items c.self.inside.homes c.args.cube c.args.at c.from.result c.distance_at.result c.index.result.now c.self.invariant c.self.view_is c.requires.cube c.requires.at c.from.ensures c.index.ensures c.distance_at.ensures

pub returns-clause-walk : goal.returns-clause-walk
returns-clause-walk c = (known c).walk

pub returns-clause-shortest : goal.returns-clause-shortest
returns-clause-shortest c = (known c).shortest

pub returns-clause-few : goal.returns-clause-few
returns-clause-few c = (known c).few

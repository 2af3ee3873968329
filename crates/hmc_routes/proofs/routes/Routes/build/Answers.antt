use Rattle.std.proofs.Common.{◌≡◌, sym, subst}
use Rattle.hmc_codes.specs.Graph.{GraphFields}
use Rattle.hmc_routes.proofs.PartedLemmas.{one_part, named-has_no_walk}
use Rattle.hmc_routes.specs.Tables.{IsKept}
use Rattle.hmc_routes.proofs.routes.Routes.build.Goals as goal

pub returns-in-Some-clause-no_walk : goal.returns-in-Some-clause-no_walk
returns-in-Some-clause-no_walk c = λ from to hops is walk.
    let one : c.in-Some.from ≡ from = cc in
    let two : c.in-Some.to ≡ to = cc in
    named-has_no_walk c.args.graph.now c.in-Some.from c.in-Some.to from to hops c.requires c.in-Some.ensures one two walk

pub invariant_of-result : goal.invariant_of-result
invariant_of-result c =
    subst (λ (g : GraphFields). IsKept g c.in_ok-tables.tables.items c.homes_of-homes.result) (sym c.in_ok-graph.ensures)
    (record {
      is_graph = c.requires;
      one_part = one_part c.args.graph.now (sym c.in_default.ensures);
      are_tables = c.in_ok-tables.ensures;
      are_homes = c.homes_of-homes.ensures;
    })

pub returns-clause-one_part : goal.returns-clause-one_part
returns-clause-one_part c = one_part c.args.graph.now (sym c.in_default.ensures)

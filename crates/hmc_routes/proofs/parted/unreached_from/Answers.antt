use Rattle.std.proofs.Common.{◌≡◌, ◌<◌, ◌∙◌, sym, arith}
use Rattle.hmc_routes.proofs.PartedLemmas.{unreached-first, unreached-none}
use Rattle.hmc_routes.proofs.parted.unreached_from.Goals as goal

pub returns-then-not-has_walk : goal.returns-then-not-has_walk
returns-then-not-has_walk c =
    let end : c.cubes-to-end.result ≡ c.args.graph.now.cubes = c.cubes-to-end.ensures in
    let below : c.each.to < c.cubes-to-end.result = c.each-test.true in
    sym (unreached-first c.args.graph.now c.args.from c.each.to (omega arith) (sym c.has_walk.ensures ∙ c.if-not-has_walk.true) c.each.invariant)

pub returns : goal.returns
returns c =
    let end : c.cubes-to-end.result ≡ c.args.graph.now.cubes = c.cubes-to-end.ensures in
    sym (unreached-none c.args.graph.now c.args.from (λ k less. c.each.invariant k (omega (arith, c.each-test.false, less))))

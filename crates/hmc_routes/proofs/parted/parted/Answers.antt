use Rattle.std.proofs.Common.{◌≡◌, ◌<◌, sym, arith}
use Rattle.hmc_routes.proofs.PartedLemmas.{parted-first, parted-none}
use Rattle.hmc_routes.proofs.parted.parted.Goals as goal

pub returns-in-Some : goal.returns-in-Some
returns-in-Some c =
    let end : c.cubes-from-end.result ≡ c.args.graph.now.cubes = c.cubes-from-end.ensures in
    let below : c.each.from < c.cubes-from-end.result = c.each-test.true in
    sym (parted-first c.args.graph.now c.each.from c.in-Some.to (omega arith) (sym c.in-Some.ensures) c.each.invariant)

pub returns : goal.returns
returns c =
    let end : c.cubes-from-end.result ≡ c.args.graph.now.cubes = c.cubes-from-end.ensures in
    sym (parted-none c.args.graph.now (λ k less. c.each.invariant k (omega (arith, c.each-test.false, less))))

-- The place is one of the cube's memory.
use Rattle.std.proofs.Common.{◌<◌, length, [], sym, subst, arith}
use Rattle.hmc_check.proofs.Shown.{size_there}
use Rattle.hmc_check.proofs.past.finished.block_at.Goals as goal

pub get16-requires-clause-inside : goal.get16-requires-clause-inside
get16-requires-clause-inside c =
    let less : c.args.cube < length c.args.plain.now = omega (arith, c.if-from-cubes.true, c.cubes.ensures.count, c.from.ensures) in
    subst (λ n. c.args.place < n) (sym (size_there c.args.plain.now c.args.cube (c.cubes.ensures.machine []).cubes less)) c.requires.inside

-- A memory is whole blocks, and no shape has more than 2 ^ 27 bytes.
use Rattle.std.proofs.Common.{◌≤◌, ◌<◌, ◌%◌, ◌^◌, ◌∙◌, length, [], ap, sym, subst, arith}
use Rattle.hmc_kept.proofs.Sizes.{capacity_blocks, capacity_most}
use Rattle.hmc_serial.specs.Machine.{cube_in}
use Rattle.hmc_check.proofs.Shown.{size_there, is_cube}
use Rattle.hmc_check.proofs.past.finished.memory_size.Goals as goal

pub returns-then-from-cubes-clause-size : goal.returns-then-from-cubes-clause-size
returns-then-from-cubes-clause-size c =
    let less : c.args.cube < length c.args.plain.now = omega (arith, c.if-from-cubes.true, c.cubes.ensures.count, c.from.ensures) in
    c.capacity.ensures ∙ size_there c.args.plain.now c.args.cube (c.cubes.ensures.machine []).cubes less

pub returns-then-from-cubes-clause-blocks : goal.returns-then-from-cubes-clause-blocks
returns-then-from-cubes-clause-blocks c =
    let less : c.args.cube < length c.args.plain.now = omega (arith, c.if-from-cubes.true, c.cubes.ensures.count, c.from.ensures) in
    ap (λ n. n % 16) c.capacity.ensures ∙ capacity_blocks (cube_in c.args.plain.now c.args.cube).shape (is_cube c.args.plain.now c.args.cube (c.cubes.ensures.machine []).cubes less).is_shape

pub returns-then-from-cubes-clause-most : goal.returns-then-from-cubes-clause-most
returns-then-from-cubes-clause-most c =
    let less : c.args.cube < length c.args.plain.now = omega (arith, c.if-from-cubes.true, c.cubes.ensures.count, c.from.ensures) in
    subst (λ n. n ≤ 2 ^ 27) (sym c.capacity.ensures) (capacity_most (cube_in c.args.plain.now c.args.cube).shape (is_cube c.args.plain.now c.args.cube (c.cubes.ensures.machine []).cubes less).is_shape)

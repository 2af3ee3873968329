-- A cube has 16 registers.
use Rattle.std.proofs.Common.{◌<◌, ◌∙◌, length, [], ap, arith}
use Rattle.hmc_check.proofs.Shown.{registers_there, is_cube}
use Rattle.hmc_check.proofs.past.finished.register_at.Goals as goal

pub returns-then-from-cubes-clause-sixteen : goal.returns-then-from-cubes-clause-sixteen
returns-then-from-cubes-clause-sixteen c =
    let less : c.args.cube < length c.args.plain.now = omega (arith, c.if-from-cubes.true, c.cubes.ensures.count, c.from.ensures) in
    ap length (registers_there c.args.plain.now c.args.cube less) ∙ (is_cube c.args.plain.now c.args.cube (c.cubes.ensures.machine []).cubes less).are_registers.sixteen

use Rattle.std.proofs.Common.{◌≡◌, ◌∙◌, Some, sym, ap}
use Rattle.hmc_serial.specs.Machine.{retire}
use Rattle.hmc_search.specs.Alone.{alone}
use Rattle.hmc_judge.specs.Walk.{point_of, walk_step}
use Rattle.hmc_judge.proofs.walk.step.Goals as goal

pub returns-in-Retired : goal.returns-in-Retired
unfolding walk_step retire
returns-in-Retired g c =
    let point = point_of c.args.plain.now (g.B.Workbench.slots c.args.bench.now)
    c.args.desk.now.waiting.items c.args.desk.now.ready.items in
    ap (walk_step (alone c.args.shapes.now) point) c.in-Retired.is
    ∙ ap (λ s. Some (point_of c.args.plain.now s c.args.desk.now.waiting.items
    c.args.desk.now.ready.items)) (sym c.retire.ensures.slots)

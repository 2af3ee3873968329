use Rattle.std.proofs.Common.{◌≡◌, Some}
use Rattle.hmc_serial.specs.Machine.{machine_of}
use Rattle.hmc_search.specs.Alone.{alone}
use Rattle.hmc_judge.specs.Explaining.{first_entries}
use Rattle.hmc_judge.specs.Walk.{point_of, walked}
use Rattle.hmc_judge.proofs.explain.explains.Given as goal

abbrev pub invariant-entries : goal.invariant-entries
invariant-entries g l =
    walked (alone l.shapes) (machine_of l.initial.plain (g.B.Workbench.slots l.initial.bench))
    (first_entries l.at l.entries)
    ≡ Some (point_of l.plain (g.B.Workbench.slots l.bench) l.desk.waiting.items l.desk.ready.items)

-- By whether a landing passed, or a call of the sink failed. The slots of the bench are the units.
use Rattle.std.proofs.Common.{true, false, Ok, ap, ◌∙◌}
use Rattle.hmc_journal.specs.Setup.{setup_of}
use Rattle.hmc_units.specs.Slots.{units_in}
use Rattle.hmc_replay.specs.Units.{slots_of}
use Rattle.hmc_replay.proofs.Reports.{delivered, delivered_cut}
use Rattle.hmc_replay.proofs.run.report.Goals as goal

pub returns-in-Ok-true : goal.returns-in-Ok-true
returns-in-Ok-true g c =
    let meaning = g.U.LogicUnit.meaning in
    let ended = c.in_ok-ended.ensures in
    delivered c.args.extent (setup_of c.args.case.now) (units_in meaning c.in_ok-bench.bench) (slots_of meaning c.args.units.items) c.in_ok-ended.ended true _ _ c.in_ok-bench.ensures (c.in-Ok-true.is ∙ ap Ok c.in-Ok-true.field-0-test)
    ended.written ended.guarantees ended.drained

pub returns-in-Ok-false : goal.returns-in-Ok-false
returns-in-Ok-false g c =
    let meaning = g.U.LogicUnit.meaning in
    let ended = c.in_ok-ended.ensures in
    delivered c.args.extent (setup_of c.args.case.now) (units_in meaning c.in_ok-bench.bench) (slots_of meaning c.args.units.items) c.in_ok-ended.ended false _ _ c.in_ok-bench.ensures (c.in-Ok-false.is ∙ ap Ok c.in-Ok-false.field-0-test)
    ended.written ended.guarantees ended.drained

pub returns-in-Err : goal.returns-in-Err
returns-in-Err g c =
    let meaning = g.U.LogicUnit.meaning in
    let ended = c.in_ok-ended.ensures in
    delivered_cut c.args.extent (setup_of c.args.case.now) (units_in meaning c.in_ok-bench.bench) (slots_of meaning c.args.units.items) c.in_ok-ended.ended c.in-Err.field-0 _ _ c.in_ok-bench.ensures c.in-Err.is ended.written ended.guarantees ended.drained

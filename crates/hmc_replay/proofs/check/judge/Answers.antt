-- By the verdict. The slots of the bench are the units.
use Rattle.std.proofs.Common.{◌∙◌, Err, ap}
use Rattle.hmc_units.specs.Slots.{units_in}
use Rattle.hmc_replay.specs.Units.{slots_of}
use Rattle.hmc_replay.proofs.CheckAnswers.{verdict_lawful, verdict_unlawful}
use Rattle.hmc_replay.proofs.check.judge.Goals as goal

pub returns-in-Ok : goal.returns-in-Ok
returns-in-Ok g c =
    let meaning = g.U.LogicUnit.meaning in
    verdict_lawful g.O.Sink.shows _ _ c.args.case.now (units_in meaning c.in_ok-bench.bench)
    (slots_of meaning c.args.units.items) c.args.report.now c.check.result c.in-Ok.entries
    c.write_lawful.result c.in_ok-bench.ensures c.in-Ok.is c.check.ensures c.write_lawful.ensures

pub returns-in-Err-Unlawful : goal.returns-in-Err-Unlawful
returns-in-Err-Unlawful g c =
    let meaning = g.U.LogicUnit.meaning in
    verdict_unlawful g.O.Sink.shows _ _ c.args.case.now (units_in meaning c.in_ok-bench.bench)
    (slots_of meaning c.args.units.items) c.args.report.now c.check.result _
    (Err c.write_unlawful.result) c.in_ok-bench.ensures c.requires.few
    (c.in-Err-Unlawful.is ∙ ap Err c.in-Err-Unlawful.field-0-is) c.check.ensures
    c.write_unlawful.ensures

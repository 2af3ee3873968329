-- A case by which the report is judged, or the first fault.
use Rattle.std.proofs.Common.{inr}
use Rattle.hmc_replay.specs.CheckAnswer.{IsOfParts}
use Rattle.hmc_replay.specs.Units.{slots_of}
use Rattle.hmc_replay.proofs.Answering.{refused_on, since}
use Rattle.hmc_replay.proofs.CheckAnswers.{answers_judged}
use Rattle.hmc_replay.proofs.check.answer_parts.Goals as goal

pub returns-in_err-case : goal.returns-in_err-case
returns-in_err-case g c =
    refused_on (IsOfParts (slots_of g.U.LogicUnit.meaning c.args.units.items)
    (record { case = c.args.case.now; report = c.args.report.now }))
    g.O.Sink.shows _ _ c.args.case.now c.in_err-case.field-0.0 c.from_residual.result
    (λ status lines due. inr due) c.from_residual.ensures.1 c.in_err-case.ensures

pub returns : goal.returns
returns g c =
    answers_judged g.O.Sink.shows c.args.sink.now c.judge.new.sink _
    (record { case = c.args.case.now; report = c.args.report.now }) _ c.judge.result
    c.in_ok-case.ensures.0
    (since _ g.O.Sink.shows _ _ _ _ c.in_ok-case.ensures.1 c.judge.ensures)

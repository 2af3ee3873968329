-- A case and its report, or the first fault.
use Rattle.std.proofs.Common.{inr}
use Rattle.hmc_replay.specs.RunAnswer.{IsRunAnswer}
use Rattle.hmc_replay.specs.Units.{slots_of}
use Rattle.hmc_replay.proofs.Answering.{answers_case, refused_on, since}
use Rattle.hmc_replay.proofs.run.answer.Goals as goal

pub returns-in_err-case : goal.returns-in_err-case
returns-in_err-case g c =
    refused_on (IsRunAnswer (slots_of g.U.LogicUnit.meaning c.args.units.items) c.args.input.now)
    g.O.Sink.shows _ _ c.args.input.now c.in_err-case.field-0.0 c.from_residual.result
    (λ status lines due. inr due) c.from_residual.ensures.1 c.in_err-case.ensures

pub returns : goal.returns
returns g c =
    answers_case g.O.Sink.shows c.args.sink.now c.report.new.sink _ c.args.input.now _
    c.report.result c.in_ok-case.ensures.0
    (since _ g.O.Sink.shows _ _ _ _ c.in_ok-case.ensures.1 c.report.ensures)

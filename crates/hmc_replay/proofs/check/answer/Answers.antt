-- The parts of the input, if it has them.
use Rattle.std.proofs.Common.{sym, arith}
use Rattle.hmc_replay.specs.Units.{slots_of}
use Rattle.hmc_replay.proofs.CheckAnswers.{answers_parts, parts_few}
use Rattle.hmc_replay.proofs.check.answer.Goals as goal

pub answer_parts-requires-clause-few : goal.answer_parts-requires-clause-few
answer_parts-requires-clause-few g c =
    let few = parts_few c.args.input.now _ (sym c.in-Some.ensures) in
    omega (arith, few, c.requires.few)

pub returns : goal.returns
returns g c =
    answers_parts g.O.Sink.shows c.args.sink.now c.answer_parts.new.sink
    (slots_of g.U.LogicUnit.meaning c.args.units.items) c.args.input.now _ c.answer_parts.result
    (sym c.in-Some.ensures) c.answer_parts.ensures

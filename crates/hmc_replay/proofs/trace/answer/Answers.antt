-- A text, or none.
use Rattle.std.proofs.Common.{Err, subst}
use Rattle.std.proofs.lemmas.Bool.{false_from_ne_true}
use Rattle.std.proofs.lemmas.Str.{IsUtf8-from_is_utf8, is_utf8-from_IsUtf8}
use Rattle.std.specs.Str.{is_utf8}
use Rattle.hmc_replay.specs.Answered.{Answers}
use Rattle.hmc_replay.specs.TraceAnswer.{IsTextAnswer}
use Rattle.hmc_replay.proofs.TraceAnswers.{answers_text, answers_no_text}
use Rattle.hmc_replay.proofs.trace.answer.Goals as goal

pub returns-in_default : goal.returns-in_default
returns-in_default g c =
    answers_no_text g.O.Sink.shows c.args.sink.now c.refuse_bytes.new.sink c.args.input.now
    (Err c.refuse_bytes.result)
    (false_from_ne_true (is_utf8 c.args.input.now)
    (λ yes. c.in_default.ensures.cases.0 (IsUtf8-from_is_utf8 c.args.input.now yes)))
    c.refuse_bytes.ensures

pub returns : goal.returns
returns g c =
    let cases = c.in-Ok.ensures.cases in
    answers_text g.O.Sink.shows c.args.sink.now c.answer_text.new.sink c.args.input.now
    c.answer_text.result (is_utf8-from_IsUtf8 c.args.input.now cases.1)
    (subst (λ t. Answers (IsTextAnswer t) c.answer_text.result g.O.Sink.shows c.args.sink.now
    c.answer_text.new.sink) cases.0 c.answer_text.ensures)

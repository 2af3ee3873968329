-- The line that was made is the one that is written.
use Rattle.std.proofs.Common.{◌∙◌, Err, subst}
use Rattle.hmc_replay.specs.Answered.{IsLine, Answers}
use Rattle.hmc_replay.proofs.trace.refuse_trace.Goals as goal

pub returns : goal.returns
returns g c =
    subst (λ l. Answers (IsLine 6 l) (Err c.refuse_line.result) g.O.Sink.shows c.args.sink.now
    c.refuse_line.new.sink) (c.as_str.ensures.value ∙ c.bad_line.ensures.text) c.refuse_line.ensures

-- A text, or none.
use Rattle.std.proofs.Common.{◌∙◌, ap, sym, subst}
use Rattle.hmc_verdict.specs.Subject.{Answers, log_in}
use Rattle.hmc_verdict.proofs.Bytes.{no_text, is_text}
use Rattle.hmc_verdict.proofs.subject.log_of_bytes.Goals as goal

pub returns-in_default : goal.returns-in_default
returns-in_default c = no_text c.args.case.now c.args.bytes.now c.in_default.ensures.cases.0

pub returns : goal.returns
returns c =
    let cases = c.in-Ok.ensures.cases in
    subst (Answers (λ log. log) c.log_of.result)
    (ap (log_in c.args.case.now) cases.0 ∙ sym (is_text c.args.case.now c.args.bytes.now cases.1))
    c.log_of.ensures

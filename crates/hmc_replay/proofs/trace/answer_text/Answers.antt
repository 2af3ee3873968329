-- A trace and its script, or the first fault.
use Rattle.std.proofs.Common.{◌≡◌, ◌∙◌, ap, IfSome, Err, subst}
use Rattle.hmc_text.specs.InTurn.{fault_of}
use Rattle.hmc_text.specs.declared.fault.TextFault.{TextFault}
use Rattle.hmc_accesses.specs.Text.{compiled_text}
use Rattle.hmc_accesses.specs.declared.fault.TraceKind.{TraceKind}
use Rattle.hmc_replay.proofs.TraceAnswers.{answers_printed, answers_bad, same_pair}
use Rattle.hmc_replay.proofs.trace.answer_text.Goals as goal

pub returns-in-Ok : goal.returns-in-Ok
returns-in-Ok g c =
    answers_printed g.O.Sink.shows c.args.sink.now c.answer_script.new.sink c.args.text.now
    c.in-Ok.compiled c.script.result.now c.answer_script.result c.in-Ok.ensures.text
    c.script.ensures c.answer_script.ensures

pub returns-in-Err-Fault : goal.returns-in-Err-Fault
returns-in-Err-Fault g c =
    let exact = subst (λ (told : TextFault TraceKind). IfSome (fault_of told)
    (λ fault. compiled_text c.args.text.now ≡ Err fault)) c.in-Err-Fault.field-0-is
    c.in-Err-Fault.ensures.text in
    answers_bad g.O.Sink.shows c.args.sink.now c.refuse_trace.new.sink c.args.text.now _
    (Err c.refuse_trace.result)
    (exact ∙ ap Err (same_pair _ _ _ _ c.in-Err-Fault.line-is c.in-Err-Fault.kind-is))
    c.refuse_trace.ensures

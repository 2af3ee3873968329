-- Head, run and tail.
use Rattle.std.proofs.Common.{◌∙◌, ap}
use Rattle.std.specs.Prelude.{max}
use Rattle.hmc_accesses.specs.declared.span.Span.{Span}
use Rattle.hmc_accesses.specs.Requests.{down}
use Rattle.hmc_trace.proofs.SpanParts.{span_first, span_second, span_last}
use Rattle.hmc_trace.proofs.requests.add_span.Goals as goal

pub returns-in-Err : goal.returns-in-Err
returns-in-Err c =
    let span : Span = c.args.span in
    span_first c.args.number c.args.script.now c.add_masked.new.script c.args.stored.now.cube
    c.args.stored.now.place
    c.args.stored.now.bytes.now span c.min-head_end.result c.max-tail_start.result c.in-Err.fault
    c.min-head_end.ensures (c.max-tail_start.ensures
    ∙ ap (λ h. max h (down 16 c.args.span.end)) c.min-head_end.ensures) c.in-Err.ensures

pub returns-in-Err-add_writes : goal.returns-in-Err-add_writes
returns-in-Err-add_writes c =
    let span : Span = c.args.span in
    span_second c.args.number c.args.script.now c.add_masked.new.script c.add_writes.new.script
    c.args.stored.now.cube c.args.stored.now.place c.args.stored.now.bytes.now span
    c.min-head_end.result c.max-tail_start.result
    c.in-Err-add_writes.fault
    c.min-head_end.ensures (c.max-tail_start.ensures
    ∙ ap (λ h. max h (down 16 c.args.span.end)) c.min-head_end.ensures) c.in_default.ensures
    c.in-Err-add_writes.ensures

pub returns : goal.returns
returns c =
    let span : Span = c.args.span in
    span_last c.args.number c.args.script.now c.add_masked.new.script c.add_writes.new.script
    c.add_masked-2.new.script c.args.stored.now.cube c.args.stored.now.place
    c.args.stored.now.bytes.now span
    c.min-head_end.result c.max-tail_start.result c.add_masked-2.result
    c.min-head_end.ensures (c.max-tail_start.ensures
    ∙ ap (λ h. max h (down 16 c.args.span.end)) c.min-head_end.ensures) c.in_default.ensures
    c.in_default-add_writes.ensures c.add_masked-2.ensures

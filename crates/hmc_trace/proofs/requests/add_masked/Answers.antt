-- Both halves.
use Rattle.std.proofs.Common.{◌+◌}
use Rattle.hmc_accesses.specs.declared.span.Span.{Span}
use Rattle.hmc_accesses.specs.Requests.{down, masked_half, masked_span}
use Rattle.hmc_trace.proofs.Appending.{appends_more, appends_less}
use Rattle.hmc_trace.proofs.requests.add_masked.Goals as goal

pub returns-in-Err : goal.returns-in-Err
unfolding masked_span
returns-in-Err c =
    let span : Span = c.args.span in
    let half = masked_half c.args.stored.now.cube c.args.stored.now.place
    c.args.stored.now.bytes.now span in
    appends_less c.args.number c.args.script.now c.add_half.new.script c.add_half.new.script
    (half (down 16 c.args.span.start)) (half (down 16 c.args.span.start + 8)) c.in-Err.fault
    c.in-Err.ensures

pub returns : goal.returns
unfolding masked_span
returns c =
    let span : Span = c.args.span in
    let half = masked_half c.args.stored.now.cube c.args.stored.now.place
    c.args.stored.now.bytes.now span in
    appends_more c.args.number c.args.script.now c.add_half.new.script c.add_half-2.new.script
    (half (down 16 c.args.span.start)) (half (down 16 c.args.span.start + 8)) c.add_half-2.result
    c.in_default.ensures c.add_half-2.ensures

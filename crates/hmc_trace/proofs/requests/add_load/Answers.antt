-- Block by block.
use Rattle.std.proofs.Common.{◌+◌, ◌/◌, Ok, Err, arith, rules, subst}
use Rattle.hmc_trace.specs.Appending.{Appends}
use Rattle.hmc_accesses.specs.declared.span.Span.{Span}
use Rattle.hmc_accesses.specs.Requests.{read_span, load_requests}
use Rattle.hmc_trace.proofs.Blocks.{up_to, blocks_more, blocks_ended, all_blocks}
use Rattle.hmc_trace.proofs.requests.add_load.Goals as goal

pub returns-in-Err : goal.returns-in-Err
unfolding load_requests
returns-in-Err c =
    let span : Span = record { start = c.args.place; end = c.args.place + c.args.length } in
    let last = (c.args.place + c.args.length + 255) / 256 in
    subst (λ l. Appends c.args.number c.args.script.now l c.add_read_span.new.script
    (Err c.in-Err.fault)) (all_blocks (read_span c.args.cube) span)
    (blocks_ended c.args.number c.args.script.now c.blocks-2.script c.add_read_span.new.script
    (read_span c.args.cube) span (c.args.place / 256) c.blocks-2.block last c.max-start.result
    c.min-stop.result c.in-Err.fault (search rules) (search rules) (search rules)
    c.blocks-2-test.true c.blocks-2.invariant c.in-Err.ensures)

pub blocks-2-preserved : goal.blocks-2-preserved
blocks-2-preserved c =
    let span : Span = record { start = c.args.place; end = c.args.place + c.args.length } in
    blocks_more c.args.number c.args.script.now c.blocks-2.script c.add_read_span.new.script
    (read_span c.args.cube) span (c.args.place / 256) c.blocks-2.block c.max-start.result
    c.min-stop.result (search rules) (search rules) (search rules) c.blocks-2.invariant
    c.in_default.ensures

pub returns : goal.returns
unfolding load_requests
returns c =
    let span : Span = record { start = c.args.place; end = c.args.place + c.args.length } in
    subst (λ l. Appends c.args.number c.args.script.now l c.blocks-2.script (Ok tt))
    (all_blocks (read_span c.args.cube) span)
    (subst (λ b. Appends c.args.number c.args.script.now (up_to (read_span c.args.cube) span
    (c.args.place / 256) b) c.blocks-2.script (Ok tt)) (omega arith) c.blocks-2.invariant)

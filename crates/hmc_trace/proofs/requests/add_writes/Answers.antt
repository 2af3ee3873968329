-- None, one or two parts.
use Rattle.std.proofs.Common.{◌≤◌, ◌⊎◌, inl, inr, arith}
use Rattle.hmc_accesses.specs.Requests.{write_at}
use Rattle.hmc_trace.proofs.Runs.{run_none, run_one, run_two, run_ended}
use Rattle.hmc_trace.proofs.requests.add_writes.Goals.{then-blocks-le8-via-then-blocks-le8}
use Rattle.hmc_trace.proofs.requests.add_writes.Goals.{then-blocks-le8-via-else-blocks-le8+then-blocks-eq16}
use Rattle.hmc_trace.proofs.requests.add_writes.Goals as goal

pub returns-then-blocks-eq0 : goal.returns-then-blocks-eq0
returns-then-blocks-eq0 c = run_none c.args.number c.args.script.now
    (write_at c.args.stored.now.cube c.args.stored.now.place c.args.stored.now.bytes.now)
    c.args.address
    c.args.blocks c.invariant.ensures.few c.if-blocks-eq0.true

pub returns-then-blocks-le8 : goal.returns-then-blocks-le8
returns-then-blocks-le8 c =
    let one : (c.args.blocks ≤ 8) ⊎ (16 ≤ c.args.blocks) =
    elim c.then-blocks-le8.branch [
      | then-blocks-le8-via-then-blocks-le8 w ↦ inl w.if-blocks-le8.true
      | then-blocks-le8-via-else-blocks-le8+then-blocks-eq16 w ↦
          inr (omega (arith, w.if-blocks-eq16.true))
    ] in
    run_one c.args.number c.args.script.now c.add_write.new.script
    (write_at c.args.stored.now.cube c.args.stored.now.place c.args.stored.now.bytes.now)
    c.args.address
    c.args.blocks c.add_write.result c.if-blocks-eq0.false one c.add_write.ensures

pub returns-in-Err : goal.returns-in-Err
returns-in-Err c =
    run_ended c.args.number c.args.script.now c.add_write-2.new.script
    (write_at c.args.stored.now.cube c.args.stored.now.place c.args.stored.now.bytes.now)
    c.args.address
    c.args.blocks c.in-Err.fault (omega (arith, c.if-blocks-le8.false))
    (grind (arith, c.if-blocks-eq16.false, c.requires.few)) c.in-Err.ensures

pub returns : goal.returns
returns c =
    run_two c.args.number c.args.script.now c.add_write-2.new.script c.add_write-3.new.script
    (write_at c.args.stored.now.cube c.args.stored.now.place c.args.stored.now.bytes.now)
    c.args.address
    c.args.blocks c.add_write-3.result (omega (arith, c.if-blocks-le8.false))
    (grind (arith, c.if-blocks-eq16.false, c.requires.few)) c.in_default.ensures
    c.add_write-3.ensures

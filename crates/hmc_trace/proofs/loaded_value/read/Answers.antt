-- No request, or one that the script hasn't.
use Rattle.std.proofs.Common.{◌<◌, ◌+◌, sym, length, arith}
use Rattle.hmc_accesses.specs.InOrder.{known_answer}
use Rattle.hmc_trace.proofs.Joining.{joined_zero, joined_past}
use Rattle.hmc_trace.proofs.loaded_value.read.Goals as goal

pub returns-then-load-eq0 : goal.returns-then-load-eq0
returns-then-load-eq0 c = joined_zero (known_answer c.args.answers.now) c.args.script.now
    c.args.load.first c.args.load.count c.new.result.items c.if-load-eq0.true c.new.ensures.items

pub returns-then-from : goal.returns-then-from
returns-then-from c =
    let past : length c.args.script.now < c.args.load.first + c.args.load.count =
    omega (
      arith,
      c.if-from.true,
      c.from.ensures,
      c.from-2.ensures,
      c.from-3.ensures,
      c.len.ensures,
    ) in
    sym (joined_past (known_answer c.args.answers.now) c.args.script.now c.args.load.first
    c.args.load.count past c.if-load-eq0.false)

-- The first answer of the queue was taken away.
use Rattle.std.proofs.Common.{◌<◌, length, rules, arith}
use Rattle.hmc_trace.proofs.Queueing.{is_taken_out}
use Rattle.hmc_trace.proofs.queues.Queues.take_out.Goals as goal

pub returns-clause-rest : goal.returns-clause-rest
returns-clause-rest c =
    let queues = c.self.inside.queues.items in
    let less : c.from-2.result < length queues =
    omega (arith, c.if-from-len.false, c.from.ensures, c.from-2.ensures, c.len.ensures) in
    is_taken_out (λ queue. queue.items) c.args.self.now queues c.from-2.result c.args.tag
    c.pop_front.new.self c.index_mut.result.now (search rules) c.from-2.ensures less
    c.index_mut.ensures.value c.pop_front.ensures.rest

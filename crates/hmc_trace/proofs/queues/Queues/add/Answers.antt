-- The answer joined its queue.
use Rattle.std.proofs.Common.{rules}
use Rattle.hmc_trace.proofs.Queueing.{is_added}
use Rattle.hmc_trace.proofs.queues.Queues.add.Goals as goal

pub returns : goal.returns
returns c =
    is_added (λ queue. queue.items) c.enqueue.result c.args.self.now c.grow.new.self
    c.self.inside.queues.items c.from.result c.args.tag c.enqueue.new.queue
    c.index_mut.result.now c.args.answer c.in_ok-grow.ensures.same (search rules) c.from.ensures
    c.in_ok-grow.ensures.there c.index_mut.ensures.value c.enqueue.ensures

-- One more queue, which has few packets.
use Rattle.std.proofs.Common.{◌<◌, ◌≤◌, ◌∙◌, ◌+◌, length, ap, arith}
use Rattle.hmc_vault.proofs.VaultLemmas.{few_used, small_item, one_more_queue}
use Rattle.hmc_vault.proofs.vault.held_in.Goals as goal

pub overflow_add-held : goal.overflow_add-held
overflow_add-held c =
    let there : c.loop-queue.queue-index < length c.args.queues.now = omega arith in
    let few : c.used-held.result ≤ 255 = few_used c.queue-item.result c.used-held.result c.used-held.ensures (small_item c.args.queues.now c.loop-queue.queue-index c.queue-item.result there c.queue-item.is c.requires.small) in
    omega (arith, c.loop-queue.invariant.1, c.requires.few)

pub loop-queue-preserved : goal.loop-queue-preserved
loop-queue-preserved c =
    let there : c.loop-queue.queue-index < length c.args.queues.now = omega arith in
    let few : c.used-held.result ≤ 255 = few_used c.queue-item.result c.used-held.result c.used-held.ensures (small_item c.args.queues.now c.loop-queue.queue-index c.queue-item.result there c.queue-item.is c.requires.small) in (
      ap (λ n. n + c.used-held.result) c.loop-queue.invariant.0 ∙ one_more_queue c.args.queues.now c.loop-queue.queue-index c.used-held.result c.queue-item.result there c.queue-item.is c.used-held.ensures,
      omega (arith, c.loop-queue.invariant.1),
    )

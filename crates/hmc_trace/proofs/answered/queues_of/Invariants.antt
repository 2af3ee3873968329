-- What was taken so far, and then what is left, is all.
use Rattle.std.proofs.Common.{ℕ, ◌≡◌, ◌++◌, drop}
use Rattle.std.specs.List.{filter_map}
use Rattle.hmc_trace.specs.Queues.{queue_of}
use Rattle.hmc_accesses.specs.InOrder.{took_answer}
use Rattle.hmc_trace.proofs.answered.queues_of.Given as goal

abbrev pub invariant-entries : goal.invariant-entries
invariant-entries l = (t : ℕ) →
    queue_of l.queues t ++ filter_map (took_answer t) (drop l.entry-index l.fn.journal)
    ≡ filter_map (took_answer t) l.fn.journal

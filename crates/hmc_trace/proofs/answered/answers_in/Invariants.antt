-- The requests so far have their answers.
use Rattle.std.proofs.Common.{drop}
use Rattle.std.specs.List.{filter_map}
use Rattle.hmc_accesses.specs.InOrder.{gave_tag, took_answer}
use Rattle.hmc_trace.proofs.Matching.{Matches}
use Rattle.hmc_trace.proofs.answered.answers_in.Given as goal

abbrev pub invariant-entries : goal.invariant-entries
invariant-entries l =
    Matches (filter_map gave_tag l.fn.journal)
    (filter_map gave_tag (drop l.entry-index l.fn.journal))
    (λ t. filter_map (took_answer t) l.fn.journal) l.queues l.answers.items

-- Entry by entry.
use Rattle.std.proofs.Common.{◌≡◌, ◌++◌, ◌∙◌, Some, sym, ap, append-nil}
use Rattle.hmc_trace.specs.Queues.{queue_of}
use Rattle.hmc_accesses.specs.InOrder.{took_answer, tagged_answer}
use Rattle.hmc_trace.proofs.Matching.{nothing_added, one_added, none_left}
use Rattle.hmc_trace.proofs.answered.queues_of.Goals as goal

pub entries-preserved-in_default : goal.entries-preserved-in_default
entries-preserved-in_default c =
    nothing_added c.args.journal.now c.entries.entry-index c.entry-item.result c.entries.queues
    c.entries-test.true c.entry-item.is (sym c.tagged_answer.ensures ∙ c.in_default.is)
    c.entries.invariant

pub entries-preserved : goal.entries-preserved
entries-preserved c =
    let is : tagged_answer c.entry-item.result ≡ Some (c.in-Some.tag, c.in-Some.answer) =
    sym c.tagged_answer.ensures ∙ c.in-Some.is in
    one_added c.args.journal.now c.entries.entry-index c.entry-item.result c.entries.queues
    c.add.new.self c.in-Some.tag c.in-Some.answer c.entries-test.true c.entry-item.is is
    c.in_default-add.ensures c.entries.invariant

pub returns : goal.returns
returns c = λ t.
    sym (append-nil (queue_of c.entries.queues t))
    ∙ ap (λ l. queue_of c.entries.queues t ++ l)
    (sym (none_left (took_answer t) c.args.journal.now c.entries.entry-index
    c.entries-test.false))
    ∙ c.entries.invariant t

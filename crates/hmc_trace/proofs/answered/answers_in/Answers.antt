-- Request by request.
use Rattle.std.proofs.Common.{◌+◌, ℕ, drop, sym, subst}
use Rattle.std.specs.List.{filter_map}
use Rattle.hmc_accesses.specs.InOrder.{gave_tag, took_answer}
use Rattle.hmc_trace.proofs.Matching.{Matches, matched_start, matched_one, matched_all, next_given, nothing_given, none_left}
use Rattle.hmc_trace.proofs.answered.answers_in.Goals as goal

pub entries-init : goal.entries-init
entries-init c =
    let journal = c.args.journal.now in
    let given = filter_map gave_tag journal in
    let took = λ (t : ℕ). filter_map (took_answer t) journal in
    subst (Matches given given took c.in_ok-queues.queues) (sym c.new-answers.ensures.items)
    (matched_start given took c.in_ok-queues.queues c.in_ok-queues.ensures)

pub entries-preserved-in_default : goal.entries-preserved-in_default
entries-preserved-in_default c =
    let journal = c.args.journal.now in
    let given = filter_map gave_tag journal in
    let took = λ (t : ℕ). filter_map (took_answer t) journal in
    let none = nothing_given journal c.entries.entry-index c.entry-item.result c.gave_tag.result
    c.entries-test.true c.entry-item.is c.gave_tag.ensures c.in_default.is in
    subst (λ l. Matches given l took c.entries.queues c.entries.answers.items) none
    c.entries.invariant

pub entries-preserved : goal.entries-preserved
entries-preserved c =
    let journal = c.args.journal.now in
    let given = filter_map gave_tag journal in
    let rest = filter_map gave_tag (drop (c.entries.entry-index + 1) journal) in
    let took = λ (t : ℕ). filter_map (took_answer t) journal in
    let next = next_given journal c.entries.entry-index c.entry-item.result c.gave_tag.result
    c.in-Some.tag c.entries-test.true c.entry-item.is c.gave_tag.ensures c.in-Some.is in
    let before = subst (λ l. Matches given l took c.entries.queues c.entries.answers.items) next
    c.entries.invariant in
    subst (Matches given rest took c.next_answer-answer.new.queues)
    (sym c.in_default-append.ensures)
    (matched_one given rest took c.entries.queues c.next_answer-answer.new.queues
    c.entries.answers.items c.in-Some.tag c.next_answer-answer.result before
    c.next_answer-answer.ensures.value c.next_answer-answer.ensures.rest)

pub returns : goal.returns
returns c =
    let journal = c.args.journal.now in
    let given = filter_map gave_tag journal in
    let took = λ (t : ℕ). filter_map (took_answer t) journal in
    let none = none_left gave_tag journal c.entries.entry-index c.entries-test.false in
    λ n.
    matched_all given took c.entries.queues c.entries.answers.items
    (subst (λ l. Matches given l took c.entries.queues c.entries.answers.items) none
    c.entries.invariant) n

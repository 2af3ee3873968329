-- A queue more, until the tag has one.
use Rattle.std.proofs.Common.{◌≡◌, ◌<◌, ◌+◌, ◌∙◌, length, map, sym, ap, subst, arith}
use Rattle.std.proofs.lemmas.List.{length-map, length_push}
use Rattle.hmc_trace.specs.Queues.{queue_of}
use Rattle.hmc_trace.proofs.Queueing.{one_more}
use Rattle.hmc_trace.proofs.queues.Queues.grow.Goals as goal

pub queues-init : goal.queues-init
queues-init c = λ t. ap (λ queues. queue_of queues t) c.self.view_is

pub queues-preserved : goal.queues-preserved
queues-preserved c = λ t.
    ap (λ queues. queue_of (map (λ queue. queue.items) queues) t) c.in_default.ensures
    ∙ one_more (λ queue. queue.items) c.queues.self-inside.queues.items c.new.result
    c.new.ensures.items t
    ∙ c.queues.invariant t

pub queues-smaller : goal.queues-smaller
queues-smaller c =
    let longer : length c.append.new.items.items ≡ length c.queues.self-inside.queues.items + 1 =
    ap length c.in_default.ensures ∙ length_push c.queues.self-inside.queues.items c.new.result in
    omega (arith, longer, c.queues-test.true, c.len.ensures, c.from.ensures, c.ranges.tag.fits)

pub returns : goal.returns
returns c = record {
  there = subst (λ n. c.args.tag < n)
      (sym (length-map c.queues.self-inside.queues.items (λ queue. queue.items)))
      (omega (arith, c.queues-test.false, c.len.ensures, c.from.ensures));
  same = c.queues.invariant;
}

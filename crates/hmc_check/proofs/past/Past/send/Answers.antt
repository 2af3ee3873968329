-- A flit is sent in a direction.
use Rattle.std.proofs.Common.{ap, arith}
use Rattle.hmc_entries.specs.declared.entry.Entry.{Entry}
use Rattle.hmc_schedule.specs.declared.step.Step.TheVariants as steps
use Rattle.hmc_check.specs.Past.{PastFields}
use Rattle.hmc_check.proofs.Holding.{of_parts, some_of}
use Rattle.hmc_check.proofs.Sending.{place_there, may_send, send_takes}
use Rattle.hmc_check.proofs.Spreading.{some_there}
use Rattle.hmc_check.proofs.past.Past.send.Goals as goal

pub through_at-place-requires : goal.through_at-place-requires
through_at-place-requires g c =
    let i = c.self.inside in
    let old : PastFields = record { topology = i.wiring; queues = i.queues; cubes = i.plain; slots = g.B.Workbench.slots i.bench; hosts = i.hosts.items; ends = i.ends; piped = i.piped; tally = i.tally; last = i.last } in
    let some = some_of g.B.Workbench.slots _ c.args.self.now (steps.Send c.args.direction) c.self.view_is c.requires in
    let there = some_there old (steps.Send c.args.direction) some in
    omega (arith, there, some.is.holds.sized.ends)

pub feed-feed-requires-clause-there : goal.feed-feed-requires-clause-there
feed-feed-requires-clause-there g c =
    let i = c.self.inside in
    let old : PastFields = record { topology = i.wiring; queues = i.queues; cubes = i.plain; slots = g.B.Workbench.slots i.bench; hosts = i.hosts.items; ends = i.ends; piped = i.piped; tally = i.tally; last = i.last } in
    let some = some_of g.B.Workbench.slots _ c.args.self.now (steps.Send c.args.direction) c.self.view_is c.requires in
    let there = some_there old (steps.Send c.args.direction) some in
    omega (arith, there, some.is.holds.sized.piped.pipes)

pub feed-feed-requires-clause-place : goal.feed-feed-requires-clause-place
feed-feed-requires-clause-place g c =
    let i = c.self.inside in
    let old : PastFields = record { topology = i.wiring; queues = i.queues; cubes = i.plain; slots = g.B.Workbench.slots i.bench; hosts = i.hosts.items; ends = i.ends; piped = i.piped; tally = i.tally; last = i.last } in
    let some = some_of g.B.Workbench.slots _ c.args.self.now (steps.Send c.args.direction) c.self.view_is c.requires in
    let there = some_there old (steps.Send c.args.direction) some in
    place_there old (steps.Send c.args.direction) c.args.direction c.through_at-place.result some there c.through_at-place.ensures

pub send-sent-requires-clause-there : goal.send-sent-requires-clause-there
send-sent-requires-clause-there g c =
    let i = c.self.inside in
    let old : PastFields = record { topology = i.wiring; queues = i.queues; cubes = i.plain; slots = g.B.Workbench.slots i.bench; hosts = i.hosts.items; ends = i.ends; piped = i.piped; tally = i.tally; last = i.last } in
    let some = some_of g.B.Workbench.slots _ c.args.self.now (steps.Send c.args.direction) c.self.view_is c.requires in
    let there = some_there old (steps.Send c.args.direction) some in
    omega (arith, there, some.is.holds.sized.ends)

pub send-sent-requires-clause-may : goal.send-sent-requires-clause-may
send-sent-requires-clause-may g c =
    let i = c.self.inside in
    let old : PastFields = record { topology = i.wiring; queues = i.queues; cubes = i.plain; slots = g.B.Workbench.slots i.bench; hosts = i.hosts.items; ends = i.ends; piped = i.piped; tally = i.tally; last = i.last } in
    let some = some_of g.B.Workbench.slots _ c.args.self.now (steps.Send c.args.direction) c.self.view_is c.requires in
    let there = some_there old (steps.Send c.args.direction) some in
    may_send old (steps.Send c.args.direction) c.args.direction c.through_at-place.result c.feed-feed.result some there c.through_at-place.ensures c.feed-feed.ensures

pub returns : goal.returns
returns g c =
    let i = c.self.inside in
    let old : PastFields = record { topology = i.wiring; queues = i.queues; cubes = i.plain; slots = g.B.Workbench.slots i.bench; hosts = i.hosts.items; ends = i.ends; piped = i.piped; tally = i.tally; last = i.last } in
    let some = some_of g.B.Workbench.slots _ c.args.self.now (steps.Send c.args.direction) c.self.view_is c.requires in
    let there = some_there old (steps.Send c.args.direction) some in
    of_parts g.B.Workbench.slots _ c.args.self.now _ (steps.Send c.args.direction) c.self.view_is
    (send_takes old _ c.args.direction c.through_at-place.result c.feed-feed.result c.send-sent.result c.send-sent.new.self there c.through_at-place.ensures c.feed-feed.ensures c.send-sent.ensures.answer c.send-sent.ensures.stand
    (ap (λ (e : Entry). record old { ends = c.send-sent.new.self; last = e }) c.note_sent.ensures))

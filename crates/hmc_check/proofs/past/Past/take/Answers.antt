-- No packet came to the host.
use Rattle.std.proofs.Common.{◌≡◌, ◌<◌, Some, length, ap, subst, arith}
use Rattle.hmc_codes.specs.declared.place.Place.TheVariants as places
use Rattle.hmc_entries.specs.declared.entry.Entry.{Entry}
use Rattle.hmc_journal.specs.Links.{direction_to}
use Rattle.hmc_journal.proofs.DirectionEnds.{ends_at}
use Rattle.hmc_schedule.specs.declared.step.Step.TheVariants as steps
use Rattle.hmc_check.specs.Past.{PastFields, PastParts}
use Rattle.hmc_check.proofs.Holding.{of_parts, some_of}
use Rattle.hmc_check.proofs.Sending.{hold_some}
use Rattle.hmc_check.proofs.Taking.{none_arrived, nothing_taken}
use Rattle.hmc_check.proofs.Spreading.{some_there}
use Rattle.hmc_check.proofs.past.Past.take.Goals as goal

pub has_arrived-requires-clause-there : goal.has_arrived-requires-clause-there
has_arrived-requires-clause-there g c =
    let i = c.self.inside in
    let old : PastFields = record { topology = i.wiring; queues = i.queues; cubes = i.plain; slots = g.B.Workbench.slots i.bench; hosts = i.hosts.items; ends = i.ends; piped = i.piped; tally = i.tally; last = i.last } in
    let some = some_of g.B.Workbench.slots _ c.args.self.now (steps.Take c.args.host) c.self.view_is c.requires in
    let sized = some.is.holds.sized in
    let there : c.args.host < length i.hosts.items = omega (arith, some_there old (steps.Take c.args.host) some, sized.hosts) in
    let d = c.to_host-direction.result in
    let inside = (ends_at i.wiring (places.Host c.args.host) d c.to_host-direction.ensures.to).there in
    omega (arith, inside, sized.ends)

pub has_arrived-requires-clause-some : goal.has_arrived-requires-clause-some
has_arrived-requires-clause-some g c =
    let i = c.self.inside in
    let old : PastFields = record { topology = i.wiring; queues = i.queues; cubes = i.plain; slots = g.B.Workbench.slots i.bench; hosts = i.hosts.items; ends = i.ends; piped = i.piped; tally = i.tally; last = i.last } in
    let some = some_of g.B.Workbench.slots _ c.args.self.now (steps.Take c.args.host) c.self.view_is c.requires in
    let sized = some.is.holds.sized in
    let there : c.args.host < length i.hosts.items = omega (arith, some_there old (steps.Take c.args.host) some, sized.hosts) in
    hold_some old (steps.Take c.args.host) some

pub returns-then-not-has_arrived : goal.returns-then-not-has_arrived
returns-then-not-has_arrived g c =
    let i = c.self.inside in
    let old : PastFields = record { topology = i.wiring; queues = i.queues; cubes = i.plain; slots = g.B.Workbench.slots i.bench; hosts = i.hosts.items; ends = i.ends; piped = i.piped; tally = i.tally; last = i.last } in
    let some = some_of g.B.Workbench.slots _ c.args.self.now (steps.Take c.args.host) c.self.view_is c.requires in
    let sized = some.is.holds.sized in
    let there : c.args.host < length i.hosts.items = omega (arith, some_there old (steps.Take c.args.host) some, sized.hosts) in
    let d = c.to_host-direction.result in
    let inside = (ends_at i.wiring (places.Host c.args.host) d c.to_host-direction.ensures.to).there in
    of_parts g.B.Workbench.slots _ c.args.self.now _ (steps.Take c.args.host) c.self.view_is
    (nothing_taken old _ c.args.host d c.to_host-direction.ensures.to (none_arrived i.ends d c.has_arrived.result c.if-not-has_arrived.true c.has_arrived.ensures) (ap (λ (e : Entry). record old { last = e }) c.idle.ensures))

pub take_front-requires-clause-to : goal.take_front-requires-clause-to
take_front-requires-clause-to g c = subst (λ (v : PastParts _). direction_to v.topology (places.Host c.args.host) ≡ Some c.to_host-direction.result) c.self.view_is c.to_host-direction.ensures.to

pub take_front-requires-clause-next : goal.take_front-requires-clause-next
take_front-requires-clause-next g c = c.requires

pub to_host-direction-requires : goal.to_host-direction-requires
to_host-direction-requires g c =
    let i = c.self.inside in
    let old : PastFields = record { topology = i.wiring; queues = i.queues; cubes = i.plain; slots = g.B.Workbench.slots i.bench; hosts = i.hosts.items; ends = i.ends; piped = i.piped; tally = i.tally; last = i.last } in
    let some = some_of g.B.Workbench.slots _ c.args.self.now (steps.Take c.args.host) c.self.view_is c.requires in
    let there = some_there old (steps.Take c.args.host) some in
    there

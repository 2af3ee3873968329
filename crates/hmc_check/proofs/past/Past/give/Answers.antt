-- Whether the next request of a host may go.
use Rattle.std.proofs.Common.{◌≡◌, ◌<◌, ◌∙◌, Bool, true, None, length, sym, ap, subst, arith, Some}
use Rattle.hmc_host.specs.Host.{HostFields}
use Rattle.hmc_host.specs.Give.{give_says, hindrance_of}
use Rattle.hmc_entries.specs.declared.entry.Entry.{Entry}
use Rattle.hmc_kept.specs.Hosts.{host_in}
use Rattle.hmc_schedule.specs.declared.step.Step.TheVariants as steps
use Rattle.hmc_directions.specs.Ends.{EndsHold}
use Rattle.hmc_kept.specs.ByDirection.{HasRoom}
use Rattle.hmc_codes.specs.declared.place.Place.TheVariants as places
use Rattle.hmc_check.specs.Past.{PastFields, PastParts}
use Rattle.hmc_check.proofs.Holding.{of_parts, some_of}
use Rattle.hmc_check.proofs.Outgoing.{has_given_room, give_hindered, starts_in}
use Rattle.hmc_check.proofs.Taking.{host_read}
use Rattle.hmc_check.proofs.Spreading.{some_there}
use Rattle.hmc_journal.specs.Setup.{direction_from}
use Rattle.hmc_check.proofs.past.Past.give.Goals as goal

pub returns-in-Some : goal.returns-in-Some
returns-in-Some g c =
    let i = c.self.inside in
    let old : PastFields = record { topology = i.wiring; queues = i.queues; cubes = i.plain; slots = g.B.Workbench.slots i.bench; hosts = i.hosts.items; ends = i.ends; piped = i.piped; tally = i.tally; last = i.last } in
    let some = some_of g.B.Workbench.slots _ c.args.self.now (steps.Give c.args.host) c.self.view_is c.requires in
    let there : c.args.host < length i.hosts.items = omega (arith, some_there old (steps.Give c.args.host) some, some.is.holds.sized.hosts) in
    let read : c.index.result.now ≡ host_in i.hosts.items c.args.host = host_read i.hosts.items c.from.result c.args.host c.index.result.now c.from.ensures there c.index.ensures in
    of_parts g.B.Workbench.slots _ c.args.self.now _ (steps.Give c.args.host) c.self.view_is
    (give_hindered old _ c.args.host c.from_host-direction.result c.has_room-room.result c.in-Some.hindrance _ there c.from_host-direction.ensures.from c.has_room-room.ensures
    (ap (λ (h : HostFields). hindrance_of (give_says h c.has_room-room.result)) (sym read) ∙ sym c.hindrance.ensures ∙ c.in-Some.is) c.cause_of.ensures (ap (λ (e : Entry). record old { last = e }) c.idle.ensures))

pub give_next-requires-clause-room : goal.give_next-requires-clause-room
give_next-requires-clause-room g c =
    let i = c.self.inside in
    let old : PastFields = record { topology = i.wiring; queues = i.queues; cubes = i.plain; slots = g.B.Workbench.slots i.bench; hosts = i.hosts.items; ends = i.ends; piped = i.piped; tally = i.tally; last = i.last } in
    let some = some_of g.B.Workbench.slots _ c.args.self.now (steps.Give c.args.host) c.self.view_is c.requires in
    let there : c.args.host < length i.hosts.items = omega (arith, some_there old (steps.Give c.args.host) some, some.is.holds.sized.hosts) in
    let read : c.index.result.now ≡ host_in i.hosts.items c.args.host = host_read i.hosts.items c.from.result c.args.host c.index.result.now c.from.ensures there c.index.ensures in
    let none : hindrance_of (give_says (host_in i.hosts.items c.args.host) c.has_room-room.result) ≡ None = ap (λ (h : HostFields). hindrance_of (give_says h c.has_room-room.result)) (sym read) ∙ sym c.hindrance.ensures ∙ c.in_default.is in
    let room : c.has_room-room.result ≡ true = has_given_room (host_in i.hosts.items c.args.host) c.has_room-room.result none in
    subst (λ (v : PastParts _). HasRoom EndsHold v.ends c.from_host-direction.result true) c.self.view_is (subst (HasRoom EndsHold i.ends c.from_host-direction.result) room c.has_room-room.ensures)

pub give_next-requires-clause-none : goal.give_next-requires-clause-none
give_next-requires-clause-none g c =
    let i = c.self.inside in
    let old : PastFields = record { topology = i.wiring; queues = i.queues; cubes = i.plain; slots = g.B.Workbench.slots i.bench; hosts = i.hosts.items; ends = i.ends; piped = i.piped; tally = i.tally; last = i.last } in
    let some = some_of g.B.Workbench.slots _ c.args.self.now (steps.Give c.args.host) c.self.view_is c.requires in
    let there : c.args.host < length i.hosts.items = omega (arith, some_there old (steps.Give c.args.host) some, some.is.holds.sized.hosts) in
    let read : c.index.result.now ≡ host_in i.hosts.items c.args.host = host_read i.hosts.items c.from.result c.args.host c.index.result.now c.from.ensures there c.index.ensures in
    let none : hindrance_of (give_says (host_in i.hosts.items c.args.host) c.has_room-room.result) ≡ None = ap (λ (h : HostFields). hindrance_of (give_says h c.has_room-room.result)) (sym read) ∙ sym c.hindrance.ensures ∙ c.in_default.is in
    let room : c.has_room-room.result ≡ true = has_given_room (host_in i.hosts.items c.args.host) c.has_room-room.result none in
    subst (λ (v : PastParts _). hindrance_of (give_says (host_in v.hosts c.args.host) true) ≡ None) c.self.view_is (ap (λ (r : Bool). hindrance_of (give_says (host_in i.hosts.items c.args.host) r)) (sym room) ∙ none)

pub has_room-room-requires : goal.has_room-room-requires
has_room-room-requires g c =
    let i = c.self.inside in
    let old : PastFields = record { topology = i.wiring; queues = i.queues; cubes = i.plain; slots = g.B.Workbench.slots i.bench; hosts = i.hosts.items; ends = i.ends; piped = i.piped; tally = i.tally; last = i.last } in
    let some = some_of g.B.Workbench.slots _ c.args.self.now (steps.Give c.args.host) c.self.view_is c.requires in
    starts_in old (steps.Give c.args.host) (places.Host c.args.host) c.from_host-direction.result some c.from_host-direction.ensures.from

pub from_host-direction-requires : goal.from_host-direction-requires
from_host-direction-requires g c =
    let i = c.self.inside in
    let old : PastFields = record { topology = i.wiring; queues = i.queues; cubes = i.plain; slots = g.B.Workbench.slots i.bench; hosts = i.hosts.items; ends = i.ends; piped = i.piped; tally = i.tally; last = i.last } in
    let some = some_of g.B.Workbench.slots _ c.args.self.now (steps.Give c.args.host) c.self.view_is c.requires in
    let there = some_there old (steps.Give c.args.host) some in
    there

pub index-requires : goal.index-requires
index-requires g c =
    let i = c.self.inside in
    let old : PastFields = record { topology = i.wiring; queues = i.queues; cubes = i.plain; slots = g.B.Workbench.slots i.bench; hosts = i.hosts.items; ends = i.ends; piped = i.piped; tally = i.tally; last = i.last } in
    let some = some_of g.B.Workbench.slots _ c.args.self.now (steps.Give c.args.host) c.self.view_is c.requires in
    let sized = some.is.holds.sized in
    let there = some_there old (steps.Give c.args.host) some in
    omega (arith, there, sized.hosts, c.from.ensures)

pub give_next-requires-clause-next : goal.give_next-requires-clause-next
give_next-requires-clause-next g c = c.requires

pub give_next-requires-clause-from : goal.give_next-requires-clause-from
give_next-requires-clause-from g c = subst (λ (v : PastParts _). direction_from v.topology (places.Host c.args.host) ≡ Some c.from_host-direction.result) c.self.view_is c.from_host-direction.ensures.from

-- The front of a queue of answers goes out, or waits.
use Rattle.std.proofs.Common.{◌≡◌, ◌<◌, ◌∙◌, List, Some, slice_get, refl, sym, ap, ap₂, subst}
use Rattle.hmc_codes.specs.declared.place.Place.TheVariants as places
use Rattle.hmc_packet.specs.Packet.{PacketFields}
use Rattle.hmc_entries.specs.declared.entry.Entry.{Entry}
use Rattle.hmc_journal.specs.Routes.{port_towards}
use Rattle.hmc_journal.specs.Setup.{hosts_in}
use Rattle.hmc_schedule.specs.declared.step.Step.TheVariants as steps
use Rattle.hmc_queues.specs.Queues.{CubeQueuesFields, packets_at}
use Rattle.hmc_queues.specs.declared.queue_name.QueueName.TheVariants as names
use Rattle.hmc_check.specs.Moving.{IsWayOut}
use Rattle.hmc_check.specs.Past.{PastFields, past_of}
use Rattle.hmc_check.proofs.Holding.{of_parts, some_of}
use Rattle.hmc_check.proofs.Outgoing.{starts_in}
use Rattle.hmc_check.proofs.Lifting.{answers_queue, lift_host, lift_empty, lift_full, lift_may, lift_takes, way_in}
use Rattle.hmc_check.proofs.Spreading.{some_there}
use Rattle.hmc_check.proofs.past.Past.lift_front.Goals as goal

pub returns-in_default : goal.returns-in_default
returns-in_default g c =
    let i = c.self.inside in
    let old : PastFields = record { topology = i.wiring; queues = i.queues; cubes = i.plain; slots = g.B.Workbench.slots i.bench; hosts = i.hosts.items; ends = i.ends; piped = i.piped; tally = i.tally; last = i.last } in
    let some = some_of g.B.Workbench.slots _ c.args.self.now (steps.Lift c.args.cube c.args.from) c.self.view_is c.requires.next in
    of_parts g.B.Workbench.slots _ c.args.self.now _ (steps.Lift c.args.cube c.args.from) c.self.view_is
    (lift_empty old _ c.args.cube c.args.from (sym c.front.ensures ∙ c.in_default.is) (ap (λ (e : Entry). record old { last = e }) c.idle.ensures))

pub port_towards-port-requires-clause-host : goal.port_towards-port-requires-clause-host
port_towards-port-requires-clause-host g c =
    let i = c.self.inside in
    let old : PastFields = record { topology = i.wiring; queues = i.queues; cubes = i.plain; slots = g.B.Workbench.slots i.bench; hosts = i.hosts.items; ends = i.ends; piped = i.piped; tally = i.tally; last = i.last } in
    let some = some_of g.B.Workbench.slots _ c.args.self.now (steps.Lift c.args.cube c.args.from) c.self.view_is c.requires.next in
    let first : slice_get (packets_at i.queues c.args.cube (names.Answers c.args.from)) 0 ≡ Some c.in-Some.front = sym c.front.ensures ∙ c.in-Some.is in
    subst (λ (p : PacketFields). p.slid < hosts_in i.wiring) (sym c.front-2.view_is) (lift_host old c.args.cube c.args.from c.in-Some.front some first)

pub returns-in_default-way_out : goal.returns-in_default-way_out
returns-in_default-way_out g c =
    let i = c.self.inside in
    let old : PastFields = record { topology = i.wiring; queues = i.queues; cubes = i.plain; slots = g.B.Workbench.slots i.bench; hosts = i.hosts.items; ends = i.ends; piped = i.piped; tally = i.tally; last = i.last } in
    let some = some_of g.B.Workbench.slots _ c.args.self.now (steps.Lift c.args.cube c.args.from) c.self.view_is c.requires.next in
    let first : slice_get (packets_at i.queues c.args.cube (names.Answers c.args.from)) 0 ≡ Some c.in-Some.front = sym c.front.ensures ∙ c.in-Some.is in
    let towards : port_towards i.wiring c.args.cube c.in-Some.front.slid ≡ Some c.port_towards-port.result = subst (λ (p : PacketFields). port_towards i.wiring c.args.cube p.slid ≡ Some c.port_towards-port.result) c.front-2.view_is c.port_towards-port.ensures in
    of_parts g.B.Workbench.slots _ c.args.self.now _ (steps.Lift c.args.cube c.args.from) c.self.view_is
    (lift_full old _ c.args.cube c.args.from c.in-Some.front c.port_towards-port.result first towards (way_in g.B.Workbench.slots _ c.args.self.now c.args.cube c.port_towards-port.result _ _ c.self.view_is c.in_default-way_out.is c.way_out.ensures) (ap (λ (e : Entry). record old { last = e }) c.idle-in_default-way_out.ensures))

pub hand-requires-clause-there : goal.hand-requires-clause-there
hand-requires-clause-there g c =
    let i = c.self.inside in
    let old : PastFields = record { topology = i.wiring; queues = i.queues; cubes = i.plain; slots = g.B.Workbench.slots i.bench; hosts = i.hosts.items; ends = i.ends; piped = i.piped; tally = i.tally; last = i.last } in
    let some = some_of g.B.Workbench.slots _ c.args.self.now (steps.Lift c.args.cube c.args.from) c.self.view_is c.requires.next in
    let way : IsWayOut old c.args.cube c.port_towards-port.result (Some c.in-Some-way_out.onward) = way_in g.B.Workbench.slots _ c.args.self.now c.args.cube c.port_towards-port.result _ _ c.self.view_is c.in-Some-way_out.is c.way_out.ensures in
    starts_in old (steps.Lift c.args.cube c.args.from) (places.Port c.args.cube c.port_towards-port.result) c.in-Some-way_out.onward some (way.from c.in-Some-way_out.onward refl)

pub hand-requires-clause-may : goal.hand-requires-clause-may
hand-requires-clause-may g c =
    let i = c.self.inside in
    let old : PastFields = record { topology = i.wiring; queues = i.queues; cubes = i.plain; slots = g.B.Workbench.slots i.bench; hosts = i.hosts.items; ends = i.ends; piped = i.piped; tally = i.tally; last = i.last } in
    let some = some_of g.B.Workbench.slots _ c.args.self.now (steps.Lift c.args.cube c.args.from) c.self.view_is c.requires.next in
    let first : slice_get (packets_at i.queues c.args.cube (names.Answers c.args.from)) 0 ≡ Some c.in-Some.front = sym c.front.ensures ∙ c.in-Some.is in
    let way : IsWayOut old c.args.cube c.port_towards-port.result (Some c.in-Some-way_out.onward) = way_in g.B.Workbench.slots _ c.args.self.now c.args.cube c.port_towards-port.result _ _ c.self.view_is c.in-Some-way_out.is c.way_out.ensures in
    lift_may old c.args.cube c.args.from c.in-Some.front c.port_towards-port.result c.in-Some-way_out.onward some first way

pub returns : goal.returns
returns g c =
    let i = c.self.inside in
    let old : PastFields = record { topology = i.wiring; queues = i.queues; cubes = i.plain; slots = g.B.Workbench.slots i.bench; hosts = i.hosts.items; ends = i.ends; piped = i.piped; tally = i.tally; last = i.last } in
    let some = some_of g.B.Workbench.slots _ c.args.self.now (steps.Lift c.args.cube c.args.from) c.self.view_is c.requires.next in
    let first : slice_get (packets_at i.queues c.args.cube (names.Answers c.args.from)) 0 ≡ Some c.in-Some.front = sym c.front.ensures ∙ c.in-Some.is in
    let towards : port_towards i.wiring c.args.cube c.in-Some.front.slid ≡ Some c.port_towards-port.result = subst (λ (p : PacketFields). port_towards i.wiring c.args.cube p.slid ≡ Some c.port_towards-port.result) c.front-2.view_is c.port_towards-port.ensures in
    let way : IsWayOut old c.args.cube c.port_towards-port.result (Some c.in-Some-way_out.onward) = way_in g.B.Workbench.slots _ c.args.self.now c.args.cube c.port_towards-port.result _ _ c.self.view_is c.in-Some-way_out.is c.way_out.ensures in
    let room = answers_queue old c.args.cube c.args.from some.is.holds.sized (some_there old (steps.Lift c.args.cube c.args.from) some) in
    of_parts g.B.Workbench.slots _ c.args.self.now _ (steps.Lift c.args.cube c.args.from) c.self.view_is
    (lift_takes old _ c.args.cube c.args.from c.in-Some.front c.port_towards-port.result c.in-Some-way_out.onward c.hand.new.self room first towards way c.hand.ensures
    (ap₂ (λ (r : List CubeQueuesFields) (e : Entry). record old { queues = r; ends = c.hand.new.self; last = e }) c.pop.ensures c.lifted.ensures))

pub front-requires : goal.front-requires
front-requires g c =
    let i = c.self.inside in
    let old : PastFields = record { topology = i.wiring; queues = i.queues; cubes = i.plain; slots = g.B.Workbench.slots i.bench; hosts = i.hosts.items; ends = i.ends; piped = i.piped; tally = i.tally; last = i.last } in
    let some = some_of g.B.Workbench.slots _ c.args.self.now (steps.Lift c.args.cube c.args.from) c.self.view_is c.requires.next in
    let sized = some.is.holds.sized in
    let there = some_there old (steps.Lift c.args.cube c.args.from) some in
    answers_queue old c.args.cube c.args.from sized there

pub pop-requires : goal.pop-requires
pop-requires g c =
    let i = c.self.inside in
    let old : PastFields = record { topology = i.wiring; queues = i.queues; cubes = i.plain; slots = g.B.Workbench.slots i.bench; hosts = i.hosts.items; ends = i.ends; piped = i.piped; tally = i.tally; last = i.last } in
    let some = some_of g.B.Workbench.slots _ c.args.self.now (steps.Lift c.args.cube c.args.from) c.self.view_is c.requires.next in
    let sized = some.is.holds.sized in
    let there = some_there old (steps.Lift c.args.cube c.args.from) some in
    answers_queue old c.args.cube c.args.from sized there

pub port_towards-port-requires-clause-cube : goal.port_towards-port-requires-clause-cube
port_towards-port-requires-clause-cube g c =
    let i = c.self.inside in
    let old : PastFields = record { topology = i.wiring; queues = i.queues; cubes = i.plain; slots = g.B.Workbench.slots i.bench; hosts = i.hosts.items; ends = i.ends; piped = i.piped; tally = i.tally; last = i.last } in
    let some = some_of g.B.Workbench.slots _ c.args.self.now (steps.Lift c.args.cube c.args.from) c.self.view_is c.requires.next in
    let there = some_there old (steps.Lift c.args.cube c.args.from) some in
    there.some_cube

pub way_out-requires-clause-there : goal.way_out-requires-clause-there
way_out-requires-clause-there g c = (some_there (past_of g.B.Workbench.slots c.args.self.now) (steps.Lift c.args.cube c.args.from) c.requires.next).some_cube

pub way_out-requires-clause-some : goal.way_out-requires-clause-some
way_out-requires-clause-some g c = (steps.Lift c.args.cube c.args.from, c.requires.next)

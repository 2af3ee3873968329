-- The host takes the front of its buffer.
use Rattle.std.proofs.Common.{◌≡◌, ◌<◌, ◌∙◌, List, ℕ, Some, length, sym, ap, ap₂, subst, arith}
use Rattle.std.specs.Prelude.{slice_set}
use Rattle.hmc_codes.specs.declared.place.Place.TheVariants as places
use Rattle.hmc_host.specs.Host.{HostFields}
use Rattle.hmc_host.specs.Settle.{IsAwaited, after_settle}
use Rattle.hmc_entries.specs.declared.entry.Entry.{Entry}
use Rattle.hmc_journal.specs.Links.{direction_to}
use Rattle.hmc_kept.specs.Hosts.{with_host}
use Rattle.hmc_journal.proofs.DirectionEnds.{ends_at}
use Rattle.hmc_schedule.specs.declared.step.Step.TheVariants as steps
use Rattle.hmc_directions.specs.Ends.{EndsHold}
use Rattle.hmc_kept.specs.ByDirection.{IsFrontAt}
use Rattle.hmc_check.specs.Past.{PastFields, PastParts}
use Rattle.hmc_check.proofs.Holding.{of_parts, some_of}
use Rattle.hmc_check.proofs.Sending.{hold_some}
use Rattle.hmc_check.proofs.Taking.{host_read, awaited, nothing_taken, take_takes}
use Rattle.hmc_check.proofs.Spreading.{some_there}
use Rattle.hmc_check.proofs.past.Past.take_front.Goals as goal

pub front-requires-clause-there : goal.front-requires-clause-there
front-requires-clause-there g c =
    let i = c.self.inside in
    let old : PastFields = record { topology = i.wiring; queues = i.queues; cubes = i.plain; slots = g.B.Workbench.slots i.bench; hosts = i.hosts.items; ends = i.ends; piped = i.piped; tally = i.tally; last = i.last } in
    let some = some_of g.B.Workbench.slots _ c.args.self.now (steps.Take c.args.host) c.self.view_is c.requires.next in
    let sized = some.is.holds.sized in
    let there : c.args.host < length i.hosts.items = omega (arith, some_there old (steps.Take c.args.host) some, sized.hosts) in
    let d = c.args.direction in
    let to : direction_to i.wiring (places.Host c.args.host) ≡ Some d = subst (λ (v : PastParts _). direction_to v.topology (places.Host c.args.host) ≡ Some d) (sym c.self.view_is) c.requires.to in
    let inside = (ends_at i.wiring (places.Host c.args.host) d to).there in
    omega (arith, inside, sized.ends)

pub front-requires-clause-some : goal.front-requires-clause-some
front-requires-clause-some g c =
    let i = c.self.inside in
    let old : PastFields = record { topology = i.wiring; queues = i.queues; cubes = i.plain; slots = g.B.Workbench.slots i.bench; hosts = i.hosts.items; ends = i.ends; piped = i.piped; tally = i.tally; last = i.last } in
    let some = some_of g.B.Workbench.slots _ c.args.self.now (steps.Take c.args.host) c.self.view_is c.requires.next in
    let sized = some.is.holds.sized in
    let there : c.args.host < length i.hosts.items = omega (arith, some_there old (steps.Take c.args.host) some, sized.hosts) in
    let d = c.args.direction in
    let to : direction_to i.wiring (places.Host c.args.host) ≡ Some d = subst (λ (v : PastParts _). direction_to v.topology (places.Host c.args.host) ≡ Some d) (sym c.self.view_is) c.requires.to in
    let inside = (ends_at i.wiring (places.Host c.args.host) d to).there in
    hold_some old (steps.Take c.args.host) some

pub returns-in_default : goal.returns-in_default
returns-in_default g c =
    let i = c.self.inside in
    let old : PastFields = record { topology = i.wiring; queues = i.queues; cubes = i.plain; slots = g.B.Workbench.slots i.bench; hosts = i.hosts.items; ends = i.ends; piped = i.piped; tally = i.tally; last = i.last } in
    let some = some_of g.B.Workbench.slots _ c.args.self.now (steps.Take c.args.host) c.self.view_is c.requires.next in
    let sized = some.is.holds.sized in
    let there : c.args.host < length i.hosts.items = omega (arith, some_there old (steps.Take c.args.host) some, sized.hosts) in
    let d = c.args.direction in
    let to : direction_to i.wiring (places.Host c.args.host) ≡ Some d = subst (λ (v : PastParts _). direction_to v.topology (places.Host c.args.host) ≡ Some d) (sym c.self.view_is) c.requires.to in
    let inside = (ends_at i.wiring (places.Host c.args.host) d to).there in
    of_parts g.B.Workbench.slots _ c.args.self.now _ (steps.Take c.args.host) c.self.view_is
    (nothing_taken old _ c.args.host d to (subst (IsFrontAt EndsHold i.ends d) c.in_default.is c.front.ensures) (ap (λ (e : Entry). record old { last = e }) c.idle.ensures))

pub take-requires-clause-there : goal.take-requires-clause-there
take-requires-clause-there g c =
    let i = c.self.inside in
    let old : PastFields = record { topology = i.wiring; queues = i.queues; cubes = i.plain; slots = g.B.Workbench.slots i.bench; hosts = i.hosts.items; ends = i.ends; piped = i.piped; tally = i.tally; last = i.last } in
    let some = some_of g.B.Workbench.slots _ c.args.self.now (steps.Take c.args.host) c.self.view_is c.requires.next in
    let sized = some.is.holds.sized in
    let there : c.args.host < length i.hosts.items = omega (arith, some_there old (steps.Take c.args.host) some, sized.hosts) in
    let d = c.args.direction in
    let to : direction_to i.wiring (places.Host c.args.host) ≡ Some d = subst (λ (v : PastParts _). direction_to v.topology (places.Host c.args.host) ≡ Some d) (sym c.self.view_is) c.requires.to in
    let inside = (ends_at i.wiring (places.Host c.args.host) d to).there in
    omega (arith, inside, sized.ends)

pub take-requires-clause-some : goal.take-requires-clause-some
take-requires-clause-some g c =
    let i = c.self.inside in
    let old : PastFields = record { topology = i.wiring; queues = i.queues; cubes = i.plain; slots = g.B.Workbench.slots i.bench; hosts = i.hosts.items; ends = i.ends; piped = i.piped; tally = i.tally; last = i.last } in
    let some = some_of g.B.Workbench.slots _ c.args.self.now (steps.Take c.args.host) c.self.view_is c.requires.next in
    let sized = some.is.holds.sized in
    let there : c.args.host < length i.hosts.items = omega (arith, some_there old (steps.Take c.args.host) some, sized.hosts) in
    let d = c.args.direction in
    let to : direction_to i.wiring (places.Host c.args.host) ≡ Some d = subst (λ (v : PastParts _). direction_to v.topology (places.Host c.args.host) ≡ Some d) (sym c.self.view_is) c.requires.to in
    let inside = (ends_at i.wiring (places.Host c.args.host) d to).there in
    hold_some old (steps.Take c.args.host) some

pub settle-settled-requires : goal.settle-settled-requires
settle-settled-requires g c = λ unpoisoned.
    let i = c.self.inside in
    let old : PastFields = record { topology = i.wiring; queues = i.queues; cubes = i.plain; slots = g.B.Workbench.slots i.bench; hosts = i.hosts.items; ends = i.ends; piped = i.piped; tally = i.tally; last = i.last } in
    let some = some_of g.B.Workbench.slots _ c.args.self.now (steps.Take c.args.host) c.self.view_is c.requires.next in
    let sized = some.is.holds.sized in
    let there : c.args.host < length i.hosts.items = omega (arith, some_there old (steps.Take c.args.host) some, sized.hosts) in
    let d = c.args.direction in
    let to : direction_to i.wiring (places.Host c.args.host) ≡ Some d = subst (λ (v : PastParts _). direction_to v.topology (places.Host c.args.host) ≡ Some d) (sym c.self.view_is) c.requires.to in
    let inside = (ends_at i.wiring (places.Host c.args.host) d to).there in
    subst (λ (h : HostFields). IsAwaited h c.in-Some.front) (sym (host_read i.hosts.items c.from.result c.args.host c.index_mut.result.now c.from.ensures there c.index_mut.ensures.value))
    (awaited old c.args.host d c.in-Some.front some there to (subst (IsFrontAt EndsHold i.ends d) c.in-Some.is c.front.ensures) unpoisoned)

pub returns : goal.returns
returns g c =
    let i = c.self.inside in
    let old : PastFields = record { topology = i.wiring; queues = i.queues; cubes = i.plain; slots = g.B.Workbench.slots i.bench; hosts = i.hosts.items; ends = i.ends; piped = i.piped; tally = i.tally; last = i.last } in
    let some = some_of g.B.Workbench.slots _ c.args.self.now (steps.Take c.args.host) c.self.view_is c.requires.next in
    let sized = some.is.holds.sized in
    let there : c.args.host < length i.hosts.items = omega (arith, some_there old (steps.Take c.args.host) some, sized.hosts) in
    let d = c.args.direction in
    let to : direction_to i.wiring (places.Host c.args.host) ≡ Some d = subst (λ (v : PastParts _). direction_to v.topology (places.Host c.args.host) ≡ Some d) (sym c.self.view_is) c.requires.to in
    let inside = (ends_at i.wiring (places.Host c.args.host) d to).there in
    let read = host_read i.hosts.items c.from.result c.args.host c.index_mut.result.now c.from.ensures there c.index_mut.ensures.value in
    let hosts : slice_set i.hosts.items c.from.result c.settle-settled.new.self ≡ with_host c.args.host (after_settle c.settle-settled.result) i.hosts.items =
    ap₂ (λ (n : ℕ) (h : HostFields). slice_set i.hosts.items n h) c.from.ensures (c.settle-settled.ensures.leaves ∙ ap (after_settle c.settle-settled.result) read) in
    of_parts g.B.Workbench.slots _ c.args.self.now _ (steps.Take c.args.host) c.self.view_is
    (take_takes old _ c.args.host d c.in-Some.front c.settle-settled.result c.take.new.self there to (subst (IsFrontAt EndsHold i.ends d) c.in-Some.is c.front.ensures) c.settle-settled.ensures.answer c.take.ensures
    (ap₂ (λ (l : List HostFields) (e : Entry). record old { hosts = l; ends = c.take.new.self; last = e }) hosts c.note_settled.ensures))

pub index_mut-requires : goal.index_mut-requires
index_mut-requires g c =
    let i = c.self.inside in
    let old : PastFields = record { topology = i.wiring; queues = i.queues; cubes = i.plain; slots = g.B.Workbench.slots i.bench; hosts = i.hosts.items; ends = i.ends; piped = i.piped; tally = i.tally; last = i.last } in
    let some = some_of g.B.Workbench.slots _ c.args.self.now (steps.Take c.args.host) c.self.view_is c.requires.next in
    let sized = some.is.holds.sized in
    let there = some_there old (steps.Take c.args.host) some in
    omega (arith, there, sized.hosts, c.from.ensures)

-- The host gives its next request.
use Rattle.std.proofs.Common.{◌≡◌, ◌<◌, ◌∙◌, List, ℕ, true, Some, None, length, sym, ap, ap₂, subst, arith}
use Rattle.std.specs.Prelude.{slice_set}
use Rattle.hmc_codes.specs.declared.place.Place.TheVariants as places
use Rattle.hmc_host.specs.Host.{HostFields}
use Rattle.hmc_host.specs.Give.{give_says, after_give, hindrance_of}
use Rattle.hmc_host.specs.declared.given.Given.{Given}
use Rattle.hmc_host.specs.declared.given.Given.TheVariants as givens
use Rattle.hmc_entries.specs.declared.entry.Entry.{Entry}
use Rattle.hmc_journal.specs.Setup.{direction_from}
use Rattle.hmc_kept.specs.Hosts.{with_host, host_in}
use Rattle.hmc_schedule.specs.declared.step.Step.TheVariants as steps
use Rattle.hmc_directions.specs.Ends.{EndsHold}
use Rattle.hmc_kept.specs.ByDirection.{HasRoom}
use Rattle.hmc_check.specs.Past.{PastFields, PastParts}
use Rattle.hmc_check.proofs.Holding.{of_parts, some_of}
use Rattle.hmc_check.proofs.Outgoing.{starts_in, give_may, give_takes, never_given}
use Rattle.hmc_check.proofs.Taking.{host_read}
use Rattle.hmc_check.proofs.Spreading.{some_there}
use Rattle.hmc_check.proofs.past.Past.give_next.Goals as goal

pub hand-requires-clause-there : goal.hand-requires-clause-there
hand-requires-clause-there g c =
    let i = c.self.inside in
    let old : PastFields = record { topology = i.wiring; queues = i.queues; cubes = i.plain; slots = g.B.Workbench.slots i.bench; hosts = i.hosts.items; ends = i.ends; piped = i.piped; tally = i.tally; last = i.last } in
    let some = some_of g.B.Workbench.slots _ c.args.self.now (steps.Give c.args.host) c.self.view_is c.requires.next in
    let there : c.args.host < length i.hosts.items = omega (arith, some_there old (steps.Give c.args.host) some, some.is.holds.sized.hosts) in
    let read : c.index_mut.result.now ≡ host_in i.hosts.items c.args.host = host_read i.hosts.items c.from.result c.args.host c.index_mut.result.now c.from.ensures there c.index_mut.ensures.value in
    let from : direction_from i.wiring (places.Host c.args.host) ≡ Some c.args.direction = subst (λ (v : PastParts _). direction_from v.topology (places.Host c.args.host) ≡ Some c.args.direction) (sym c.self.view_is) c.requires.from in
    let room : HasRoom EndsHold i.ends c.args.direction true = subst (λ (v : PastParts _). HasRoom EndsHold v.ends c.args.direction true) (sym c.self.view_is) c.requires.room in
    starts_in old (steps.Give c.args.host) (places.Host c.args.host) c.args.direction some from

pub hand-requires-clause-may : goal.hand-requires-clause-may
hand-requires-clause-may g c =
    let i = c.self.inside in
    let old : PastFields = record { topology = i.wiring; queues = i.queues; cubes = i.plain; slots = g.B.Workbench.slots i.bench; hosts = i.hosts.items; ends = i.ends; piped = i.piped; tally = i.tally; last = i.last } in
    let some = some_of g.B.Workbench.slots _ c.args.self.now (steps.Give c.args.host) c.self.view_is c.requires.next in
    let there : c.args.host < length i.hosts.items = omega (arith, some_there old (steps.Give c.args.host) some, some.is.holds.sized.hosts) in
    let read : c.index_mut.result.now ≡ host_in i.hosts.items c.args.host = host_read i.hosts.items c.from.result c.args.host c.index_mut.result.now c.from.ensures there c.index_mut.ensures.value in
    let from : direction_from i.wiring (places.Host c.args.host) ≡ Some c.args.direction = subst (λ (v : PastParts _). direction_from v.topology (places.Host c.args.host) ≡ Some c.args.direction) (sym c.self.view_is) c.requires.from in
    let room : HasRoom EndsHold i.ends c.args.direction true = subst (λ (v : PastParts _). HasRoom EndsHold v.ends c.args.direction true) (sym c.self.view_is) c.requires.room in
    let given : givens.Gave c.in-Gave.packet c.in-Gave.request c.in-Gave.tag c.in-Gave.poisoned ≡ give_says (host_in i.hosts.items c.args.host) true = sym c.in-Gave.is ∙ c.give.ensures.answer ∙ ap (λ (h : HostFields). give_says h true) read in
    give_may old (steps.Give c.args.host) c.args.host c.args.direction c.in-Gave.packet c.in-Gave.request c.in-Gave.tag c.in-Gave.poisoned some room c.invariant.ensures given

pub unreachable-requires : goal.unreachable-requires
unreachable-requires g c =
    let i = c.self.inside in
    let old : PastFields = record { topology = i.wiring; queues = i.queues; cubes = i.plain; slots = g.B.Workbench.slots i.bench; hosts = i.hosts.items; ends = i.ends; piped = i.piped; tally = i.tally; last = i.last } in
    let some = some_of g.B.Workbench.slots _ c.args.self.now (steps.Give c.args.host) c.self.view_is c.requires.next in
    let there : c.args.host < length i.hosts.items = omega (arith, some_there old (steps.Give c.args.host) some, some.is.holds.sized.hosts) in
    let read : c.index_mut.result.now ≡ host_in i.hosts.items c.args.host = host_read i.hosts.items c.from.result c.args.host c.index_mut.result.now c.from.ensures there c.index_mut.ensures.value in
    let none : hindrance_of (give_says (host_in i.hosts.items c.args.host) true) ≡ None = subst (λ (v : PastParts _). hindrance_of (give_says (host_in v.hosts c.args.host) true) ≡ None) (sym c.self.view_is) c.requires.none in
    let hindered : hindrance_of c.give.result ≡ None = ap hindrance_of (c.give.ensures.answer ∙ ap (λ (h : HostFields). give_says h true) read) ∙ none in
    never_given c.give.result c.in-Ended.is hindered

pub returns : goal.returns
returns g c =
    let i = c.self.inside in
    let old : PastFields = record { topology = i.wiring; queues = i.queues; cubes = i.plain; slots = g.B.Workbench.slots i.bench; hosts = i.hosts.items; ends = i.ends; piped = i.piped; tally = i.tally; last = i.last } in
    let some = some_of g.B.Workbench.slots _ c.args.self.now (steps.Give c.args.host) c.self.view_is c.requires.next in
    let there : c.args.host < length i.hosts.items = omega (arith, some_there old (steps.Give c.args.host) some, some.is.holds.sized.hosts) in
    let read : c.index_mut.result.now ≡ host_in i.hosts.items c.args.host = host_read i.hosts.items c.from.result c.args.host c.index_mut.result.now c.from.ensures there c.index_mut.ensures.value in
    let from : direction_from i.wiring (places.Host c.args.host) ≡ Some c.args.direction = subst (λ (v : PastParts _). direction_from v.topology (places.Host c.args.host) ≡ Some c.args.direction) (sym c.self.view_is) c.requires.from in
    let room : HasRoom EndsHold i.ends c.args.direction true = subst (λ (v : PastParts _). HasRoom EndsHold v.ends c.args.direction true) (sym c.self.view_is) c.requires.room in
    let given : givens.Gave c.in-Gave.packet c.in-Gave.request c.in-Gave.tag c.in-Gave.poisoned ≡ give_says (host_in i.hosts.items c.args.host) true = sym c.in-Gave.is ∙ c.give.ensures.answer ∙ ap (λ (h : HostFields). give_says h true) read in
    let hosts : slice_set i.hosts.items c.from.result c.give.new.self ≡ with_host c.args.host (after_give (givens.Gave c.in-Gave.packet c.in-Gave.request c.in-Gave.tag c.in-Gave.poisoned)) i.hosts.items =
    ap₂ (λ (n : ℕ) (h : HostFields). slice_set i.hosts.items n h) c.from.ensures (c.give.ensures.leaves ∙ ap₂ (λ (x : Given) (h : HostFields). after_give x h) c.in-Gave.is read) in
    of_parts g.B.Workbench.slots _ c.args.self.now _ (steps.Give c.args.host) c.self.view_is
    (give_takes old _ c.args.host c.args.direction c.in-Gave.packet c.in-Gave.request c.in-Gave.tag c.in-Gave.poisoned c.hand.new.self there from room c.invariant.ensures given c.hand.ensures
    (ap₂ (λ (l : List HostFields) (e : Entry). record old { hosts = l; ends = c.hand.new.self; last = e }) hosts c.gave.ensures))

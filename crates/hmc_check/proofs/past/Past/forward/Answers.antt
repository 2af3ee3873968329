-- The packet goes on.
use Rattle.std.proofs.Common.{◌∙◌, ℕ, [], ap, ap₂, sym, subst, arith}
use Rattle.std.specs.Prelude.{slice_index_or}
use Rattle.hmc_codes.specs.declared.place.Place.TheVariants as places
use Rattle.hmc_packet.specs.Head.{head_in}
use Rattle.hmc_send.specs.LinkCalls.{names_flits}
use Rattle.hmc_schedule.specs.declared.step.Step.TheVariants as steps
use Rattle.hmc_entries.specs.declared.entry.Entry.{Entry}
use Rattle.hmc_kept.specs.Pipes.{PipesHeld}
use Rattle.hmc_journal.proofs.DirectionEnds.{ends_at}
use Rattle.hmc_check.specs.Moving.{IsComing}
use Rattle.hmc_check.specs.Past.{PastFields, PastParts, past_of}
use Rattle.hmc_check.proofs.Forwarding.{going_on, some_going_on, may_begin, onto_there, forward_takes}
use Rattle.hmc_check.proofs.Holding.{of_parts, some_of}
use Rattle.hmc_check.proofs.past.Past.forward.Goals as goal

pub profile-profile-requires : goal.profile-profile-requires
profile-profile-requires g c =
    let i = c.self.inside in
    let old : PastFields = record { topology = i.wiring; queues = i.queues; cubes = i.plain; slots = g.B.Workbench.slots i.bench; hosts = i.hosts.items; ends = i.ends; piped = i.piped; tally = i.tally; last = i.last } in
    let step = steps.Through c.args.cube c.args.port in
    let some = some_of g.B.Workbench.slots _ c.args.self.now step c.self.view_is c.requires.next in
    let coming = subst (λ (p : PastParts _). IsComing (past_of g.B.Workbench.slots p) c.args.cube c.args.port c.args.from c.args.onto) (sym c.self.view_is) c.requires.coming in
    let at = ends_at old.topology (places.Port c.args.cube c.args.port) c.args.from coming.ends in
    at.there

pub gathered-requires-clause-there : goal.gathered-requires-clause-there
gathered-requires-clause-there g c =
    let i = c.self.inside in
    let old : PastFields = record { topology = i.wiring; queues = i.queues; cubes = i.plain; slots = g.B.Workbench.slots i.bench; hosts = i.hosts.items; ends = i.ends; piped = i.piped; tally = i.tally; last = i.last } in
    let step = steps.Through c.args.cube c.args.port in
    let some = some_of g.B.Workbench.slots _ c.args.self.now step c.self.view_is c.requires.next in
    let coming = subst (λ (p : PastParts _). IsComing (past_of g.B.Workbench.slots p) c.args.cube c.args.port c.args.from c.args.onto) (sym c.self.view_is) c.requires.coming in
    let at = ends_at old.topology (places.Port c.args.cube c.args.port) c.args.from coming.ends in
    omega (arith, at.there, some.is.holds.sized.ends)

pub unreachable-requires : goal.unreachable-requires
unreachable-requires g c =
    let i = c.self.inside in
    let old : PastFields = record { topology = i.wiring; queues = i.queues; cubes = i.plain; slots = g.B.Workbench.slots i.bench; hosts = i.hosts.items; ends = i.ends; piped = i.piped; tally = i.tally; last = i.last } in
    let step = steps.Through c.args.cube c.args.port in
    let some = some_of g.B.Workbench.slots _ c.args.self.now step c.self.view_is c.requires.next in
    let coming = subst (λ (p : PastParts _). IsComing (past_of g.B.Workbench.slots p) c.args.cube c.args.port c.args.from c.args.onto) (sym c.self.view_is) c.requires.coming in
    some_going_on old step c.args.cube c.args.port c.args.from c.args.onto some coming (λ rows entries hold. c.in_default.ensures rows entries hold)

pub pipe_of-pipe-requires-clause-some : goal.pipe_of-pipe-requires-clause-some
pipe_of-pipe-requires-clause-some g c =
    let i = c.self.inside in
    let old : PastFields = record { topology = i.wiring; queues = i.queues; cubes = i.plain; slots = g.B.Workbench.slots i.bench; hosts = i.hosts.items; ends = i.ends; piped = i.piped; tally = i.tally; last = i.last } in
    let step = steps.Through c.args.cube c.args.port in
    let some = some_of g.B.Workbench.slots _ c.args.self.now step c.self.view_is c.requires.next in
    let coming = subst (λ (p : PastParts _). IsComing (past_of g.B.Workbench.slots p) c.args.cube c.args.port c.args.from c.args.onto) (sym c.self.view_is) c.requires.coming in
    let goes = going_on old step c.args.cube c.args.port c.args.from c.args.onto c.in-Some.flits.now some coming (λ rows entries hold. c.in-Some.ensures rows entries hold) in
    goes.some

pub pipe_of-pipe-requires-clause-more : goal.pipe_of-pipe-requires-clause-more
pipe_of-pipe-requires-clause-more g c =
    let i = c.self.inside in
    let old : PastFields = record { topology = i.wiring; queues = i.queues; cubes = i.plain; slots = g.B.Workbench.slots i.bench; hosts = i.hosts.items; ends = i.ends; piped = i.piped; tally = i.tally; last = i.last } in
    let step = steps.Through c.args.cube c.args.port in
    let some = some_of g.B.Workbench.slots _ c.args.self.now step c.self.view_is c.requires.next in
    let coming = subst (λ (p : PastParts _). IsComing (past_of g.B.Workbench.slots p) c.args.cube c.args.port c.args.from c.args.onto) (sym c.self.view_is) c.requires.coming in
    let goes = going_on old step c.args.cube c.args.port c.args.from c.args.onto c.in-Some.flits.now some coming (λ rows entries hold. c.in-Some.ensures rows entries hold) in
    goes.more

pub pipe_of-pipe-requires-clause-few : goal.pipe_of-pipe-requires-clause-few
pipe_of-pipe-requires-clause-few g c =
    let i = c.self.inside in
    let old : PastFields = record { topology = i.wiring; queues = i.queues; cubes = i.plain; slots = g.B.Workbench.slots i.bench; hosts = i.hosts.items; ends = i.ends; piped = i.piped; tally = i.tally; last = i.last } in
    let step = steps.Through c.args.cube c.args.port in
    let some = some_of g.B.Workbench.slots _ c.args.self.now step c.self.view_is c.requires.next in
    let coming = subst (λ (p : PastParts _). IsComing (past_of g.B.Workbench.slots p) c.args.cube c.args.port c.args.from c.args.onto) (sym c.self.view_is) c.requires.coming in
    let goes = going_on old step c.args.cube c.args.port c.args.from c.args.onto c.in-Some.flits.now some coming (λ rows entries hold. c.in-Some.ensures rows entries hold) in
    goes.few

pub begin_through-requires-clause-there : goal.begin_through-requires-clause-there
begin_through-requires-clause-there g c =
    let i = c.self.inside in
    let old : PastFields = record { topology = i.wiring; queues = i.queues; cubes = i.plain; slots = g.B.Workbench.slots i.bench; hosts = i.hosts.items; ends = i.ends; piped = i.piped; tally = i.tally; last = i.last } in
    let step = steps.Through c.args.cube c.args.port in
    let some = some_of g.B.Workbench.slots _ c.args.self.now step c.self.view_is c.requires.next in
    let coming = subst (λ (p : PastParts _). IsComing (past_of g.B.Workbench.slots p) c.args.cube c.args.port c.args.from c.args.onto) (sym c.self.view_is) c.requires.coming in
    let there = onto_there old c.args.cube c.args.port c.args.onto coming.head coming.goes in
    omega (arith, there, some.is.holds.sized.ends)

pub begin_through-requires-clause-may : goal.begin_through-requires-clause-may
begin_through-requires-clause-may g c =
    let i = c.self.inside in
    let old : PastFields = record { topology = i.wiring; queues = i.queues; cubes = i.plain; slots = g.B.Workbench.slots i.bench; hosts = i.hosts.items; ends = i.ends; piped = i.piped; tally = i.tally; last = i.last } in
    let step = steps.Through c.args.cube c.args.port in
    let some = some_of g.B.Workbench.slots _ c.args.self.now step c.self.view_is c.requires.next in
    let coming = subst (λ (p : PastParts _). IsComing (past_of g.B.Workbench.slots p) c.args.cube c.args.port c.args.from c.args.onto) (sym c.self.view_is) c.requires.coming in
    let goes = going_on old step c.args.cube c.args.port c.args.from c.args.onto c.in-Some.flits.now some coming (λ rows entries hold. c.in-Some.ensures rows entries hold) in
    may_begin old step c.args.from c.args.onto c.lng_of.result c.in-Some.flits.now some goes c.lng_of.ensures

pub begin_through-requires-clause-named : goal.begin_through-requires-clause-named
begin_through-requires-clause-named g c =
    let i = c.self.inside in
    let old : PastFields = record { topology = i.wiring; queues = i.queues; cubes = i.plain; slots = g.B.Workbench.slots i.bench; hosts = i.hosts.items; ends = i.ends; piped = i.piped; tally = i.tally; last = i.last } in
    let step = steps.Through c.args.cube c.args.port in
    let some = some_of g.B.Workbench.slots _ c.args.self.now step c.self.view_is c.requires.next in
    let coming = subst (λ (p : PastParts _). IsComing (past_of g.B.Workbench.slots p) c.args.cube c.args.port c.args.from c.args.onto) (sym c.self.view_is) c.requires.coming in
    let goes = going_on old step c.args.cube c.args.port c.args.from c.args.onto c.in-Some.flits.now some coming (λ rows entries hold. c.in-Some.ensures rows entries hold) in
    ap (λ (n : ℕ). names_flits n (head_in (slice_index_or c.in-Some.flits.now 0 []))) c.lng_of.ensures ∙ goes.named

pub begin-requires-clause-from : goal.begin-requires-clause-from
begin-requires-clause-from g c =
    let i = c.self.inside in
    let old : PastFields = record { topology = i.wiring; queues = i.queues; cubes = i.plain; slots = g.B.Workbench.slots i.bench; hosts = i.hosts.items; ends = i.ends; piped = i.piped; tally = i.tally; last = i.last } in
    let step = steps.Through c.args.cube c.args.port in
    let some = some_of g.B.Workbench.slots _ c.args.self.now step c.self.view_is c.requires.next in
    let coming = subst (λ (p : PastParts _). IsComing (past_of g.B.Workbench.slots p) c.args.cube c.args.port c.args.from c.args.onto) (sym c.self.view_is) c.requires.coming in
    let at = ends_at old.topology (places.Port c.args.cube c.args.port) c.args.from coming.ends in
    omega (arith, at.there, some.is.holds.sized.piped.forwarded)

pub begin-requires-clause-onto : goal.begin-requires-clause-onto
begin-requires-clause-onto g c =
    let i = c.self.inside in
    let old : PastFields = record { topology = i.wiring; queues = i.queues; cubes = i.plain; slots = g.B.Workbench.slots i.bench; hosts = i.hosts.items; ends = i.ends; piped = i.piped; tally = i.tally; last = i.last } in
    let step = steps.Through c.args.cube c.args.port in
    let some = some_of g.B.Workbench.slots _ c.args.self.now step c.self.view_is c.requires.next in
    let coming = subst (λ (p : PastParts _). IsComing (past_of g.B.Workbench.slots p) c.args.cube c.args.port c.args.from c.args.onto) (sym c.self.view_is) c.requires.coming in
    let there = onto_there old c.args.cube c.args.port c.args.onto coming.head coming.goes in
    omega (arith, there, some.is.holds.sized.piped.pipes)

pub returns : goal.returns
returns g c =
    let i = c.self.inside in
    let old : PastFields = record { topology = i.wiring; queues = i.queues; cubes = i.plain; slots = g.B.Workbench.slots i.bench; hosts = i.hosts.items; ends = i.ends; piped = i.piped; tally = i.tally; last = i.last } in
    let step = steps.Through c.args.cube c.args.port in
    let some = some_of g.B.Workbench.slots _ c.args.self.now step c.self.view_is c.requires.next in
    let coming = subst (λ (p : PastParts _). IsComing (past_of g.B.Workbench.slots p) c.args.cube c.args.port c.args.from c.args.onto) (sym c.self.view_is) c.requires.coming in
    let goes = going_on old step c.args.cube c.args.port c.args.from c.args.onto c.in-Some.flits.now some coming (λ rows entries hold. c.in-Some.ensures rows entries hold) in
    of_parts g.B.Workbench.slots _ c.args.self.now _ step c.self.view_is
    (forward_takes old _ c.args.cube c.args.port c.args.from c.args.onto c.lng_of.result c.in-Some.flits.now c.profile-profile.result c.pipe_of-pipe.result c.begin_through.new.self coming goes c.profile-profile.ensures c.pipe_of-pipe.ensures c.lng_of.ensures c.begin_through.ensures
    (ap₂ (λ (h : PipesHeld) (e : Entry). record old { ends = c.begin_through.new.self; piped = h; last = e }) c.begin.ensures c.through.ensures))

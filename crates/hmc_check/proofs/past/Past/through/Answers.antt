-- A packet goes on, or does not for the first cause that there is.
use Rattle.std.proofs.Common.{◌∙◌, ap, ap₂, sym, subst, arith}
use Rattle.hmc_codes.specs.declared.place.Place.TheVariants as places
use Rattle.hmc_schedule.specs.declared.step.Step.TheVariants as steps
use Rattle.hmc_entries.specs.declared.entry.Entry.{Entry}
use Rattle.hmc_journal.specs.Setup.{direction_to}
use Rattle.hmc_kept.specs.Throughs.{IsOnto}
use Rattle.hmc_check.specs.Moving.{IsHeadAt, IsFree}
use Rattle.hmc_check.specs.Past.{PastParts, past_of}
use Rattle.hmc_check.proofs.Forwarding.{nothing_gathered, no_way_on, busy_now, onto_there}
use Rattle.hmc_check.proofs.Spreading.{some_there}
use Rattle.hmc_check.proofs.past.Past.through.Goals as goal

pub returns-in_default : goal.returns-in_default
returns-in_default g c =
    let p = past_of g.B.Workbench.slots c.args.self.now in
    let ends = ap (λ (q : PastParts _). direction_to q.topology (places.Port c.args.cube c.args.port)) (sym c.self.view_is) ∙ c.to_port-from.ensures.to in
    nothing_gathered p _ c.args.cube c.args.port c.to_port-from.result ends
    (subst (IsHeadAt p c.to_port-from.result) c.in_default.is c.gathered_head.ensures)
    (ap₂ (λ (q : PastParts _) (e : Entry). record (past_of g.B.Workbench.slots q) { last = e }) c.self.view_is c.idle.ensures)

pub way_on-requires : goal.way_on-requires
way_on-requires g c =
    let p = past_of g.B.Workbench.slots c.args.self.now in
    (some_there p (steps.Through c.args.cube c.args.port) c.requires).some_cube

pub returns-in_default-way_on : goal.returns-in_default-way_on
returns-in_default-way_on g c =
    let p = past_of g.B.Workbench.slots c.args.self.now in
    let ends = ap (λ (q : PastParts _). direction_to q.topology (places.Port c.args.cube c.args.port)) (sym c.self.view_is) ∙ c.to_port-from.ensures.to in
    no_way_on p _ c.args.cube c.args.port c.to_port-from.result c.in-Some.head ends
    (subst (IsHeadAt p c.to_port-from.result) c.in-Some.is c.gathered_head.ensures)
    (subst (IsOnto p.topology c.args.cube c.args.port c.in-Some.head) c.in_default-way_on.is c.way_on.ensures)
    (ap₂ (λ (q : PastParts _) (e : Entry). record (past_of g.B.Workbench.slots q) { last = e }) c.self.view_is c.idle-in_default-way_on.ensures)

pub may_forward-requires-clause-onto : goal.may_forward-requires-clause-onto
may_forward-requires-clause-onto g c =
    let p = past_of g.B.Workbench.slots c.args.self.now in
    let there = onto_there p c.args.cube c.args.port c.in-Some-way_on.onto c.in-Some.head (subst (IsOnto p.topology c.args.cube c.args.port c.in-Some.head) c.in-Some-way_on.is c.way_on.ensures) in
    omega (arith, there, c.requires.is.holds.sized.ends)

pub returns-then-not-may_forward : goal.returns-then-not-may_forward
returns-then-not-may_forward g c =
    let p = past_of g.B.Workbench.slots c.args.self.now in
    let ends = ap (λ (q : PastParts _). direction_to q.topology (places.Port c.args.cube c.args.port)) (sym c.self.view_is) ∙ c.to_port-from.ensures.to in
    busy_now p _ c.args.cube c.args.port c.to_port-from.result c.in-Some-way_on.onto c.in-Some.head ends
    (subst (IsHeadAt p c.to_port-from.result) c.in-Some.is c.gathered_head.ensures)
    (subst (IsOnto p.topology c.args.cube c.args.port c.in-Some.head) c.in-Some-way_on.is c.way_on.ensures)
    (subst (IsFree p c.to_port-from.result c.in-Some-way_on.onto c.in-Some.head.flits) c.if-not-may_forward.true c.may_forward.ensures)
    (ap₂ (λ (q : PastParts _) (e : Entry). record (past_of g.B.Workbench.slots q) { last = e }) c.self.view_is c.idle-then-not-may_forward.ensures)

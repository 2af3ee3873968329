-- By the place of the first slot that serves, or by none.
use Rattle.std.proofs.Common.{rules, ◌≡◌, ◌∙◌, sym, ap, None}
use Rattle.std.proofs.lemmas.List.Quantifiers.{position-Some}
use Rattle.hmc_units.specs.Bench.{serves, acted_in, worked_slot}
use Rattle.hmc_units.specs.Slot.{unit_in}
use Rattle.hmc_units.specs.Slots.{units_in}
use Rattle.hmc_units.proofs.WorkLemmas.{none_serves_at, unchanged_by_none, found, found_worked, none_acted, none_worked}
use Rattle.hmc_units.proofs.slots.SlotsWorkbench.work.Goals as goal

pub returns-in_err-place-clause-acted : goal.returns-in_err-place-clause-acted
returns-in_err-place-clause-acted g c =
    let gone : c.from_residual.result ≡ None = search rules in
    gone ∙ sym (none_acted (unit_in g.U.LogicUnit.meaning) c.args.cube c.args.code c.args.block c.args.operand c.args.self.now.slots.items (sym c.place_of.ensures ∙ c.in_err-place.was))

pub returns-in_err-place-clause-slots : goal.returns-in_err-place-clause-slots
returns-in_err-place-clause-slots g c =
    none_worked (unit_in g.U.LogicUnit.meaning) c.args.cube c.args.code c.args.block c.args.operand c.args.self.now.slots.items (sym c.place_of.ensures ∙ c.in_err-place.was)

pub returns-in_err-place-clause-none : goal.returns-in_err-place-clause-none
returns-in_err-place-clause-none g c =
    none_serves_at c.args.cube c.args.code c.args.block c.args.operand (units_in g.U.LogicUnit.meaning c.args.self.now) c.from_residual.result (returns-in_err-place-clause-acted g c)

pub returns-clause-acted : goal.returns-clause-acted
returns-clause-acted g c =
    let at = position-Some (λ slot. serves c.args.cube c.args.code (unit_in g.U.LogicUnit.meaning slot)) c.args.self.now.slots.items c.in_ok-place.place c.index_mut.result.now (sym c.place_of.ensures ∙ c.in_ok-place.was) in
    c.work.ensures.acted
    ∙ ap (λ slot. acted_in (unit_in g.U.LogicUnit.meaning slot) c.args.block c.args.operand) c.index_mut.ensures.value
    ∙ sym (found (unit_in g.U.LogicUnit.meaning) c.args.cube c.args.code c.args.block c.args.operand c.args.self.now.slots.items c.in_ok-place.place c.index_mut.result.now at.0 at.1 at.2)

pub returns-clause-slots : goal.returns-clause-slots
returns-clause-slots g c =
    let at = position-Some (λ slot. serves c.args.cube c.args.code (unit_in g.U.LogicUnit.meaning slot)) c.args.self.now.slots.items c.in_ok-place.place c.index_mut.result.now (sym c.place_of.ensures ∙ c.in_ok-place.was) in
    found_worked (unit_in g.U.LogicUnit.meaning) c.args.cube c.args.code c.args.block c.args.operand c.args.self.now.slots.items c.in_ok-place.place c.index_mut.result.now c.work.new.self at.0 at.1 at.2
    (c.work.ensures.unit ∙ ap (λ slot. worked_slot (unit_in g.U.LogicUnit.meaning slot) c.args.block c.args.operand) c.index_mut.ensures.value)

pub returns-clause-none : goal.returns-clause-none
returns-clause-none g c =
    none_serves_at c.args.cube c.args.code c.args.block c.args.operand (units_in g.U.LogicUnit.meaning c.args.self.now) c.work.result (returns-clause-acted g c)

pub returns-clause-unchanged : goal.returns-clause-unchanged
returns-clause-unchanged g c =
    unchanged_by_none c.args.cube c.args.code c.args.block c.args.operand (units_in g.U.LogicUnit.meaning c.args.self.now) _ c.work.result (returns-clause-acted g c) (returns-clause-slots g c)

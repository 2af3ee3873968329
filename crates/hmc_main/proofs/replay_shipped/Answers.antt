-- The units are in their slots.
use Rattle.std.proofs.Common.{◌∙◌, refl, ap, string_bytes}
use Rattle.std.specs.Prelude.{map}
use denote.Param.Object.{read_made}
use Rattle.hmc_units.specs.Unit.{UnitFields}
use Rattle.hmc_units.specs.Shipped.{reverse_unit, stamp_unit}
use Rattle.hmc_main.proofs.ShippedUnits.{shipped, shipped_completes}
use Rattle.hmc_main.proofs.replay_shipped.OwnLists.{own-1, at-1-1, at-1-2}
use Rattle.hmc_main.proofs.replay_shipped.Goals as goal

pub returns-clause-replayed : goal.returns-clause-replayed
returns-clause-replayed g c =
    let first = read_made own-1 (own-1.entry at-1-1) at-1-1 refl UnitFields (λ j w. j.1.meaning w) _ _ c.in_ok-new.field-0.value c.into_dyn_box.ensures.1 in
    let second = read_made own-1 (own-1.entry at-1-2) at-1-2 refl UnitFields (λ j w. j.1.meaning w) _ _ c.in_ok-new-2.field-0.value c.into_dyn_box-in_ok-new-2.ensures.1 in
    shipped _ _ _ _ _ _ _ _ _ _ _ _ _ _ c.replay.ensures.replayed c.in_ok-push-2.ensures.items c.in_ok-push.ensures.items c.new-units.ensures.items
    (first ∙ ap (λ r. reverse_unit r.cube r.code) c.in_ok-new.ensures.ok ∙ c.new.ensures) (second ∙ ap (λ r. stamp_unit r.cube r.code r.count) c.in_ok-new-2.ensures.ok ∙ c.new-3.ensures)

pub returns-clause-complete : goal.returns-clause-complete
returns-clause-complete g c =
    let first = read_made own-1 (own-1.entry at-1-1) at-1-1 refl UnitFields (λ j w. j.1.meaning w) _ _ c.in_ok-new.field-0.value c.into_dyn_box.ensures.1 in
    let second = read_made own-1 (own-1.entry at-1-2) at-1-2 refl UnitFields (λ j w. j.1.meaning w) _ _ c.in_ok-new-2.field-0.value c.into_dyn_box-in_ok-new-2.ensures.1 in
    shipped_completes _ (map string_bytes c.args.words.now) _ _ _ _ _ _ _ c.replay.ensures.complete c.in_ok-push-2.ensures.items c.in_ok-push.ensures.items c.new-units.ensures.items
    (first ∙ ap (λ r. reverse_unit r.cube r.code) c.in_ok-new.ensures.ok ∙ c.new.ensures) (second ∙ ap (λ r. stamp_unit r.cube r.code r.count) c.in_ok-new-2.ensures.ok ∙ c.new-3.ensures)

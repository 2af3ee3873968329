-- The slot is replaced by one that is empty.
use Rattle.std.proofs.Common.{rules, ◌≡◌, ◌∙◌, set}
use Rattle.std.specs.Prelude.{map}
use Rattle.std.proofs.lemmas.List.{map-set}
use Rattle.hmc_units.specs.Slot.{unit_in}
use Rattle.hmc_units.proofs.slots.SlotsWorkbench.retire.Goals as goal

pub returns-clause-slots : goal.returns-clause-slots
returns-clause-slots g c =
    let place : c.from-place.result ≡ c.args.slot = search rules in
    map-set (unit_in g.U.LogicUnit.meaning) c.args.self.now.slots.items c.from-place.result c.retire.new.self
    ∙ (λ i. set (map (unit_in g.U.LogicUnit.meaning) c.args.self.now.slots.items) (place i) (c.retire.ensures.empty i))

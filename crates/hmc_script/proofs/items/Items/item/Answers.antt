use Rattle.std.proofs.Common.{◌∙◌, sym, ap, Some}
use Rattle.hmc_script.proofs.StoredLemmas.{item_at, item_rule}
use Rattle.hmc_script.proofs.items.Items.item.Goals as goal

pub item_of-requires-clause-request : goal.item_of-requires-clause-request
item_of-requires-clause-request c =
    (item_rule c.self.inside.bytes.items c.self.inside.shorts.items c.args.self.now c.args.at _ c.self.invariant c.self.view_is (item_at c.self.inside.bytes.items c.deref.result.now c.self.inside.shorts.items c.args.self.now c.args.at c.index.result.now c.self.view_is c.requires c.index.ensures c.deref.ensures.value)).1

pub returns-clause-item : goal.returns-clause-item
returns-clause-item c =
    (item_at c.self.inside.bytes.items c.deref.result.now c.self.inside.shorts.items c.args.self.now c.args.at c.index.result.now c.self.view_is c.requires c.index.ensures c.deref.ensures.value) ∙ ap Some (sym c.item_of.ensures)

pub returns-clause-host : goal.returns-clause-host
returns-clause-host c =
    rw c.item_of.ensures (item_rule c.self.inside.bytes.items c.self.inside.shorts.items c.args.self.now c.args.at _ c.self.invariant c.self.view_is (item_at c.self.inside.bytes.items c.deref.result.now c.self.inside.shorts.items c.args.self.now c.args.at c.index.result.now c.self.view_is c.requires c.index.ensures c.deref.ensures.value)).0

use Rattle.std.proofs.Common.{refl}
use Rattle.hmc_script.proofs.StoredLemmas.{item_at, item_rule}
use Rattle.hmc_script.proofs.OwnLemmas.{one_more, another, has_room}
use Rattle.hmc_script.proofs.items.Items.append_own.Goals as goal

pub returns-then-short-host : goal.returns-then-short-host
returns-then-short-host c =
    another c.args.host c.args.at c.args.self.now c.args.own.now c.args.own.now _ c.requires.earlier (item_at c.self.inside.bytes.items c.self.inside.bytes.items c.self.inside.shorts.items c.args.self.now c.args.at c.index-short.result.now c.self.view_is c.requires.at c.index-short.ensures refl) c.if-short-host.true refl

pub push-requires-clause-room : goal.push-requires-clause-room
push-requires-clause-room c = has_room c.args.host c.args.self.now c.args.at _ c.requires.earlier c.requires.at c.requires.few

pub push-requires-clause-host : goal.push-requires-clause-host
push-requires-clause-host c =
    (item_rule c.self.inside.bytes.items c.self.inside.shorts.items c.args.self.now c.args.at _ c.self.invariant c.self.view_is (item_at c.self.inside.bytes.items c.deref.result.now c.self.inside.shorts.items c.args.self.now c.args.at c.index-short.result.now c.self.view_is c.requires.at c.index-short.ensures c.deref.ensures.value)).0

pub push-requires-clause-request : goal.push-requires-clause-request
push-requires-clause-request c =
    rw c.payload_bytes.ensures (item_rule c.self.inside.bytes.items c.self.inside.shorts.items c.args.self.now c.args.at _ c.self.invariant c.self.view_is (item_at c.self.inside.bytes.items c.deref.result.now c.self.inside.shorts.items c.args.self.now c.args.at c.index-short.result.now c.self.view_is c.requires.at c.index-short.ensures c.deref.ensures.value)).1

pub returns : goal.returns
returns c =
    one_more c.args.host c.args.at c.args.self.now c.args.own.now _ _ c.requires.earlier (item_at c.self.inside.bytes.items c.deref.result.now c.self.inside.shorts.items c.args.self.now c.args.at c.index-short.result.now c.self.view_is c.requires.at c.index-short.ensures c.deref.ensures.value) c.if-short-host.false (rw (← c.payload_bytes.ensures) c.in_ok-push.ensures.ok)

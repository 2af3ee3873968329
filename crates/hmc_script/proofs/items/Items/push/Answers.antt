use Rattle.std.proofs.Common.{◌∙◌, refl, rules}
use Rattle.hmc_script.proofs.StoredLemmas.{without_item, with_item}
use Rattle.hmc_script.proofs.items.Items.push.Goals as goal

pub invariant_of-self-in_err-push : goal.invariant_of-self-in_err-push
invariant_of-self-in_err-push c =
    (without_item c.self.inside.bytes.items c.extend_from_slice.new.self.items c.args.payload.now c.self.inside.shorts.items c.push.new.self.items c.self.invariant c.in_ok-extend_from_slice.ensures.items c.in_err-push.ensures.items).0

pub returns-in_err-push-clause-err : goal.returns-in_err-push-clause-err
returns-in_err-push-clause-err c =
    let same = (without_item c.self.inside.bytes.items c.extend_from_slice.new.self.items c.args.payload.now c.self.inside.shorts.items c.push.new.self.items c.self.invariant c.in_ok-extend_from_slice.ensures.items c.in_err-push.ensures.items).1 ∙ c.self.view_is in
    search (rules, same)

pub invariant_of-self-2 : goal.invariant_of-self-2
invariant_of-self-2 c =
    (with_item c.self.inside.bytes.items c.extend_from_slice.new.self.items c.args.payload.now c.self.inside.shorts.items c.push.new.self.items _ _ c.self.invariant c.in_ok-extend_from_slice.ensures.items c.in_ok-push.ensures.items (c.len-start.ensures ∙ c.self.inside.bytes.ok.0) c.requires.request refl c.requires.host (rw c.self.view_is c.requires.room)).0

pub returns-clause-ok : goal.returns-clause-ok
returns-clause-ok c =
    let items = (with_item c.self.inside.bytes.items c.extend_from_slice.new.self.items c.args.payload.now c.self.inside.shorts.items c.push.new.self.items _ _ c.self.invariant c.in_ok-extend_from_slice.ensures.items c.in_ok-push.ensures.items (c.len-start.ensures ∙ c.self.inside.bytes.ok.0) c.requires.request refl c.requires.host (rw c.self.view_is c.requires.room)).1 in
    rw (← c.self.view_is) items

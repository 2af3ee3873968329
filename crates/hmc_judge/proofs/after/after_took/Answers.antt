use Rattle.std.proofs.Common.{◌∙◌, ◌++◌, [], map, length, sym, ap}
use Rattle.hmc_search.specs.Alone.{alone}
use Rattle.hmc_search.specs.Kept.{takes}
use Rattle.hmc_search.specs.Point.{Point}
use Rattle.hmc_judge.proofs.Lists.{to_gather, none_gathered, one_gathered, all_gathered, at_any}
use Rattle.hmc_judge.proofs.after.after_took.Goals as goal

pub holders-init : goal.holders-init
holders-init g c =
    let f = (λ (q : Point). takes (alone c.args.shapes.now) c.args.host c.args.tag c.args.answer.now (length q.waiting) q) in
    ap (λ l. to_gather f g.P.Holder.point (map g.P.Holder.point l) c.args.holders.now 0) c.new-after.ensures.items
    ∙ none_gathered f g.P.Holder.point [] c.args.holders.now

pub holders-preserved : goal.holders-preserved
holders-preserved g c =
    let f = (λ (q : Point). takes (alone c.args.shapes.now) c.args.host c.args.tag c.args.answer.now (length q.waiting) q) in
    let after = map g.P.Holder.point c.holders.after.items in
    let x = c.index-holders-at.result in
    let holders = c.args.holders.now in
    let at = c.holders.at in
    let point = g.P.Holder.point in
    let y = c.index-holders-at-in-holders.result in
    one_gathered f point after (map point c.takes.new.into.items) holders at x c.holders-test.true
    (c.in_ok-takes.ensures
    ∙ ap (λ l. after ++ takes (alone c.args.shapes.now) c.args.host c.args.tag c.args.answer.now (length l) (point y)) c.waiting-most.ensures
    ∙ ap (λ q. after ++ takes (alone c.args.shapes.now) c.args.host c.args.tag c.args.answer.now (length (point x).waiting) (point q))
    (c.index-holders-at-in-holders.is ∙ at_any holders at y x c.holders-test.true ∙ sym c.index-holders-at.is)
    ∙ ap (λ q. after ++ takes (alone c.args.shapes.now) c.args.host c.args.tag c.args.answer.now (length (point q).waiting) (point q)) c.index-holders-at.is)
    ∙ c.holders.invariant

pub returns : goal.returns
returns g c =
    let f = (λ (q : Point). takes (alone c.args.shapes.now) c.args.host c.args.tag c.args.answer.now (length q.waiting) q) in
    sym (all_gathered f g.P.Holder.point (map g.P.Holder.point c.holders.after.items) c.args.holders.now c.holders.at c.holders-test.false)
    ∙ c.holders.invariant

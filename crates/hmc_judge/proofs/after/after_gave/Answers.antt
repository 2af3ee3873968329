use Rattle.std.proofs.Common.{◌∙◌, ◌++◌, ◌∷◌, [], map, sym, ap}
use Rattle.std.proofs.lemmas.List.{map-append}
use Rattle.hmc_search.specs.Point.{given, Point}
use Rattle.hmc_judge.proofs.Lists.{to_gather, none_gathered, one_gathered, all_gathered, given_gathered}
use Rattle.hmc_judge.proofs.after.after_gave.Goals as goal

pub holders-init : goal.holders-init
holders-init g c =
    let f = (λ (q : Point). given q c.args.waiting.now ∷ []) in
    ap (λ l. to_gather f g.P.Holder.point (map g.P.Holder.point l) c.args.holders.now 0) c.new-after.ensures.items
    ∙ none_gathered f g.P.Holder.point [] c.args.holders.now

pub holders-preserved : goal.holders-preserved
holders-preserved g c =
    let f = (λ (q : Point). given q c.args.waiting.now ∷ []) in
    let after = map g.P.Holder.point c.holders.after.items in
    let x = c.index-holders-at.result in
    let holders = c.args.holders.now in
    let at = c.holders.at in
    let point = g.P.Holder.point in
    one_gathered f point after (map point c.push.new.self.items) holders at x c.holders-test.true
    (ap (map point) c.in_ok-push.ensures.items
    ∙ map-append point c.holders.after.items (c.in_ok-given.given ∷ [])
    ∙ ap (λ q. after ++ q ∷ []) c.in_ok-given.ensures
    ∙ ap (λ q. after ++ given (point q) c.args.waiting.now ∷ []) c.index-holders-at.is)
    ∙ c.holders.invariant

pub returns : goal.returns
returns g c =
    let f = (λ (q : Point). given q c.args.waiting.now ∷ []) in
    sym (all_gathered f g.P.Holder.point (map g.P.Holder.point c.holders.after.items) c.args.holders.now c.holders.at c.holders-test.false)
    ∙ c.holders.invariant ∙ given_gathered c.args.waiting.now (map g.P.Holder.point c.args.holders.now)

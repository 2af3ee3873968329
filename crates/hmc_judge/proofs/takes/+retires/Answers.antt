use Rattle.std.proofs.Common.{◌≡◌, ◌∙◌, ◌-◌, ◌++◌, ◌∷◌, [], suc, map, sym, ap, arith}
use Rattle.std.proofs.lemmas.List.{map-append, append_assoc}
use Rattle.hmc_search.specs.Alone.{alone}
use Rattle.hmc_search.specs.Kept.{retires, gathered}
use Rattle.hmc_search.specs.Point.{Point}
use Rattle.hmc_judge.specs.Steps.{nexts}
use Rattle.hmc_judge.proofs.Lists.{none_gathered, one_gathered, all_gathered, retires_on, retires_none}
use Rattle.hmc_judge.proofs.takes.+retires.Goals as goal

pub returns-then-most-eq0 : goal.returns-then-most-eq0
returns-then-most-eq0 g t c =
    let p = g.P.Holder.point c.args.holder.now in
    let into = map g.P.Holder.point c.args.into.now.items in
    ap (map g.P.Holder.point) c.in_ok-push.ensures.items
    ∙ map-append g.P.Holder.point c.args.into.now.items (c.in_ok-retired.retired ∷ [])
    ∙ ap (λ q. into ++ q ∷ []) c.in_ok-retired.ensures
    ∙ ap (λ l. into ++ l) (sym (retires_none (alone c.args.shapes.now) c.args.slot p))
    ∙ ap (λ n. into ++ retires (alone c.args.shapes.now) c.args.slot n p) (sym c.if-most-eq0.true)

pub holders-init : goal.holders-init
holders-init g t c = none_gathered (λ p. retires (alone c.args.shapes.now) c.args.slot (c.args.most - 1) p) g.P.Holder.point (map g.P.Holder.point c.push.new.self.items) c.in_ok-holders.holders.items

pub holders-preserved : goal.holders-preserved
holders-preserved g t c =
    let into = map g.P.Holder.point c.holders.into.items in
    one_gathered (λ p. retires (alone c.args.shapes.now) c.args.slot (c.args.most - 1) p) g.P.Holder.point
    into (map g.P.Holder.point c.retires.new.into.items) c.in_ok-holders.holders.items c.holders.at c.index.result.now
    (omega (arith, c.holders-test.true, c.len-at-end.ensures))
    (c.in_ok-retires.ensures
    ∙ ap (λ q. into ++ retires (alone c.args.shapes.now) c.args.slot (c.args.most - 1) (g.P.Holder.point q)) c.index.ensures)
    ∙ c.holders.invariant

pub returns : goal.returns
returns g t c =
    let topology = alone c.args.shapes.now in
    let p = g.P.Holder.point c.args.holder.now in
    let into = map g.P.Holder.point c.args.into.now.items in
    let f = λ (q : Point). retires topology c.args.slot (c.args.most - 1) q in
    let more : suc (c.args.most - 1) ≡ c.args.most = omega (arith, c.if-most-eq0.false) in
    sym (all_gathered f g.P.Holder.point (map g.P.Holder.point c.holders.into.items) c.in_ok-holders.holders.items c.holders.at
    (omega (arith, c.holders-test.false, c.len-at-end.ensures)))
    ∙ c.holders.invariant
    ∙ ap (λ l. map g.P.Holder.point l ++ gathered f (map g.P.Holder.point c.in_ok-holders.holders.items)) c.in_ok-push.ensures.items
    ∙ ap (λ l. l ++ gathered f (map g.P.Holder.point c.in_ok-holders.holders.items)) (map-append g.P.Holder.point c.args.into.now.items (c.in_ok-retired.retired ∷ []))
    ∙ append_assoc into (g.P.Holder.point c.in_ok-retired.retired ∷ []) (gathered f (map g.P.Holder.point c.in_ok-holders.holders.items))
    ∙ ap (λ l. into ++ g.P.Holder.point c.in_ok-retired.retired ∷ gathered f l) c.in_ok-holders.ensures
    ∙ ap (λ q. into ++ q ∷ gathered f (nexts topology p)) c.in_ok-retired.ensures
    ∙ ap (λ l. into ++ l) (sym (retires_on topology c.args.slot (c.args.most - 1) p))
    ∙ ap (λ n. into ++ retires topology c.args.slot n p) more

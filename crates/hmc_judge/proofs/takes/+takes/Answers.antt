use Rattle.std.proofs.Common.{◌≡◌, ◌∙◌, ◌-◌, ◌++◌, ◌∷◌, [], Some, None, suc, true, false, map, get_or, sym, ap, subst, arith}
use Rattle.std.specs.List.{remove, position}
use Rattle.std.proofs.lemmas.List.{map-append, append-nil}
use Rattle.hmc_search.specs.Alone.{alone}
use Rattle.hmc_search.specs.Kept.{same_answer, takes, gathered}
use Rattle.hmc_search.specs.Point.{ready_under, Point}
use Rattle.hmc_search.specs.Standing.{front_if}
use Rattle.hmc_search.proofs.AtHand.{at_place, at_no_place}
use Rattle.hmc_judge.proofs.Lists.{none_gathered, one_gathered, all_gathered, takes_on, takes_none, takes_hand}
use Rattle.hmc_judge.proofs.takes.+takes.Goals as goal

pub returns-in_ok-push : goal.returns-in_ok-push
returns-in_ok-push g t c =
    let p = g.P.Holder.point c.args.holder.now in
    let y = c.index-ready-at.result in
    let at = c.in-Some.at in
    let answer = c.args.answer.now in
    let into = map g.P.Holder.point c.args.into.now.items in
    let place : position (ready_under c.args.host c.args.tag) p.ready ≡ Some at =
    subst (λ l. position (ready_under c.args.host c.args.tag) l ≡ Some at) c.ready.ensures (sym c.place_at_hand.ensures ∙ c.in-Some.is) in
    let fits : true ≡ same_answer (get_or p.ready at y).answer answer =
    subst (λ l. true ≡ same_answer (get_or l at y).answer answer) c.ready-in-Some.ensures c.if-same_answer.ensures in
    let all : takes (alone c.args.shapes.now) c.args.host c.args.tag answer c.args.most p ≡ g.P.Holder.point c.in_ok-taken.taken ∷ [] =
    takes_hand (alone c.args.shapes.now) c.args.host c.args.tag answer c.args.most p (record { answer = (get_or p.ready at y).answer; rest = remove p.ready at })
    (at_place c.args.host c.args.tag p.ready at y place)
    ∙ ap (λ b. front_if b (let made : Point = record p { ready = remove p.ready at } in made) []) (sym fits)
    ∙ ap (λ q. q ∷ []) (sym c.in_ok-taken.ensures) in
    ap (map g.P.Holder.point) c.in_ok-push.ensures.items
    ∙ map-append g.P.Holder.point c.args.into.now.items (c.in_ok-taken.taken ∷ [])
    ∙ ap (λ l. into ++ l) (sym all)

pub returns-else-same_answer : goal.returns-else-same_answer
returns-else-same_answer g t c =
    let p = g.P.Holder.point c.args.holder.now in
    let y = c.index-ready-at.result in
    let at = c.in-Some.at in
    let answer = c.args.answer.now in
    let into = map g.P.Holder.point c.args.into.now.items in
    let place : position (ready_under c.args.host c.args.tag) p.ready ≡ Some at =
    subst (λ l. position (ready_under c.args.host c.args.tag) l ≡ Some at) c.ready.ensures (sym c.place_at_hand.ensures ∙ c.in-Some.is) in
    let fits : false ≡ same_answer (get_or p.ready at y).answer answer =
    subst (λ l. false ≡ same_answer (get_or l at y).answer answer) c.ready-in-Some.ensures c.if-same_answer.ensures in
    let all : takes (alone c.args.shapes.now) c.args.host c.args.tag answer c.args.most p ≡ [] =
    takes_hand (alone c.args.shapes.now) c.args.host c.args.tag answer c.args.most p (record { answer = (get_or p.ready at y).answer; rest = remove p.ready at })
    (at_place c.args.host c.args.tag p.ready at y place)
    ∙ ap (λ b. front_if b (let made : Point = record p { ready = remove p.ready at } in made) []) (sym fits) in
    sym (append-nil into) ∙ ap (λ l. into ++ l) (sym all)

pub returns-then-most-eq0 : goal.returns-then-most-eq0
returns-then-most-eq0 g t c =
    let p = g.P.Holder.point c.args.holder.now in
    let answer = c.args.answer.now in
    let into = map g.P.Holder.point c.args.into.now.items in
    let place : position (ready_under c.args.host c.args.tag) p.ready ≡ None =
    subst (λ l. position (ready_under c.args.host c.args.tag) l ≡ None) c.ready.ensures (sym c.place_at_hand.ensures ∙ c.in_default.is) in
    let all : takes (alone c.args.shapes.now) c.args.host c.args.tag answer c.args.most p ≡ [] =
    ap (λ n. takes (alone c.args.shapes.now) c.args.host c.args.tag answer n p) c.if-most-eq0.true
    ∙ takes_none (alone c.args.shapes.now) c.args.host c.args.tag answer p (at_no_place c.args.host c.args.tag p.ready place) in
    sym (append-nil into) ∙ ap (λ l. into ++ l) (sym all)

pub holders-init : goal.holders-init
holders-init g t c = none_gathered (λ p. takes (alone c.args.shapes.now) c.args.host c.args.tag c.args.answer.now (c.args.most - 1) p) g.P.Holder.point (map g.P.Holder.point c.args.into.now.items) c.in_ok-holders.holders.items

pub holders-preserved : goal.holders-preserved
holders-preserved g t c =
    let into = map g.P.Holder.point c.holders.into.items in
    one_gathered (λ p. takes (alone c.args.shapes.now) c.args.host c.args.tag c.args.answer.now (c.args.most - 1) p) g.P.Holder.point
    into (map g.P.Holder.point c.takes.new.into.items) c.in_ok-holders.holders.items c.holders.at c.index.result.now
    (omega (arith, c.holders-test.true, c.len-at-end.ensures))
    (c.in_ok-takes.ensures
    ∙ ap (λ q. into ++ takes (alone c.args.shapes.now) c.args.host c.args.tag c.args.answer.now (c.args.most - 1) (g.P.Holder.point q)) c.index.ensures)
    ∙ c.holders.invariant

pub returns : goal.returns
returns g t c =
    let topology = alone c.args.shapes.now in
    let p = g.P.Holder.point c.args.holder.now in
    let answer = c.args.answer.now in
    let into = map g.P.Holder.point c.args.into.now.items in
    let f = λ (q : Point). takes topology c.args.host c.args.tag answer (c.args.most - 1) q in
    let place : position (ready_under c.args.host c.args.tag) p.ready ≡ None =
    subst (λ l. position (ready_under c.args.host c.args.tag) l ≡ None) c.ready.ensures (sym c.place_at_hand.ensures ∙ c.in_default.is) in
    let more : suc (c.args.most - 1) ≡ c.args.most = omega (arith, c.if-most-eq0.false) in
    sym (all_gathered f g.P.Holder.point (map g.P.Holder.point c.holders.into.items) c.in_ok-holders.holders.items c.holders.at
    (omega (arith, c.holders-test.false, c.len-at-end.ensures)))
    ∙ c.holders.invariant
    ∙ ap (λ l. into ++ gathered f l) c.in_ok-holders.ensures
    ∙ ap (λ l. into ++ l) (sym (takes_on topology c.args.host c.args.tag answer (c.args.most - 1) p (at_no_place c.args.host c.args.tag p.ready place)))
    ∙ ap (λ n. into ++ takes topology c.args.host c.args.tag answer n p) more

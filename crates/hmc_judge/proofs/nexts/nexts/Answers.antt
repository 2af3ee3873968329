use Rattle.std.proofs.Common.{◌≡◌, ◌∙◌, ◌<◌, ◌≤◌, ◌+◌, ◌++◌, ◌∷◌, [], map, take, length, get_or, sym, ap, subst}
use Rattle.std.proofs.lemmas.List.{map-append}
use Rattle.hmc_search.specs.Alone.{alone}
use Rattle.hmc_search.specs.Kept.{is_free}
use Rattle.hmc_judge.proofs.Lists.{to_make, none_made, one_made, not_made, all_made}
use Rattle.hmc_judge.proofs.nexts.nexts.Goals as goal
use Rattle.hmc_judge.proofs.nexts.nexts.Goals.{then-is_free+in_ok-next+in_ok-push, else-is_free}

pub places-init : goal.places-init
places-init g c = let p = g.P.Holder.point c.args.holder.now in
    ap (λ l. to_make (alone c.args.shapes.now) p (map g.P.Holder.point l) 0) c.new-holders.ensures.items ∙ none_made (alone c.args.shapes.now) p

pub places-preserved : goal.places-preserved
places-preserved g c =
    let topology = alone c.args.shapes.now in
    let p = g.P.Holder.point c.args.holder.now in
    let at = c.places.at in
    let x = c.index-waiting-at.result in
    let made = map g.P.Holder.point c.places.holders.items in
    let less : at < length p.waiting = subst (λ l. at < length l) c.waiting-waiting.ensures c.places-test.true in
    let free : is_free topology (get_or p.waiting at x) (take at p.waiting) ≡ c.is_free.result =
    subst (λ l. is_free topology (get_or l at x) (take at l) ≡ c.is_free.result) c.waiting-waiting.ensures
    (ap (λ v. is_free topology v (take at c.waiting-waiting.result.now)) (sym c.index-waiting-at.is) ∙ sym c.is_free.ensures) in
    elim c.if-is_free.branch [
      | then-is_free+in_ok-next+in_ok-push w ↦
          ap (λ h. to_make topology p (map g.P.Holder.point h.items) (at + 1)) w.holders-is
          ∙ ap (λ l. to_make topology p (map g.P.Holder.point l) (at + 1)) w.in_ok-push.ensures.items
          ∙ ap (λ l. to_make topology p l (at + 1)) (map-append g.P.Holder.point c.places.holders.items (w.in_ok-next.next ∷ []))
          ∙ ap (λ y. to_make topology p (made ++ y ∷ []) (at + 1)) (w.in_ok-next.ensures x)
          ∙ one_made topology p made at x less (free ∙ w.if-is_free.true)
          ∙ c.places.invariant
      | else-is_free w ↦
          ap (λ h. to_make topology p (map g.P.Holder.point h.items) (at + 1)) w.holders-is
          ∙ not_made topology p made at x less (free ∙ w.if-is_free.false)
          ∙ c.places.invariant
    ]

pub returns : goal.returns
returns g c =
    let topology = alone c.args.shapes.now in
    let p = g.P.Holder.point c.args.holder.now in
    sym (all_made topology p (map g.P.Holder.point c.places.holders.items) c.places.at
    (subst (λ l. length l ≤ c.places.at) c.waiting-waiting.ensures c.places-test.false))
    ∙ c.places.invariant

use Rattle.std.proofs.Common.{◌≡◌, ◌∙◌, ◌<◌, ◌++◌, ◌∷◌, [], suc, map, length, sym, ap, subst, arith}
use Rattle.std.proofs.lemmas.List.{length-map}
use Rattle.hmc_search.specs.Alone.{alone}
use Rattle.hmc_judge.specs.Judging.{IsExplainedUpTo, IsFirstImpossible, IsTooMany}
use Rattle.hmc_judge.specs.Explaining.{first_entries}
use Rattle.hmc_judge.proofs.Logs.{first_untagged, kept_next, kept_none, next_suc, no_kept, some_kept}
use Rattle.hmc_judge.proofs.verdict.judge_from.Goals as goal

pub entries-init : goal.entries-init
entries-init g c =
    let one : c.push.new.self.items ≡ c.args.first ∷ [] =
    c.in_ok-push.ensures.items ∙ ap (λ l. l ++ c.args.first ∷ []) c.new-holders.ensures.items in
    record {
      some = subst (λ l. 0 < length l) (sym one) (omega arith);
      kept = λ opening is. ap (map g.P.Holder.point) one ∙ ap (λ p. p ∷ []) is ∙ sym (kept_none (alone c.args.shapes.now) opening);
    }

pub returns-then-count-eq0-clause-impossible : goal.returns-then-count-eq0-clause-impossible
returns-then-count-eq0-clause-impossible g c = λ opening at is result.
    let topology = alone c.args.shapes.now in
    let log = c.args.log.now in
    let point = g.P.Holder.point in
    let i = c.entries.at in
    let next = kept_next topology opening log i c.index-log-at.result c.index-log-at.result c.entries-test.true c.index-log-at.is
    (map point c.entries.holders.items) (map point c.in_ok-next.next.items) (c.entries.invariant.kept opening is) c.in_ok-next.ensures in
    let made : IsFirstImpossible c.args.shapes.now opening log i = record {
      there = c.entries-test.true;
      before = some_kept topology opening (first_entries i log) (first_untagged log i c.requires.untagged)
          (subst (λ l. 0 < length l) (c.entries.invariant.kept opening is)
          (subst (λ n. 0 < n) (sym (length-map c.entries.holders.items point)) c.entries.invariant.some));
      impossible = no_kept topology opening (first_entries (suc i) log) (first_untagged log (suc i) c.requires.untagged)
          (map point c.in_ok-next.next.items) (sym (next ∙ next_suc topology opening log i))
          (length-map c.in_ok-next.next.items point ∙ omega (arith, c.len-count.ensures, c.if-count-eq0.true));
    } in
    subst (λ n. IsFirstImpossible c.args.shapes.now opening log n) (cc) made

pub returns-then-count-limit-clause-undecided : goal.returns-then-count-limit-clause-undecided
returns-then-count-limit-clause-undecided g c = λ opening at is result.
    let topology = alone c.args.shapes.now in
    let log = c.args.log.now in
    let point = g.P.Holder.point in
    let i = c.entries.at in
    let next = kept_next topology opening log i c.index-log-at.result c.index-log-at.result c.entries-test.true c.index-log-at.is
    (map point c.entries.holders.items) (map point c.in_ok-next.next.items) (c.entries.invariant.kept opening is) c.in_ok-next.ensures in
    let made : IsTooMany c.args.shapes.now opening log c.args.limit i = record {
      there = c.entries-test.true;
      many = subst (λ l. c.args.limit < length l) (next ∙ next_suc topology opening log i)
          (subst (λ n. c.args.limit < n) (sym (length-map c.in_ok-next.next.items point)) (omega (arith, c.len-count.ensures, c.if-count-limit.true)));
    } in
    subst (λ n. IsTooMany c.args.shapes.now opening log c.args.limit n) (cc) made

pub entries-preserved : goal.entries-preserved
entries-preserved g c =
    let topology = alone c.args.shapes.now in
    let log = c.args.log.now in
    let point = g.P.Holder.point in
    let i = c.entries.at in
    record {
      some = let other = c.if-count-eq0.false in omega (arith, c.len-count.ensures);
      kept = λ opening is. kept_next topology opening log i c.index-log-at.result c.index-log-at.result c.entries-test.true c.index-log-at.is
          (map point c.entries.holders.items) (map point c.in_ok-next.next.items) (c.entries.invariant.kept opening is) c.in_ok-next.ensures;
    }

pub returns-clause-possible : goal.returns-clause-possible
returns-clause-possible g c = λ opening is result.
    let topology = alone c.args.shapes.now in
    let log = c.args.log.now in
    let point = g.P.Holder.point in
    let i = c.entries.at in
    subst (λ n. IsExplainedUpTo c.args.shapes.now opening log n) (let e : i ≡ length log = omega (arith, c.entries-test.false, c.entries.auto) in e)
    (some_kept topology opening (first_entries i log) (first_untagged log i c.requires.untagged)
    (subst (λ l. 0 < length l) (c.entries.invariant.kept opening is)
    (subst (λ n. 0 < n) (sym (length-map c.entries.holders.items point)) c.entries.invariant.some)))

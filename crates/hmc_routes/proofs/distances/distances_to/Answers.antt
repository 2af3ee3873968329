use Rattle.std.proofs.Common.{◌≡◌, ◌∙◌, ◌+◌, ℕ, suc, cond, false, slice_index_or, sym, ap, arith}
use Rattle.hmc_routes.proofs.Agree.{near-suc}
use Rattle.hmc_routes.proofs.Firsts.{first, first-le, first-suc}
use Rattle.hmc_routes.proofs.Walks.{walks_grow}
use Rattle.hmc_routes.specs.Distance.{within}
use Rattle.hmc_routes.proofs.distances.distances_to.Goals as goal

pub count_hops-distances-requires-clause-below : goal.count_hops-distances-requires-clause-below
count_hops-distances-requires-clause-below c = λ cube below.
    let graph = c.args.graph.now in
    let low = first-le (λ (n : ℕ). within graph c.args.goal n cube) c.hops._hops in
    omega (arith, low, c.hops.invariant.distances cube below, c.hops-test.true, c.cubes-hops-end.ensures, c.requires.graph.few_cubes)

pub hops-preserved : goal.hops-preserved
hops-preserved c =
    let graph = c.args.graph.now in
    let hops = c.hops._hops in
    let more : suc hops ≡ hops + 1 = omega arith in
    record {
      near = λ cube below.
          c.one_hop_more-near.ensures cube below
          ∙ near-suc graph c.args.goal hops cube (λ k. slice_index_or c.hops.near k false) c.requires.graph below c.hops.invariant.near
          ∙ ap (λ (n : ℕ). within graph c.args.goal n cube) more;
      distances = λ cube below.
          c.count_hops-distances.ensures cube below
          ∙ ap (λ (d : ℕ). d + cond (slice_index_or c.hops.near cube false) 0 1) (c.hops.invariant.distances cube below)
          ∙ ap (λ b. first (λ (n : ℕ). within graph c.args.goal n cube) hops + cond b 0 1) (c.hops.invariant.near cube below)
          ∙ sym (first-suc (λ (n : ℕ). within graph c.args.goal n cube) hops (walks_grow graph c.args.goal cube))
          ∙ ap (λ (n : ℕ). first (λ (m : ℕ). within graph c.args.goal m cube) n) more;
    }

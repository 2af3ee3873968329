-- A memory is whole blocks, and no shape has more than 2 ^ 27 bytes.
use Rattle.std.proofs.Common.{◌≤◌, ◌%◌, ◌^◌, ◌∙◌, ap, sym, subst}
use Rattle.hmc_kept.proofs.Sizes.{capacity_blocks, capacity_most}
use Rattle.hmc_net.proofs.shown.whole_size.Goals as goal

pub returns-clause-blocks : goal.returns-clause-blocks
returns-clause-blocks c = ap (λ n. n % 16) c.capacity.ensures ∙ capacity_blocks c.args.cube.now.state.shape c.invariant.ensures.state.is_shape

pub returns-clause-most : goal.returns-clause-most
returns-clause-most c = subst (λ n. n ≤ 2 ^ 27) (sym c.capacity.ensures) (capacity_most c.args.cube.now.state.shape c.invariant.ensures.state.is_shape)

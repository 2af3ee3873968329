-- The lengths are those that the bytes are cut by.
use Rattle.std.proofs.Common.{◌∙◌, length, ap}
use Rattle.std.specs.Prelude.{map}
use Rattle.hmc_outside.specs.Cut.{PiecesFields}
use Rattle.hmc_outside.proofs.CutLemmas.{lengths-cut}
use Rattle.hmc_outside.proofs.pieces.Pieces.lengths.Goals as goal

pub returns : goal.returns
returns c = c.deref.ensures.value ∙ lengths-cut _ _ c.self.invariant.whole ∙ ap (λ (p : PiecesFields). map length p.pieces) c.self.view_is

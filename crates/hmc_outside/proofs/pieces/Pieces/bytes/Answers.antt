-- The bytes are those of all pieces.
use Rattle.std.proofs.Common.{◌≡◌, ◌∙◌, length, sym, ap, arith}
use Rattle.std.specs.List.{concat}
use Rattle.hmc_outside.specs.Cut.{PiecesFields}
use Rattle.hmc_outside.proofs.CutLemmas.{concat-cut}
use Rattle.hmc_outside.proofs.pieces.Pieces.bytes.Goals as goal

pub returns-clause-joined : goal.returns-clause-joined
returns-clause-joined c = c.deref.ensures.value ∙ sym (concat-cut _ _ c.self.invariant.whole) ∙ ap (λ (p : PiecesFields). concat p.pieces) c.self.view_is

pub returns-clause-within : goal.returns-clause-within
returns-clause-within c =
    let bytes : length (concat c.args.self.now.pieces) ≡ length c.self.inside.bytes.items =
    ap (λ (p : PiecesFields). length (concat p.pieces)) (sym c.self.view_is) ∙ ap length (concat-cut _ _ c.self.invariant.whole) in
    let room : c.args.self.now.room ≡ c.self.inside.room = ap (λ (p : PiecesFields). p.room) (sym c.self.view_is) in
    omega (arith, bytes, room, c.self.invariant.within)

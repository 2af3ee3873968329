-- The bytes and the lengths grow by one piece, for which there is room.
use Rattle.std.proofs.Common.{◌≡◌, ◌<◌, ◌≤◌, ◌+◌, ◌∙◌, ◌++◌, length, sym, ap, arith}
use Rattle.std.specs.List.{concat}
use Rattle.hmc_outside.specs.Cut.{PiecesFields}
use Rattle.hmc_outside.specs.Pieces.{pieces_of}
use Rattle.hmc_outside.proofs.CutLemmas.{concat-cut, cut-grown, ArePieces-grown}
use Rattle.hmc_outside.proofs.pieces.Pieces.add.Goals as goal

pub keep-requires : goal.keep-requires
keep-requires c =
    let bytes : length (concat c.args.self.now.pieces) ≡ length c.self.inside.bytes.items =
    ap (λ (p : PiecesFields). length (concat p.pieces)) (sym c.self.view_is) ∙ ap length (concat-cut _ _ c.self.invariant.whole) in
    let room : c.args.self.now.room ≡ c.self.inside.room = ap (λ (p : PiecesFields). p.room) (sym c.self.view_is) in
    omega (arith, bytes, room, c.requires, c.self.invariant.within, c.self.invariant.bytes_room)

pub append-requires : goal.append-requires
append-requires c =
    let bytes : length (concat c.args.self.now.pieces) ≡ length c.self.inside.bytes.items =
    ap (λ (p : PiecesFields). length (concat p.pieces)) (sym c.self.view_is) ∙ ap length (concat-cut _ _ c.self.invariant.whole) in
    let room : c.args.self.now.room ≡ c.self.inside.room = ap (λ (p : PiecesFields). p.room) (sym c.self.view_is) in
    let some : 0 < length c.args.bytes.now = grind (arith, c.is_empty.ensures, c.if-is_empty.false) in
    omega (arith, bytes, room, some, c.requires, c.self.invariant.few, c.self.invariant.within, c.self.invariant.lengths_room)

pub invariant_of-self : goal.invariant_of-self
invariant_of-self c =
    let bytes : length (concat c.args.self.now.pieces) ≡ length c.self.inside.bytes.items =
    ap (λ (p : PiecesFields). length (concat p.pieces)) (sym c.self.view_is) ∙ ap length (concat-cut _ _ c.self.invariant.whole) in
    let room : c.args.self.now.room ≡ c.self.inside.room = ap (λ (p : PiecesFields). p.room) (sym c.self.view_is) in
    let some : 0 < length c.args.bytes.now = grind (arith, c.is_empty.ensures, c.if-is_empty.false) in
    let fits : length c.self.inside.bytes.items + length c.args.bytes.now ≤ c.self.inside.room = omega (arith, bytes, room, c.requires, c.self.invariant.within) in
    ArePieces-grown c.self.inside.bytes.items c.self.inside.lengths.items c.args.bytes.now _ _ _ _ _ _ _ c.self.invariant some fits c.keep.ensures.items c.append.ensures.items c.keep.ensures.reserved c.append.ensures.reserved

pub returns-clause-pieces : goal.returns-clause-pieces
returns-clause-pieces c =
    let some : 0 < length c.args.bytes.now = grind (arith, c.is_empty.ensures, c.if-is_empty.false) in
    cut-grown c.self.inside.bytes.items c.self.inside.lengths.items c.args.bytes.now _ _ c.self.invariant.whole some c.keep.ensures.items c.append.ensures.items
    ∙ ap (λ (p : PiecesFields). p.pieces ++ pieces_of c.args.bytes.now) c.self.view_is

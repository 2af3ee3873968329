use Rattle.std.proofs.Common.{◌≡◌, ◌≤◌, ◌<◌, ◌∙◌, length, slice_index_or, ap, subst}
use Rattle.hmc_codes.specs.Request.{RequestFields}
use Rattle.hmc_serial.specs.Unit.{unit_of}
use Rattle.hmc_journal.specs.Setup.{shape_of}
use Rattle.hmc_search.specs.Alone.{alone}
use Rattle.hmc_search.proofs.Alone.{shape_alone, unit_nowhere}
use Rattle.hmc_search.proofs.free.unit_in.Goals as goal

pub returns-then-from-shapes : goal.returns-then-from-shapes
returns-then-from-shapes c =
    let cube : c.from.result ≡ c.args.request.now.cube =
    c.from.ensures ∙ ap (λ (r : RequestFields). r.cube) c.request.view_is in
    let cube2 : c.from-then-from-shapes.result ≡ c.args.request.now.cube =
    c.from-then-from-shapes.ensures ∙ ap (λ (r : RequestFields). r.cube) c.request.view_is in
    let at : c.index-shapes-from.result ≡ shape_of (alone c.args.shapes.now) c.args.request.now.cube =
    c.index-shapes-from.is
    ∙ ap (λ i. slice_index_or c.args.shapes.now i c.index-shapes-from.result) cube2
    ∙ shape_alone c.args.shapes.now c.args.request.now.cube c.index-shapes-from.result
    (subst (λ i. i < length c.args.shapes.now) cube c.if-from-shapes.true) in
    c.unit_of.ensures ∙ ap (λ s. unit_of s c.args.request.now) at

pub returns : goal.returns
returns c =
    let cube : c.from.result ≡ c.args.request.now.cube =
    c.from.ensures ∙ ap (λ (r : RequestFields). r.cube) c.request.view_is in
    c.unit_of-2.ensures ∙ unit_nowhere c.args.shapes.now c.args.request.now
    (subst (λ i. length c.args.shapes.now ≤ i) cube c.if-from-shapes.false)

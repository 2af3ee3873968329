-- One line more; or one broke off; or none is left.
use Rattle.std.proofs.Common.{◌≤◌, ◌∙◌, ◌∷◌, [], length, refl, subst, arith}
use Rattle.hmc_outside.specs.Lines.{WritesLines, BreaksOff}
use Rattle.hmc_script.specs.Text.{item_text}
use Rattle.hmc_replay.proofs.Reports.{lines-start, lines-one, lines-broken, lines-all}
use Rattle.hmc_replay.proofs.TraceLines.{next_line, no_line}
use Rattle.hmc_replay.proofs.trace.write_items.Goals as goal

pub items-init : goal.items-init
items-init g c = lines-start _ _ _ refl

pub items-preserved : goal.items-preserved
items-preserved g c =
    let before = c.items.invariant in
    let here = subst (λ l. WritesLines (g.O.Sink.shows c.items.sink)
    (g.O.Sink.shows c.write_line.new.sink) (l ∷ []))
    (c.as_str.ensures.value ∙ c.item_lines.ensures.text) c.in-Ok.ensures in
    let next = next_line item_text c.args.script.now c.items.at _ _ c.item-item.ensures.item
    (omega arith) in
    lines-one _ _ _ _ before.0 _ _ _ before.1 next before.2 here

pub returns-in-Err : goal.returns-in-Err
returns-in-Err g c =
    let before = c.items.invariant in
    let here = subst (λ l. BreaksOff (g.O.Sink.shows c.items.sink)
    (g.O.Sink.shows c.write_line.new.sink) (l ∷ []))
    (c.as_str.ensures.value ∙ c.item_lines.ensures.text) c.in-Err.ensures in
    let next = next_line item_text c.args.script.now c.items.at _ _ c.item-item.ensures.item refl in
    lines-broken _ _ _ _ before.0 _ _ _ before.1 next before.2 here

pub returns : goal.returns
returns g c =
    let before = c.items.invariant in
    let end : length c.args.script.now ≤ c.items.at =
    omega (arith, c.items-test.false, c.len-at-end.ensures) in
    lines-all _ _ _ before.0 _ before.1 (no_line item_text c.args.script.now c.items.at end)
    before.2

use Rattle.std.proofs.Common.{◌∙◌, ◌++◌, sym, ap, arith}
use Rattle.std.proofs.lemmas.List.{take_all}
use Rattle.std.proofs.lemmas.Option.{slice_get_within, get_or_from_slice_get}
use Rattle.hmc_script.specs.Text.{item_text, script_text}
use Rattle.hmc_script.proofs.TextLemmas.{script_text-[], script_text-more}
use Rattle.hmc_script.proofs.print.print_items.Goals as goal

pub items-init : goal.items-init
items-init c = c.new-text.ensures.bytes ∙ sym script_text-[]

pub items-preserved : goal.items-preserved
items-preserved c =
    let script = c.args.script.now in
    let item = c.item.result in
    let at = c.items.at in
    c.in_default.ensures ∙ ap (λ l. l ++ item_text item) c.items.invariant ∙ sym (script_text-more script at item (slice_get_within script at item c.item.ensures.item) (sym (get_or_from_slice_get script at item item c.item.ensures.item)))

pub returns : goal.returns
returns c =
    c.items.invariant ∙ ap script_text (take_all c.items.at c.args.script.now (omega (arith, c.items-test.false, c.len-at-end.ensures)))
